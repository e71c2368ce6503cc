-- The keys of a template in rising order, and the fields of a row by their places.
use Rattle.std.specs.Prelude.{◌≡◌, ℕ, suc, zero, List, [], ◌∷◌, map, Option, Some, None}
use Rattle.std.specs.Borrow.{Bor}
use Rattle.std.specs.List.{AllZip}
use Rattle.bser_format.specs.Normal.{last_entries}
use Rattle.bser_format.specs.Tree.{Tree, null}
use Rattle.bser_document.specs.declared.document.Document.{Document}
use Rattle.bser_document.specs.declared.item.Item.{Item}
use Rattle.bser_document.specs.declared.order.RowFields.{RowFields}
use Rattle.bser_document.specs.Holds.{HoldsItem, IsPart}
use Rattle.bser_document.specs.Rows.{Pair}

-- each key with its place, from this one on
abbrev pub placed_from : ℕ → List (List ℕ) → List (List ℕ × ℕ)
placed_from n [] = []
placed_from n (k ∷ ks) = (k, n) ∷ placed_from (suc n) ks

-- the keys in rising order, each once with its last place
abbrev pub last_places : List (List ℕ) → List (List ℕ × ℕ)
last_places ks = last_entries (placed_from 0 ks)

-- keys and places
abbrev pub shown : List (Bor (List ℕ) × ℕ) → List (List ℕ × ℕ)
shown es = map (λ e. (e.0.now, e.1)) es

-- the value at this place, or null behind the last
abbrev pub value_at : List Pair → ℕ → Tree
value_at [] n = null
value_at (p ∷ m) zero = p.1
value_at (p ∷ m) (suc n) = value_at m n

-- the values of these pairs begin at these places
abbrev pub AreAt : Bor Document → List Pair → List ℕ → Type 0
AreAt d m places = AllZip (λ p at. IsPart d.now None at p.1) m places

-- the fields of a row are found
abbrev pub HoldsFields : RowFields → List Pair → Type 0
HoldsFields f m = AreAt f.document m f.places.items

-- an item of this value, or none where the value is null
abbrev pub FindsField : Tree → Option Item → Type 0
FindsField u (Some i) = HoldsItem i u
FindsField u None = u ≡ null
