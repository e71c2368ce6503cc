-- The entries of an object in rising order of their keys.
use Rattle.std.specs.Prelude.{◌≡◌, ℕ, List, Option, Some, None}
use Rattle.std.specs.BTreeMap.{BTreeMap}
use Rattle.std.specs.Borrow.{Bor}
use Rattle.std.specs.Cmp.Lexicographic.{slice_cmp}
use Rattle.std.specs.List.{AllZip}
use Rattle.std.specs.Ordering.{nat_cmp}
use Rattle.std.specs.declared.cmp.Ordering.TheVariants.{Less}
use Rattle.bser_format.specs.Tree.{Tree, entries}
use Rattle.bser_format.specs.Tree as trees
use Rattle.bser_document.specs.declared.item.Item.{Item}
use Rattle.bser_document.specs.Holds.{HoldsItem}

-- a key is this one, and its item is this value
abbrev pub IsEntry : List ℕ × Tree → Bor (List ℕ) × Item → Type 0
IsEntry p e = (e.0.now ≡ p.0) × HoldsItem e.1 p.1

-- these keys in this order, each with an item of its value, and no others
abbrev pub Lists : List (List ℕ × Tree) → List (Bor (List ℕ) × Item) → Type 0
Lists m es = AllZip IsEntry m es

-- the entries of an object are found, and else none are
abbrev pub FindsSorted : Option trees.Entries → Option (BTreeMap (Bor (List ℕ)) Item) → Type 0
FindsSorted (Some es) (Some map) = Lists (entries es) map.entries
FindsSorted None None = Unit {0}
FindsSorted _ _ = ⊥

-- a key is above the one before it, where there is one
abbrev pub IsAbove : Option (List ℕ) → List ℕ → Type 0
IsAbove None key = Unit {0}
IsAbove (Some before) key = slice_cmp nat_cmp before key ≡ Less
