-- The last place of each key of a template, in a map, and the fields of a row that take their slots.
use Rattle.std.specs.Prelude.{◌≡◌, ℕ, suc, ◌<◌, pos, List, [], ◌∷◌, length, map, get_or, set, String}
use Rattle.std.specs.declared.alloc.Global.{Global}
use Rattle.std.specs.BTreeMap.{BTreeMap}
use Rattle.std.specs.List.{zip}
use Rattle.bser_format.specs.Tree.{Tree, integer}
use Rattle.bser_format.specs.Normal.{last_entries}
use Rattle.bser_value.specs.Made.{with_entry}
use Rattle.bser_value.specs.declared.value.Value.{Value, Null}
use Rattle.bser_value.specs.ValueView.{tree_of, entry_trees}

-- an entry was put in; the last of equal keys stays
abbrev pub PutsEntry : List ℕ → Tree → BTreeMap (String Global) Value → BTreeMap (String Global) Value → Type 0
PutsEntry key t old new = entry_trees new.entries ≡ with_entry (entry_trees old.entries) key t

-- the places from n on, a number for each key
abbrev pub places_from : ℕ → List (List ℕ) → List Tree
places_from n [] = []
places_from n (k ∷ ks) = integer (pos n) ∷ places_from (suc n) ks

-- the entries have each key, with the last place at which it occurs
abbrev pub ArePlaces : List (List ℕ) → List (String Global × Value) → Type 0
ArePlaces ks es = entry_trees es ≡ last_entries (zip ks (places_from 0 ks))

-- a slot with a place of the row has the field there afterwards, and the row has null in its stead
abbrev pub TakesPlace : Value → List Value → Value → List Value → Type 0
TakesPlace slot row field left = (p : ℕ) → tree_of slot ≡ integer (pos p) → p < length row → (field ≡ get_or row p Null) × (left ≡ set row p Null)

-- entries with the last place of each key have the field there afterwards
abbrev pub TakesFields : List (String Global × Value) → List Value → List (String Global × Value) → Type 0
TakesFields before row after = (ks : List (List ℕ)) → length row ≡ length ks → ArePlaces ks before → entry_trees after ≡ last_entries (zip ks (map tree_of row))
