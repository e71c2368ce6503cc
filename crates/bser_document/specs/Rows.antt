-- The rows of a template that are still to come, and their fields.
use Rattle.std.specs.Prelude.{◌≡◌, ◌+◌, ℕ, zero, suc, List, [], ◌∷◌, length, Option, Some, None, cond, option_map, option_and_then}
use Rattle.std.specs.List.{AllByRecursion}
use Rattle.bser_format.specs.Expand.{expand_fields}
use Rattle.bser_format.specs.Normal.{normal_entries, last_entries}
use Rattle.bser_format.specs.SameTree.{same_bytes}
use Rattle.bser_format.specs.Tree.{Tree, array, object, template, Items, no_items, item, entries_of, Fields, fields, no_rows, row, rows}
use Rattle.bser_format.specs.Tree as trees
use Rattle.bser_deserializer.specs.WholeRows.{RowsHaveWholeRows, FieldsHaveWholeRows}
use Rattle.bser_value.specs.Contents.{get}
use Rattle.bser_document.specs.declared.item.Item.{Item}
use Rattle.bser_document.specs.declared.rows.Rows.{Rows}
use Rattle.bser_document.specs.declared.rows.Row.{Row}
use Rattle.bser_document.specs.Spans.{TreeLies, RowsLie, FieldsLie}
use Rattle.bser_document.specs.Holds.{ShowsKeys, HasTexts}

-- a key and the value of its field
abbrev pub Pair : Type 0
Pair = List ℕ × Tree

-- the object that is read of a row
abbrev pub row_object : List Pair → Tree
row_object m = object (entries_of (last_entries m))

-- the objects of rows
abbrev pub row_objects : List (List Pair) → Items
row_objects [] = no_items
row_objects (m ∷ ms) = item (row_object m) (row_objects ms)

-- the keys and fields of each row, as they are read, a skipped field as null
abbrev pub rows_value : List (List ℕ) → trees.Rows → Option (List (List Pair))
rows_value ks no_rows = Some []
rows_value ks (row fs rs) = option_and_then (λ m. option_map (λ ms. m ∷ ms) (rows_value ks rs)) (normal_entries (expand_fields ks fs))

-- a row has these fields under these keys
pub record HoldsRow (r : Row) (ks : List (List ℕ)) (m : List Pair) : Type 0 where
  pub spelled : Fields
  pub long : r.len ≡ length ks
  pub count : length (fields spelled) ≡ length ks
  pub lie : FieldsLie r.document.now spelled r.at
  pub value : normal_entries (expand_fields ks spelled) ≡ Some m
  pub whole : FieldsHaveWholeRows spelled
  pub texts : HasTexts r.document.now

-- these rows are still to come, under these keys
pub record HoldsRows (s : Rows) (ks : List (List ℕ)) (ms : List (List Pair)) : Type 0 where
  pub spelled : trees.Rows
  pub shows : ShowsKeys s.document.now s.keys ks
  pub full : AllByRecursion (λ r. length r ≡ length ks) (rows spelled)
  pub lie : RowsLie s.document.now spelled s.at
  pub count : s.left ≡ length (rows spelled)
  pub value : rows_value ks spelled ≡ Some ms
  pub whole : RowsHaveWholeRows spelled
  pub texts : HasTexts s.document.now

-- a value is the array of the objects of these rows
pub record ReadsRows (s : Rows) (u : Tree) : Type 0 where
  pub keys : List (List ℕ)
  pub pairs : List (List Pair)
  pub same : u ≡ array (row_objects pairs)
  pub holds : HoldsRows s keys pairs

-- an item is spelled as a template
abbrev pub IsTemplateAt : Item → Type 0
IsTemplateAt i = (ks : List (List ℕ)) × (rs : trees.Rows) × (i.keys ≡ None) × TreeLies i.document.now (template ks rs) i.at

-- the rows of a template are found, and no other item has them
abbrev pub FindsRows : Item → Tree → Option Rows → Type 0
FindsRows i u (Some s) = ReadsRows s u
FindsRows i u None = IsTemplateAt i → ⊥

-- the first of these rows is given, and the others are still to come; or there is none
abbrev pub GivesRow : List (List ℕ) → List (List Pair) → Option Row → Rows → Type 0
GivesRow ks (m ∷ ms) (Some r) s = HoldsRow r ks m × HoldsRows s ks ms
GivesRow ks [] None s = Unit {0}
GivesRow ks _ _ s = ⊥

-- a step over the rows, whichever are still to come
abbrev pub StepsOverRows : Rows → Option Row → Rows → Type 0
StepsOverRows old r new = (ks : List (List ℕ)) (ms : List (List Pair)) → HoldsRows old ks ms → GivesRow ks ms r new

-- the value of the field at this place
abbrev pub field_there : ℕ → List Pair → Option Tree
field_there n [] = None
field_there zero (p ∷ m) = Some p.1
field_there (suc n) (p ∷ m) = field_there n m

-- the last place of a key among keys that begin at this place, or else what was found before
abbrev pub place_from : Option ℕ → ℕ → List ℕ → List (List ℕ) → Option ℕ
place_from found n key [] = found
place_from found n key (k ∷ ks) = place_from (cond (same_bytes key k) (Some n) found) (n + 1) key ks

-- the place of a key, of equal keys the last
abbrev pub place_of : List ℕ → List (List ℕ) → Option ℕ
place_of key ks = place_from None 0 key ks

-- in each row under these keys the field at this place is the value at the key
abbrev pub LeadsTo : List ℕ → List (List ℕ) → Option ℕ → Type 0
LeadsTo key ks place = (r : Row) (m : List Pair) → HoldsRow r ks m → get key (row_object m) ≡ option_and_then (λ n. field_there n m) place
