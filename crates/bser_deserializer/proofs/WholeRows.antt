-- A tree that is spelled has whole rows.
use Rattle.std.proofs.Common.{ℕ, zero, suc, List, [], ◌∷◌, map, Option, Some, None}
use Rattle.std.specs.List.{zip}
use Rattle.bser_format.specs.Tree.{Tree, null, boolean, integer, real, bytes, text, array, object, template, Items, no_items, item, Entries, no_entries, entry, Rows, no_rows, row, Fields, no_fields, skip, field, items, entries, fields, rows, entries_of}
use Rattle.bser_format.specs.Grammar.{Format, Each, SpellsEntry, SpellsField, Spells}
use Rattle.bser_deserializer.specs.Any.{told_field}
use Rattle.bser_deserializer.specs.WholeRows.{HasWholeRows, ItemsHaveWholeRows, EntriesHaveWholeRows, RowsHaveWholeRows, FieldsHaveWholeRows}

-- what is of this form has whole rows
abbrev IsWhole : (Tree → Format) → Type 0
IsWhole F = (t : Tree) (b : List ℕ) → F t b → HasWholeRows t

items_whole : (F : Tree → Format) → IsWhole F → (ts : Items) (b : List ℕ) → Each F (items ts) b → ItemsHaveWholeRows ts
items_whole F one no_items b h = tt
items_whole F one (item t ts) b h = (one t h.front h.first, items_whole F one ts h.rest h.second)

entries_whole : (F : Tree → Format) → IsWhole F → (es : Entries) (b : List ℕ) → Each (SpellsEntry F) (entries es) b → EntriesHaveWholeRows es
entries_whole F one no_entries b h = tt
entries_whole F one (entry k t es) b h = (one t h.first.rest h.first.second, entries_whole F one es h.rest h.second)

fields_whole : (F : Tree → Format) → IsWhole F → (fs : Fields) (b : List ℕ) → Each (SpellsField F) (fields fs) b → FieldsHaveWholeRows fs
fields_whole F one no_fields b h = tt
fields_whole F one (skip fs) b h = fields_whole F one fs h.rest h.second
fields_whole F one (field t fs) b h = (one t h.front h.first, fields_whole F one fs h.rest h.second)

rows_whole : (F : Tree → Format) → IsWhole F → (rs : Rows) (b : List ℕ) → Each (Each (SpellsField F)) (rows rs) b → RowsHaveWholeRows rs
rows_whole F one no_rows b h = tt
rows_whole F one (row fs rs) b h = (fields_whole F one fs h.front h.first, rows_whole F one rs h.rest h.second)

pub spelled_whole : (n : ℕ) → IsWhole (Spells n)
spelled_whole n null b h = tt
spelled_whole n (boolean x) b h = tt
spelled_whole n (integer x) b h = tt
spelled_whole n (real r) b h = tt
spelled_whole n (bytes s) b h = tt
spelled_whole n (text s) b h = tt
spelled_whole zero (array ts) b h = absurd h
spelled_whole (suc n) (array ts) b h = items_whole (Spells n) (spelled_whole n) ts h.second.rest h.second.second
spelled_whole zero (object es) b h = absurd h
spelled_whole (suc n) (object es) b h = entries_whole (Spells n) (spelled_whole n) es h.second.rest h.second.second
spelled_whole zero (template ks rs) b h = absurd h
spelled_whole (suc zero) (template ks rs) b h = absurd h
spelled_whole (suc (suc n)) (template ks rs) b h =
    let last = h.1.second.second.second.second in
    (h.0, rows_whole (Spells (suc n)) (spelled_whole (suc n)) rs last.rest last.second)

-- a field, as it is told
pub field_whole : (n : ℕ) (f : Option Tree) (b : List ℕ) → SpellsField (Spells n) f b → HasWholeRows (told_field f)
field_whole n None b h = tt
field_whole n (Some t) b h = spelled_whole n t b h

-- a row, as it is told
pub row_whole : (n : ℕ) (ks : List (List ℕ)) (fs : List (Option Tree)) (b : List ℕ) → Each (SpellsField (Spells n)) fs b → EntriesHaveWholeRows (entries_of (zip ks (map told_field fs)))
row_whole n [] fs b h = tt
row_whole n (k ∷ ks) [] b h = tt
row_whole n (k ∷ ks) (f ∷ fs) b h = (field_whole n f h.front h.first, row_whole n ks fs h.rest h.second)
