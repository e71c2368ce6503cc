-- A table's spelling, written out as an array of objects: each key's own bytes, and each field's.
use Rattle.std.specs.Prelude.{ℕ, zero, suc, List, [], ◌∷◌, ◌++◌, length, Option, Some, None}
use Rattle.bser_format.specs.Tree.{Tree, null, array, object, template, Items, no_items, item, Entries, no_entries, entry, Rows, no_rows, row, Fields, no_fields, skip, field, rows}
use Rattle.bser_format.specs.Grammar.{Format, Each, SpellsField, SpellsKey, Spells}
use Rattle.bser_format.specs.Canonical.{least_count}

-- each member's own bytes
abbrev pub own_bytes : {X : Type 0} (F : X → Format) (xs : List X) (b : List ℕ) → Each F xs b → List (List ℕ)
own_bytes F [] b h = []
own_bytes F (x ∷ xs) b h = h.front ∷ own_bytes F xs h.rest h.second

-- a skipped field is null
abbrev pub row_out : (F : Tree → Format) → List (List ℕ) → (fs : List (Option Tree)) (b : List ℕ) → Each (SpellsField F) fs b → List ℕ
row_out F [] fs b h = []
row_out F (k ∷ ks) [] b h = []
row_out F (k ∷ ks) (None ∷ fs) b h = (k ++ (0x0a ∷ [])) ++ row_out F ks fs h.rest h.second
row_out F (k ∷ ks) (Some t ∷ fs) b h = (k ++ h.front) ++ row_out F ks fs h.rest h.second

abbrev pub rows_out : (F : Tree → Format) → List (List ℕ) → (rs : List (List (Option Tree))) (b : List ℕ) → Each (Each (SpellsField F)) rs b → List ℕ
rows_out F ks [] b h = []
rows_out F ks (r ∷ rs) b h = (0x01 ∷ (least_count (length ks) ++ row_out F ks r h.front h.first)) ++ rows_out F ks rs h.rest h.second

abbrev pub written_out : (n : ℕ) (ks : List (List ℕ)) (rs : Rows) (b : List ℕ) → Spells n (template ks rs) b → List ℕ
written_out zero ks rs b h = absurd h
written_out (suc zero) ks rs b h = absurd h
written_out (suc (suc n)) ks rs b h =
    let keyed = h.1.second.second.second in
    let last = keyed.second in
    0x00 ∷ (least_count (length (rows rs)) ++ rows_out (Spells (suc n)) (own_bytes SpellsKey ks keyed.front keyed.first) (rows rs) last.rest last.second)

-- a table's rows as objects, with their fields as they are
abbrev pub row_entries : List (List ℕ) → Fields → Entries
row_entries [] fs = no_entries
row_entries (k ∷ ks) no_fields = no_entries
row_entries (k ∷ ks) (skip fs) = entry k null (row_entries ks fs)
row_entries (k ∷ ks) (field t fs) = entry k t (row_entries ks fs)

abbrev pub row_items : List (List ℕ) → Rows → Items
row_items ks no_rows = no_items
row_items ks (row fs rs) = item (object (row_entries ks fs)) (row_items ks rs)

abbrev pub row_objects : List (List ℕ) → Rows → Tree
row_objects ks rs = array (row_items ks rs)
