-- Templates of known meaning.
use Rattle.std.specs.Prelude.{ℕ, zero, suc, pos, List, [], ◌∷◌, ◌++◌, codes, replicate, Some}
use Rattle.bser_format.specs.Tree.{Tree, null, integer, bytes, array, object, template, no_items, item, no_entries, entry, Rows, no_rows, row, no_fields, skip, field, rows_of, items_of}
use Rattle.test_documents.specs.Samples.{header, key_a, one, two, single, empty_array}

-- a template without keys and rows
abbrev pub no_keys : List ℕ
no_keys = 0x0b ∷ 0x00 ∷ 0x03 ∷ 0x00 ∷ 0x03 ∷ 0x00 ∷ []

-- a template without keys, of one row
abbrev pub rows_without_keys : List ℕ
rows_without_keys = 0x0b ∷ 0x00 ∷ 0x03 ∷ 0x00 ∷ 0x03 ∷ 0x01 ∷ []

-- a template without keys, of 2^62 rows
abbrev pub many_rows_without_keys : List ℕ
many_rows_without_keys = 0x0b ∷ 0x00 ∷ 0x03 ∷ 0x00 ∷ 0x06 ∷ 0x00 ∷ 0x00 ∷ 0x00 ∷ 0x00 ∷ 0x00 ∷ 0x00 ∷ 0x00 ∷ 0x40 ∷ []

-- one row of 1 and 2, both under the key `a`
abbrev pub repeated_key : List ℕ
repeated_key = 0x0b ∷ 0x00 ∷ 0x03 ∷ 0x02 ∷ 0x0d ∷ 0x03 ∷ 0x01 ∷ 0x61 ∷ 0x0d ∷ 0x03 ∷ 0x01 ∷ 0x61 ∷ 0x03 ∷ 0x01 ∷ 0x03 ∷ 0x01 ∷ 0x03 ∷ 0x02 ∷ []

-- its tree
abbrev pub repeated : Tree
repeated = template (key_a ∷ key_a ∷ []) (row (field one (field two no_fields)) no_rows)

-- two rows under three keys, the second with a field skipped
abbrev pub people_body : List ℕ
people_body = 0x0b ∷ 0x00 ∷ 0x03 ∷ 0x03 ∷ 0x02 ∷ 0x03 ∷ 0x03 ∷ 0x61 ∷ 0x62 ∷ 0x63 ∷ 0x02 ∷ 0x03 ∷ 0x03 ∷ 0x64 ∷ 0x65 ∷ 0x66 ∷ 0x02 ∷ 0x03 ∷ 0x03 ∷ 0x67 ∷ 0x68 ∷ 0x69 ∷ 0x03 ∷ 0x02 ∷
    0x03 ∷ 0x7b ∷ 0x02 ∷ 0x03 ∷ 0x03 ∷ 0x62 ∷ 0x61 ∷ 0x72 ∷ 0x0a ∷ 0x04 ∷ 0xc8 ∷ 0x01 ∷ 0x0c ∷ 0x04 ∷ 0x15 ∷ 0x03 ∷ []

-- its message, with a length of four bytes
abbrev pub people_message : List ℕ
people_message = header ++ (0x05 ∷ 0x28 ∷ 0x00 ∷ 0x00 ∷ 0x00 ∷ people_body)

-- its keys
abbrev pub people_keys : List (List ℕ)
people_keys = codes "abc" ∷ codes "def" ∷ codes "ghi" ∷ []

-- its rows
abbrev pub people_rows : Rows
people_rows = row (field (integer (pos 123)) (field (bytes (codes "bar")) (field null no_fields))) (row (field (integer (pos 456)) (skip (field (integer (pos 789)) no_fields))) no_rows)

-- its tree
abbrev pub people : Tree
people = template people_keys people_rows

-- an object of the three keys
abbrev pub person : Tree → Tree → Tree → Tree
person t u v = object (entry (codes "abc") t (entry (codes "def") u (entry (codes "ghi") v no_entries)))

-- the value: what was skipped is null
abbrev pub people_value : Tree
people_value = array (item (person (integer (pos 123)) (bytes (codes "bar")) null) (item (person (integer (pos 456)) null (integer (pos 789))) no_items))

-- a template of the key `a`, of one row with this field
abbrev pub one_row : List ℕ → List ℕ
one_row b = 0x0b ∷ 0x00 ∷ 0x03 ∷ 0x01 ∷ 0x0d ∷ 0x03 ∷ 0x01 ∷ 0x61 ∷ 0x03 ∷ 0x01 ∷ b

-- n such templates, one inside the other, around an empty array
abbrev pub templates : ℕ → List ℕ
templates zero = empty_array
templates (suc n) = one_row (templates n)

-- their tree
abbrev pub nested_templates : ℕ → Tree
nested_templates zero = array no_items
nested_templates (suc n) = template (key_a ∷ []) (row (field (nested_templates n) no_fields) no_rows)

-- a hundred rows, of one null each
abbrev pub hundred_nulls : List ℕ
hundred_nulls = 0x0b ∷ 0x00 ∷ 0x03 ∷ 0x01 ∷ 0x0d ∷ 0x03 ∷ 0x01 ∷ 0x61 ∷ 0x03 ∷ 0x64 ∷ replicate 100 0x0a

-- its tree
abbrev pub hundred_rows : Tree
hundred_rows = template (key_a ∷ []) (rows_of (replicate 100 (Some null ∷ [])))

-- its value
abbrev pub hundred_objects : Tree
hundred_objects = array (items_of (replicate 100 (single key_a null)))

-- one row, of the variant `TestUnit` with its field skipped
abbrev pub unit_row : List ℕ
unit_row = 0x0b ∷ 0x00 ∷ 0x03 ∷ 0x01 ∷ 0x0d ∷ 0x03 ∷ 0x08 ∷ (codes "TestUnit" ++ (0x03 ∷ 0x01 ∷ 0x0c ∷ []))

-- its tree
abbrev pub unit_rows : Tree
unit_rows = template (codes "TestUnit" ∷ []) (row (skip no_fields) no_rows)
