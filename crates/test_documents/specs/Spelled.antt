-- Templates whose keys or rows are many, and one template written out.
use Rattle.std.specs.Prelude.{ℕ, List, [], ◌∷◌, ◌++◌, replicate, Some}
use Rattle.bser_format.specs.Tree.{Tree, null, array, template, rows_of, items_of}
use Rattle.test_documents.specs.Samples.{header, single}

-- a hundred letters `a`
abbrev pub long_key : List ℕ
long_key = replicate 100 0x61

-- a hundred rows, of one null each, under that key
abbrev pub long_key_body : List ℕ
long_key_body = 0x0b ∷ 0x00 ∷ 0x03 ∷ 0x01 ∷ 0x0d ∷ 0x03 ∷ 0x64 ∷ (long_key ++ (0x03 ∷ 0x64 ∷ replicate 100 0x0a))

-- its tree
abbrev pub long_key_rows : Tree
long_key_rows = template (long_key ∷ []) (rows_of (replicate 100 (Some null ∷ [])))

-- its value
abbrev pub long_key_objects : Tree
long_key_objects = array (items_of (replicate 100 (single long_key null)))

-- the template of two people, written out: its keys keep the tag of byte strings, and the skipped field is null
abbrev pub people_out : List ℕ
people_out = 0x00 ∷ 0x03 ∷ 0x02 ∷
    0x01 ∷ 0x03 ∷ 0x03 ∷ 0x02 ∷ 0x03 ∷ 0x03 ∷ 0x61 ∷ 0x62 ∷ 0x63 ∷ 0x03 ∷ 0x7b ∷ 0x02 ∷ 0x03 ∷ 0x03 ∷ 0x64 ∷ 0x65 ∷ 0x66 ∷ 0x02 ∷ 0x03 ∷ 0x03 ∷ 0x62 ∷ 0x61 ∷ 0x72 ∷ 0x02 ∷ 0x03 ∷ 0x03 ∷ 0x67 ∷ 0x68 ∷ 0x69 ∷ 0x0a ∷
    0x01 ∷ 0x03 ∷ 0x03 ∷ 0x02 ∷ 0x03 ∷ 0x03 ∷ 0x61 ∷ 0x62 ∷ 0x63 ∷ 0x04 ∷ 0xc8 ∷ 0x01 ∷ 0x02 ∷ 0x03 ∷ 0x03 ∷ 0x64 ∷ 0x65 ∷ 0x66 ∷ 0x0a ∷ 0x02 ∷ 0x03 ∷ 0x03 ∷ 0x67 ∷ 0x68 ∷ 0x69 ∷ 0x04 ∷ 0x15 ∷ 0x03 ∷ []

-- the message of that, with a length of four bytes
abbrev pub people_out_message : List ℕ
people_out_message = header ++ (0x05 ∷ 0x3d ∷ 0x00 ∷ 0x00 ∷ 0x00 ∷ people_out)
