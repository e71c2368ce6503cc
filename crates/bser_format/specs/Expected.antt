-- What an open deserializer expects, and which bytes fill it.
use Rattle.std.specs.Prelude.{◌≡◌, ℕ, List, [], ◌∷◌, map, length, ◌⊎◌}
use Rattle.bser_format.specs.Tree.{Tree, null, object, Items, items, Entries, entries, Fields, fields}
use Rattle.bser_format.specs.Expand.{expand, expand_fields, key_tree}
use Rattle.bser_format.specs.Grammar.{Format, Bytes, Never, Given, ◌then◌, Each, Spells, SpellsString, SpellsField}

-- what is expected: nothing, a value, an object's key, a template's field, the key of a row's
-- field, which has no bytes, or a row over these keys
pub data Due : Type 0 where
  nothing_due node_due key_due field_due : Due
  name_due : List ℕ → Due
  row_due : List (List ℕ) → Due

-- a value with n levels left, which means the tree u, templates written out
pub record FillsNode (n : ℕ) (u : Tree) (b : List ℕ) : Type 0 where
  pub tree : Tree
  pub stands : u ≡ expand tree
  pub spelled : Spells n tree b

-- a key, as its tree
pub record FillsKey (u : Tree) (b : List ℕ) : Type 0 where
  pub key : List ℕ
  pub stands : u ≡ key_tree key
  pub spelled : SpellsString key b

-- the fields of a row, as the object of its keys and fields
pub record FillsRow (n : ℕ) (ks : List (List ℕ)) (u : Tree) (b : List ℕ) : Type 0 where
  pub row : Fields
  pub even : length (fields row) ≡ length ks
  pub stands : u ≡ object (expand_fields ks row)
  pub spelled : Each (SpellsField (Spells n)) (fields row) b

-- the bytes are what is expected as a whole, with n levels left, and u is what it means
abbrev pub Fills : ℕ → Due → Tree → Format
Fills n nothing_due u = Never
Fills n node_due u = FillsNode n u
Fills n key_due u = FillsKey u
Fills n field_due u = λ b. Given (u ≡ null) (Bytes (0x0c ∷ [])) b ⊎ FillsNode n u b
Fills n (name_due k) u = Given (u ≡ key_tree k) (Bytes [])
Fills n (row_due ks) u = FillsRow n ks u

-- what an open array still wants: so many values, or so many rows over these keys
pub data WantedItems : Type 0 where
  nodes : ℕ → WantedItems
  rows_over : List (List ℕ) → ℕ → WantedItems

-- what an open object still wants: so many entries, or the fields of these keys
pub data WantedPairs : Type 0 where
  entries_of_object : ℕ → WantedPairs
  fields_of_row : List (List ℕ) → WantedPairs

-- the items that an open array still wants
abbrev pub FillsItems : ℕ → WantedItems → Items → Format
FillsItems n (nodes k) us = Given (length (items us) ≡ k) (Each (Fills n node_due) (items us))
FillsItems n (rows_over ks k) us = Given (length (items us) ≡ k) (Each (Fills n (row_due ks)) (items us))

-- an entry of an object: its key, and its value
abbrev pub FillsPair : ℕ → List ℕ × Tree → Format
FillsPair n e = SpellsString e.0 then Fills n node_due e.1

-- the entries that an open object still wants
abbrev pub FillsPairs : ℕ → WantedPairs → Entries → Format
FillsPairs n (entries_of_object k) us = Given (length (entries us) ≡ k) (Each (FillsPair n) (entries us))
FillsPairs n (fields_of_row ks) us = Given (map (λ e. e.0) (entries us) ≡ ks) (Each (λ e. Fills n field_due e.1) (entries us))
