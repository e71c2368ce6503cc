-- The heads of containers, and what is still wanted inside one.
use Rattle.std.specs.Prelude.{◌≡◌, ℕ, zero, suc, ◌-◌, Bool, true, false, List, [], ◌∷◌, length, drop}
use Rattle.bser_format.specs.Grammar.{Format, Bytes, Never, Given, ◌then◌, Each, SpellsCount, SpellsKey}
use Rattle.bser_format.specs.Expected.{Due, nothing_due, node_due, key_due, field_due, name_due, row_due, WantedItems, nodes, rows_over, WantedPairs, entries_of_object, fields_of_row}

-- ---- heads

-- a container's tag and its count, with n levels left
abbrev pub CountedHead : ℕ → ℕ → ℕ → Format
CountedHead tag zero k = Never
CountedHead tag (suc n) k = Bytes (tag ∷ []) then SpellsCount k

-- the head of an array, with n levels left
abbrev pub ArrayHead : ℕ → ℕ → Format
ArrayHead = CountedHead 0x00

-- the head of a template, up to its number of rows, with n levels left
abbrev pub TemplateHead : ℕ → List (List ℕ) → ℕ → Format
TemplateHead (suc (suc n)) ks k = Given (ks ≡ [] → k ≡ 0) (Bytes (0x0b ∷ []) then Bytes (0x00 ∷ []) then SpellsCount (length ks) then Each SpellsKey ks then SpellsCount k)
TemplateHead _ ks k = Never

-- the head of an object, with n levels left
abbrev pub ObjectHead : ℕ → ℕ → Format
ObjectHead = CountedHead 0x01

-- the head of what holds these items
abbrev pub ItemsHead : ℕ → WantedItems → Format
ItemsHead n (nodes k) = ArrayHead n k
ItemsHead n (rows_over ks k) = TemplateHead n ks k

-- the head where this is expected
abbrev pub BeginsItems : ℕ → Due → WantedItems → Format
BeginsItems n node_due w = ItemsHead n w
BeginsItems n field_due w = ItemsHead n w
BeginsItems n _ w = Never

-- the same of an object; a row has no bytes of its own
abbrev pub BeginsPairs : ℕ → Due → WantedPairs → Format
BeginsPairs n node_due (entries_of_object k) = ObjectHead n k
BeginsPairs n field_due (entries_of_object k) = ObjectHead n k
BeginsPairs n (row_due ks) (fields_of_row ls) = Given (ls ≡ ks) (Bytes [])
BeginsPairs n _ w = Never

-- ---- what is left

abbrev pub items_left : WantedItems → ℕ
items_left (nodes k) = k
items_left (rows_over ks k) = k

-- what is expected as the next item
abbrev pub item_due : WantedItems → Due
item_due (nodes k) = node_due
item_due (rows_over ks k) = row_due ks

abbrev pub items_after : WantedItems → WantedItems
items_after (nodes k) = nodes (k - 1)
items_after (rows_over ks k) = rows_over ks (k - 1)

abbrev pub pairs_left : WantedPairs → ℕ
pairs_left (entries_of_object k) = k
pairs_left (fields_of_row ks) = length ks

-- what is expected as the next key
abbrev pub pair_key : WantedPairs → Due
pair_key (entries_of_object k) = key_due
pair_key (fields_of_row []) = nothing_due
pair_key (fields_of_row (k ∷ ks)) = name_due k

-- what is expected as the value of a key that was read
abbrev pub pair_value : WantedPairs → Due
pair_value (entries_of_object k) = node_due
pair_value (fields_of_row ks) = field_due

abbrev pub pairs_after : WantedPairs → WantedPairs
pairs_after (entries_of_object k) = entries_of_object (k - 1)
pairs_after (fields_of_row ks) = fields_of_row (drop 1 ks)

-- what an open array wants, by what its access holds: whether it has rows, and how many items are left
abbrev pub wanted_items : List (List ℕ) → Bool → ℕ → WantedItems
wanted_items ks false k = nodes k
wanted_items ks true k = rows_over ks k

-- what an open object wants: whether it is a row, and how many entries are left, or the place of the next field
abbrev pub wanted_pairs : List (List ℕ) → Bool → ℕ → WantedPairs
wanted_pairs ks false k = entries_of_object k
wanted_pairs ks true k = fields_of_row (drop k ks)
