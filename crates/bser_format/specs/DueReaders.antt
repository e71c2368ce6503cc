-- What each call that reads does with the bytes left: what it takes, or the first error in the
-- order of reading.
use Rattle.std.specs.Prelude.{ℕ, zero, suc, ℤ, Bool, true, false, ◌&&◌, ◌||◌, nat_lt, List, [], ◌∷◌, bytes_eq, ◌==◌, if◌then◌else◌}
use Rattle.std.specs.Int.{w64, from_le_bytes}
use Rattle.bser_format.specs.Expected.{Due, nothing_due, node_due, key_due, field_due, name_due, row_due, WantedItems, nodes, rows_over, WantedPairs, entries_of_object, fields_of_row}
use Rattle.bser_format.specs.declared.errors.Error.{Error}
use Rattle.bser_format.specs.declared.errors.Error.TheVariants.{DeInvalidStartByte}
use Rattle.bser_format.specs.declared.errors.Kind.TheVariants as kinds
use Rattle.bser_format.specs.declared.errors.Kind.TheVariants.{NextItem, MapKey, TemplateKeys, TemplateKey}
use Rattle.bser_format.specs.declared.errors.Complaint.TheVariants.{WrongType, TooFewItems, ValueOpen, RowsWithoutKeys, UnknownVariant, EnumObjectEntries}
use Rattle.bser_format.specs.declared.errors.name.EnumName.{EnumName}
use Rattle.bser_format.specs.Named.{Reader, give, refuse, ◌>>=◌, complain, next, front, many, int_after, count, string, utf8, string_after, text_of, within, is_positive}

-- what is where something is expected: a tag, the key of a row's field, or a row
pub data Seen : Type 0 where
  tag : ℕ → Seen
  name : List ℕ → Seen
  row : List (List ℕ) → Seen

-- a value of another kind than is asked for
abbrev pub wrong_type : Error
wrong_type = complain WrongType

-- nothing is expected: a container is open, or the value was read
abbrev pub nothing_here : ℕ → Error
nothing_here zero = complain TooFewItems
nothing_here (suc opened) = complain ValueOpen

-- a tag of a value, or the skip of a field
abbrev pub is_tag : Bool → ℕ → Bool
is_tag skips t = nat_lt t 0x0c || (t == 0x0d) || (skips && (t == 0x0c))

-- such a tag, another being no value
abbrev pub value_tag : Bool → ℕ → Reader Seen
value_tag skips t = if is_tag skips t then give (tag t) else refuse (DeInvalidStartByte NextItem t)

-- a tag of a string
abbrev pub is_key_tag : ℕ → Bool
is_key_tag t = (t == 0x02) || (t == 0x0d)

-- such a tag, another being no key
abbrev pub key_tag : ℕ → Reader Seen
key_tag t = if is_key_tag t then give (tag t) else refuse (DeInvalidStartByte MapKey t)

-- what is where this is expected, with so many containers open
abbrev pub seen : ℕ → Due → Reader Seen
seen opened nothing_due = refuse (nothing_here opened)
seen opened node_due = next >>= value_tag false
seen opened field_due = next >>= value_tag true
seen opened key_due = next >>= key_tag
seen opened (name_due k) = give (name k)
seen opened (row_due ks) = give (row ks)

-- what is expected, asked for as k reads it
abbrev pub asked : {X : Type 0} → (Seen → Reader X) → ℕ → Due → Reader X
asked k opened d = seen opened d >>= k

-- nothing is of the kind that is asked for
abbrev pub nothing_at : Seen → Reader Unit
nothing_at s = refuse wrong_type

-- the error of a tag of another kind than is asked for
abbrev pub stray_at : Due → ℕ → Error
stray_at node_due t = if is_tag false t then wrong_type else DeInvalidStartByte NextItem t
stray_at field_due t = if is_tag true t then wrong_type else DeInvalidStartByte NextItem t
stray_at key_due t = if is_key_tag t then wrong_type else DeInvalidStartByte MapKey t
stray_at _ t = wrong_type

-- ---- scalars and strings

-- a truth value, which is a tag alone
abbrev pub bool_at : Seen → Reader Bool
bool_at (tag t) = if t == 0x08 then give true else if t == 0x09 then give false else refuse wrong_type
bool_at _ = refuse wrong_type

-- an integer of any width
abbrev pub integer_at : Seen → Reader ℤ
integer_at (tag t) = int_after wrong_type t
integer_at _ = refuse wrong_type

-- the 64 bits of a real
abbrev pub real_at : Seen → Reader ℕ
real_at (tag t) = if t == 0x07 then (front 8 >>= λ b. give (from_le_bytes w64 b)) else refuse wrong_type
real_at _ = refuse wrong_type

-- null, or the skip of a field
abbrev pub unit_at : Seen → Reader Unit
unit_at (tag t) = if (t == 0x0a) || (t == 0x0c) then give tt else refuse wrong_type
unit_at _ = refuse wrong_type

-- a string under either tag, or the key of a row's field
abbrev pub bytes_at : Seen → Reader (List ℕ)
bytes_at (tag t) = string_after wrong_type t
bytes_at (name k) = give k
bytes_at (row ks) = refuse wrong_type

-- the same, of UTF-8
abbrev pub text_at : Seen → Reader (List ℕ)
text_at s = bytes_at s >>= utf8

-- ---- containers' heads

-- a template's keys and its count of rows, without keys only 0
abbrev pub rows_wanted : List (List ℕ) → ℕ → Reader WantedItems
rows_wanted [] (suc m) = refuse (complain RowsWithoutKeys)
rows_wanted ks m = give (rows_over ks m)

-- a template after its tag, up to its rows, with so many levels left for its keys
abbrev pub table_at : ℕ → ℕ → Reader WantedItems
table_at levels t = if t == 0x00 then within (is_positive levels) kinds.Array (do
  n ← count
  ks ← many (text_of TemplateKey) n
  m ← count
  rows_wanted ks m) else refuse (DeInvalidStartByte TemplateKeys t)

-- the levels inside a container
abbrev pub less_one : ℕ → ℕ
less_one zero = zero
less_one (suc n) = n

-- an array's items or a template's rows, with so many levels left
abbrev pub items_at : ℕ → Seen → Reader WantedItems
items_at levels (tag t) =
    if t == 0x00 then within (is_positive levels) kinds.Array (count >>= λ n. give (nodes n))
    else if t == 0x0b then within (is_positive levels) kinds.Template (next >>= table_at (less_one levels))
    else refuse wrong_type
items_at levels _ = refuse wrong_type

-- an object's entries or a row's fields, with so many levels left
abbrev pub pairs_at : ℕ → Seen → Reader WantedPairs
pairs_at levels (tag t) = if t == 0x01 then within (is_positive levels) kinds.Object (count >>= λ n. give (entries_of_object n)) else refuse wrong_type
pairs_at levels (name k) = refuse wrong_type
pairs_at levels (row ks) = give (fields_of_row ks)

-- ---- enums

-- the first place of the name, counted from i
abbrev pub place_from : ℕ → List (List ℕ) → List ℕ → Reader ℕ
place_from i [] s = refuse (complain UnknownVariant)
place_from i (v ∷ vs) s = if bytes_eq v s then give i else place_from (suc i) vs s

-- after its tag the place of an enum's variant: a name, or an object of one entry, whose key is the name
abbrev pub variant_after : EnumName → ℕ → List (List ℕ) → ℕ → Reader ℕ
variant_after enum levels vs t =
    if (t == 0x02) || (t == 0x0d) then (string >>= utf8 >>= place_from 0 vs)
    else if t == 0x01 then within (is_positive levels) (kinds.ObjectLikeEnum enum) (do
      n ← count
      k ← if n == 1 then text_of MapKey else refuse (complain EnumObjectEntries)
      place_from 0 vs k)
    else refuse (DeInvalidStartByte (kinds.Enum enum) t)

-- the same of a row, which is an object of its keys
abbrev pub variant_of_row : List (List ℕ) → List (List ℕ) → Reader ℕ
variant_of_row vs (k ∷ []) = place_from 0 vs k
variant_of_row vs _ = refuse (complain EnumObjectEntries)

-- the place of an enum's variant, where this is expected
abbrev pub variant_due : EnumName → ℕ → ℕ → List (List ℕ) → Due → Reader ℕ
variant_due enum opened levels vs nothing_due = refuse (nothing_here opened)
variant_due enum opened levels vs node_due = next >>= variant_after enum levels vs
variant_due enum opened levels vs field_due = next >>= variant_after enum levels vs
variant_due enum opened levels vs key_due = text_of MapKey >>= place_from 0 vs
variant_due enum opened levels vs (name_due k) = place_from 0 vs k
variant_due enum opened levels vs (row_due ks) = variant_of_row vs ks
