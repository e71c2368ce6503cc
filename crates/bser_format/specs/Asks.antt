-- What reading a type does with the bytes left: the first error in the order of reading, the type's
-- own errors among them.
use Rattle.std.specs.Prelude.{ℕ, zero, suc, ℤ, Bool, true, false, ◌||◌, List, [], ◌∷◌, length, Option, Some, None, bytes_eq, chars, ◌==◌, if◌then◌else◌}
use Rattle.bser_format.specs.ReadsScalars.{is_unsigned}
use Rattle.bser_format.specs.Expected.{Due, nothing_due, node_due, key_due, field_due, name_due, row_due, WantedItems, nodes, rows_over, WantedPairs, entries_of_object, fields_of_row}
use Rattle.bser_format.specs.declared.errors.Kind.TheVariants.{MapKey}
use Rattle.bser_format.specs.declared.errors.Complaint.TheVariants.{TooFewItems, ItemsLeft, IntegerOutOfRange}
use Rattle.bser_format.specs.declared.errors.name.EnumName.{EnumName}
use Rattle.bser_format.specs.Named.{Answer, reads, refuses, Reader, give, refuse, ◌>>=◌, complain, string_of, text_of, field_of, many, with_text_keys}
use Rattle.bser_format.specs.DueReaders.{Seen, tag, wrong_type, seen, asked, bool_at, integer_at, real_at, unit_at, bytes_at, text_at, items_at, pairs_at, less_one, variant_due}

-- what reading a type does, by how many containers are open, how many levels are left and what is
-- expected
abbrev pub Asks : Type 0
Asks = ℕ → ℕ → Due → Reader Unit

-- what was read is of no matter
abbrev pub done : {X : Type 0} → X → Reader Unit
done x = give tt

-- a kind of value, whatever it holds
abbrev pub plain : {X : Type 0} → (Seen → Reader X) → Asks
plain k o n d = asked k o d >>= done

-- ---- types without parts

-- a truth value
abbrev pub asks_bool : Asks
asks_bool = plain bool_at

-- the 64 bits of a real
abbrev pub asks_real : Asks
asks_real = plain real_at

-- null, or the skip of a field
abbrev pub asks_unit : Asks
asks_unit = plain unit_at

-- bytes, or a key
abbrev pub asks_bytes : Asks
asks_bytes = plain bytes_at

-- a text
abbrev pub asks_string : Asks
asks_string = plain text_at

-- the type holds the integer
abbrev pub in_range : (ℤ → Bool) → ℤ → Reader Unit
in_range fits v = if fits v then give tt else refuse (complain IntegerOutOfRange)

-- an integer that the type holds, which is looked at after it was read
abbrev pub asks_integer : (ℤ → Bool) → Asks
asks_integer fits o n d = asked integer_at o d >>= in_range fits

-- one character
abbrev pub one_char : List ℕ → Reader Unit
one_char (c ∷ []) = give tt
one_char _ = refuse wrong_type

-- a text of one character
abbrev pub asks_char : Asks
asks_char o n d = asked text_at o d >>= λ s. one_char (chars s)

-- `Value`, and what is ignored: keys inside are UTF-8, and a key by itself need not be
abbrev pub asks_any : Asks
asks_any o n key_due = string_of MapKey >>= done
asks_any o n (name_due k) = give tt
asks_any o n (row_due ks) = many (field_of (with_text_keys n)) (length ks) >>= done
asks_any o n field_due = field_of (with_text_keys n) >>= done
asks_any o n node_due = with_text_keys n >>= done
asks_any o n nothing_due = asked unit_at o nothing_due

-- ---- types that hold others

-- what is there says which of two ways is taken, from the same byte on
abbrev pub by_sight : (Seen → Bool) → Reader Unit → Reader Unit → Answer Seen → Reader Unit
by_sight is r s (reads x c) b = if is x then r b else s b
by_sight is r s (refuses e) b = refuses e

-- null, or the skip of a field
abbrev pub is_null : Seen → Bool
is_null (tag t) = (t == 0x0a) || (t == 0x0c)
is_null _ = false

-- an array or a template
abbrev pub is_sequence : Seen → Bool
is_sequence (tag t) = (t == 0x00) || (t == 0x0b)
is_sequence _ = false

-- nothing at null or a skip, else what A reads
abbrev pub asks_option : Asks → Asks
asks_option A o n d b = by_sight is_null (asks_unit o n d) (A o n d) (seen o d b) b

-- so many parts
abbrev pub all : Reader Unit → ℕ → Reader Unit
all r zero = give tt
all r (suc k) = r >>= λ u. all r k

-- the items of an array, or the rows of a template, each by A
abbrev pub items_asked : Asks → ℕ → ℕ → WantedItems → Reader Unit
items_asked A o n (nodes k) = all (A o n node_due) k
items_asked A o n (rows_over ks k) = all (A o n (row_due ks)) k

-- a list
abbrev pub asks_vec : Asks → Asks
asks_vec A o n d = asked (items_at n) o d >>= items_asked A (suc o) (less_one n)

-- a byte string: bytes, or an array of numbers of one byte
abbrev pub asks_byte_string : Asks
asks_byte_string o n d b = by_sight is_sequence (asks_vec (asks_integer (is_unsigned 8)) o n d) (asks_bytes o n d) (seen o d b) b

-- each part by its own type, as many as there are types
abbrev pub parts_asked : List Asks → ℕ → ℕ → Due → ℕ → Reader Unit
parts_asked [] o n d zero = give tt
parts_asked [] o n d (suc k) = refuse (complain ItemsLeft)
parts_asked (A ∷ As) o n d zero = refuse (complain TooFewItems)
parts_asked (A ∷ As) o n d (suc k) = A o n d >>= λ u. parts_asked As o n d k

-- the items of an array, or the rows of a template, each by its own type
abbrev pub tuple_asked : List Asks → ℕ → ℕ → WantedItems → Reader Unit
tuple_asked As o n (nodes k) = parts_asked As o n node_due k
tuple_asked As o n (rows_over ks k) = parts_asked As o n (row_due ks) k

-- a tuple
abbrev pub asks_tuple : List Asks → Asks
asks_tuple As o n d = asked (items_at n) o d >>= tuple_asked As (suc o) (less_one n)

-- the fields of a row, one after the other
abbrev pub each_name : (List ℕ → Reader Unit) → List (List ℕ) → Reader Unit
each_name r [] = give tt
each_name r (k ∷ ks) = r k >>= λ u. each_name r ks

-- the entries of an object, or the fields of a row
abbrev pub map_asked : Asks → Asks → ℕ → ℕ → WantedPairs → Reader Unit
map_asked K V o n (entries_of_object k) = all (K o n key_due >>= λ u. V o n node_due) k
map_asked K V o n (fields_of_row ks) = each_name (λ k. K o n (name_due k) >>= λ u. V o n field_due) ks

-- levels are taken by an object, and by a row none
abbrev pub inside : WantedPairs → ℕ → ℕ
inside (entries_of_object k) n = less_one n
inside (fields_of_row ks) n = n

-- a map
abbrev pub asks_map : Asks → Asks → Asks
asks_map K V o n d = asked (pairs_at n) o d >>= λ w. map_asked K V (suc o) (inside w n) w

-- ---- structs

-- a field: whether it may be absent, its type, and whether it was read
pub record Field : Type 0 where
  pub optional : Bool
  pub type : Asks
  pub found : Bool

-- a field that has to be there
abbrev pub required_field : Asks → Field
required_field A = record { optional = false; type = A; found = false }

-- a field that is nothing where it is null or absent
abbrev pub optional_field : Asks → Field
optional_field A = record { optional = true; type = asks_option A; found = false }

-- the first place of the name, counted from i, if it has one
abbrev pub place_of : ℕ → List (List ℕ) → List ℕ → Option ℕ
place_of i [] k = None
place_of i (l ∷ ls) k = if bytes_eq l k then Some i else place_of (suc i) ls k

-- each field that may not be absent was read
abbrev pub complete : List Field → Reader Unit
complete [] = give tt
complete (f ∷ fs) = if f.optional || f.found then complete fs else refuse (complain TooFewItems)

-- a value by the field at this place, which was not read before; at no place it is passed over
abbrev pub value_at : ℕ → List Field → ℕ → ℕ → Due → Reader (List Field)
value_at i [] o n d = asks_any o n d >>= λ u. give []
value_at zero (f ∷ fs) o n d = if f.found then refuse (complain ItemsLeft) else (f.type o n d >>= λ u. give (record f { found = true } ∷ fs))
value_at (suc i) (f ∷ fs) o n d = value_at i fs o n d >>= λ more. give (f ∷ more)

-- a value by the field of this name; under no field's name it is passed over
abbrev pub value_by : Option ℕ → List Field → ℕ → ℕ → Due → Reader (List Field)
value_by (Some i) fs o n d = value_at i fs o n d
value_by None fs o n d = asks_any o n d >>= λ u. give fs

-- so many entries of an object, by the fields of these names
abbrev pub entries_asked : List (List ℕ) → ℕ → ℕ → List Field → ℕ → Reader Unit
entries_asked names o n fs zero = complete fs
entries_asked names o n fs (suc m) = do
  k ← text_of MapKey
  more ← value_by (place_of 0 names k) fs o n node_due
  entries_asked names o n more m

-- the fields of a row, by the fields of these names
abbrev pub fields_asked : List (List ℕ) → ℕ → ℕ → List Field → List (List ℕ) → Reader Unit
fields_asked names o n fs [] = complete fs
fields_asked names o n fs (k ∷ ks) = value_by (place_of 0 names k) fs o n field_due >>= λ more. fields_asked names o n more ks

-- all entries of an object, or all fields of a row
abbrev pub struct_asked : List (List ℕ) → List Field → ℕ → ℕ → WantedPairs → Reader Unit
struct_asked names fs o n (entries_of_object m) = entries_asked names o n fs m
struct_asked names fs o n (fields_of_row ks) = fields_asked names o n fs ks

-- a struct of these fields, which have these names
abbrev pub asks_struct : List (List ℕ) → List Field → Asks
asks_struct names fs o n d = asked (pairs_at n) o d >>= λ w. struct_asked names fs (suc o) (inside w n) w

-- ---- enums

-- the variants of an enum, each with its name and, where it has one, its payload
abbrev pub Payloads : Type 0
Payloads = List (List ℕ × Option Asks)

-- their names
abbrev pub labels : Payloads → List (List ℕ)
labels [] = []
labels (v ∷ vs) = v.0 ∷ labels vs

-- the payload of the variant at this place
abbrev pub payload : ℕ → Payloads → Option Asks
payload i [] = None
payload zero (v ∷ vs) = v.1
payload (suc i) (v ∷ vs) = payload i vs

-- a name alone is a variant without payload
abbrev pub alone : Option Asks → Reader Unit
alone None = give tt
alone (Some A) = refuse wrong_type

-- in an object or a row such a variant has null
abbrev pub payload_asked : Option Asks → Asks
payload_asked None = asks_unit
payload_asked (Some A) = A

-- an object is there
abbrev pub is_object : Answer Seen → Bool
is_object (reads (tag t) c) = t == 0x01
is_object _ = false

-- an enum
abbrev pub asks_enum : EnumName → Payloads → Asks
asks_enum enum vs o n nothing_due b = (variant_due enum o n (labels vs) nothing_due >>= done) b
asks_enum enum vs o n key_due b = (variant_due enum o n (labels vs) key_due >>= λ i. alone (payload i vs)) b
asks_enum enum vs o n (name_due k) b = (variant_due enum o n (labels vs) (name_due k) >>= λ i. alone (payload i vs)) b
asks_enum enum vs o n (row_due ks) b = (variant_due enum o n (labels vs) (row_due ks) >>= λ i. payload_asked (payload i vs) (suc o) n field_due) b
asks_enum enum vs o n d b =
    (if is_object (seen o d b) then (variant_due enum o n (labels vs) d >>= λ i. payload_asked (payload i vs) (suc o) (less_one n) node_due)
    else (variant_due enum o n (labels vs) d >>= λ i. alone (payload i vs))) b
