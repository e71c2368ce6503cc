-- What each put of a serializer appends.
use Rattle.std.specs.Prelude.{ℕ, ℤ, Bool, List, [], ◌∷◌, ◌++◌}
use Rattle.bser_format.specs.Tree.{null, boolean, real}
use Rattle.bser_format.specs.Canonical.{least_integer, least_count, canonical_body, canonical_text, canonical_bytes, canonical_key}

-- null
abbrev pub null_piece : List ℕ
null_piece = canonical_body null

-- a truth value
abbrev pub bool_piece : Bool → List ℕ
bool_piece v = canonical_body (boolean v)

-- an integer in its least size
abbrev pub integer_piece : ℤ → List ℕ
integer_piece v = least_integer v

-- the 64 bits of a real
abbrev pub real_piece : ℕ → List ℕ
real_piece bits = canonical_body (real bits)

-- a text, under the tag of texts
abbrev pub text_piece : List ℕ → List ℕ
text_piece s = canonical_text s

-- a byte string, under the tag of byte strings
abbrev pub bytes_piece : List ℕ → List ℕ
bytes_piece s = canonical_bytes s

-- an object's key: a text where it is UTF-8, else a byte string
abbrev pub key_piece : List ℕ → List ℕ
key_piece k = canonical_key k

-- an array's tag and the count of its items
abbrev pub array_head : ℕ → List ℕ
array_head n = 0x00 ∷ least_count n

-- an object's tag and the count of its entries
abbrev pub object_head : ℕ → List ℕ
object_head n = 0x01 ∷ least_count n

-- a template's tag; the keys follow as an array of texts, then the count of its rows and their fields
abbrev pub template_tag : List ℕ
template_tag = 0x0b ∷ []

-- a variant with one value: an object of one entry, and the variant's name as its key
abbrev pub newtype_variant_head : List ℕ → List ℕ
newtype_variant_head name = 0x01 ∷ 0x03 ∷ 0x01 ∷ canonical_key name

-- a variant with n values: the head of an array follows
abbrev pub tuple_variant_head : List ℕ → ℕ → List ℕ
tuple_variant_head name n = newtype_variant_head name ++ array_head n

-- a variant with n fields: the head of an object follows
abbrev pub struct_variant_head : List ℕ → ℕ → List ℕ
struct_variant_head name n = newtype_variant_head name ++ object_head n
