-- The meanings of the types without parts.
use Rattle.std.specs.Prelude.{ℕ, ◌-◌, ◌^◌, ℤ, pos, negsuc, Bool, false, List, [], ◌∷◌, Option, Some, None, option_map, option_and_then, nat_lt, if◌then◌else◌, chars}
use Rattle.std.specs.Str.{is_utf8}
use Rattle.bser_format.specs.Tree.{Tree, null, boolean, integer, real, bytes, text, array, items}
use Rattle.bser_format.specs.Content.{Content, one, truth, number, byte_list, Meaning, each_some}

-- the bytes of a string under either tag
abbrev pub string_bytes_of : Tree → Option (List ℕ)
string_bytes_of (text s) = Some s
string_bytes_of (bytes s) = Some s
string_bytes_of _ = None

-- the bytes of a string under either tag, where they are UTF-8
abbrev pub utf8_of : Tree → Option (List ℕ)
utf8_of (text s) = Some s
utf8_of (bytes s) = if is_utf8 s then Some s else None
utf8_of _ = None

-- `bool`
abbrev pub reads_bool : Meaning
reads_bool (boolean v) = Some (truth v)
reads_bool _ = None

-- `()`
abbrev pub reads_unit : Meaning
reads_unit null = Some one
reads_unit _ = None

-- a real, as its 64 bits
abbrev pub reads_real : Meaning
reads_real (real r) = Some (number (pos r))
reads_real _ = None

-- an integer type, by a test of its range
abbrev pub reads_integer : (ℤ → Bool) → Meaning
reads_integer fits (integer v) = if fits v then Some (number v) else None
reads_integer fits _ = None

-- the range of an unsigned type
abbrev pub is_unsigned : ℕ → ℤ → Bool
is_unsigned bits (pos n) = nat_lt n (2 ^ bits)
is_unsigned bits (negsuc n) = false

-- the range of a signed type
abbrev pub is_signed : ℕ → ℤ → Bool
is_signed bits (pos n) = nat_lt n (2 ^ (bits - 1))
is_signed bits (negsuc n) = nat_lt n (2 ^ (bits - 1))

-- `u8` to `u64`, and `usize` as 64 bits
abbrev pub reads_unsigned : ℕ → Meaning
reads_unsigned bits = reads_integer (is_unsigned bits)

-- `i8` to `i64`
abbrev pub reads_signed : ℕ → Meaning
reads_signed bits = reads_integer (is_signed bits)

-- `String` and `&str`
abbrev pub reads_string : Meaning
reads_string t = option_map byte_list (utf8_of t)

-- `&[u8]`
abbrev pub reads_slice : Meaning
reads_slice t = option_map byte_list (string_bytes_of t)

-- an integer from 0 to 255
abbrev pub byte_of : Tree → Option ℕ
byte_of (integer (pos n)) = if nat_lt n 256 then Some n else None
byte_of _ = None

-- `ByteString`: a string, or an array of bytes
abbrev pub reads_byte_string : Meaning
reads_byte_string (array ts) = option_map byte_list (each_some byte_of (items ts))
reads_byte_string t = reads_slice t

-- the only character
abbrev pub one_char : List ℕ → Option Content
one_char (c ∷ []) = Some (number (pos c))
one_char _ = None

-- `char`: a text of one character
abbrev pub reads_char : Meaning
reads_char t = option_and_then (λ s. one_char (chars s)) (utf8_of t)
