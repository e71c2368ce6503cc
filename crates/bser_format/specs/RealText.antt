-- A real by its 64 bits.
use Rattle.std.specs.Prelude.{◌≡◌, ℕ, ◌^◌, ◌%◌, List, Option, Some, None, Bool, true, Float, codes, from_bits, to_bits, is_nan, ◌==◌, ◌||◌, if◌then◌else◌}
use Rattle.std.specs.Int.{w64, to_be_bytes}
use Rattle.std.specs.Float.{binary64}
use Rattle.std.specs.Float.Ieee.{nan_bits}
use Rattle.std.specs.Float.Parse.{parse_float}
use Rattle.std.specs.List.{list_any}
use Rattle.bser_format.specs.MarkedText.{marked_text}

-- the number, where the bits are not those of a NaN
abbrev pub float_of : ℕ → Option Float
float_of bits = if nan_bits binary64 bits then None else Some (from_bits binary64 bits)

-- the bits of a number that is no NaN
abbrev pub bits_of : Float → Option ℕ
bits_of x = if is_nan x then None else Some (to_bits binary64 x)

-- the number, where the bits are neither those of an infinity nor of a NaN
abbrev pub finite : ℕ → Option Float
finite bits = if bits % 2 ^ 63 == 0x7ff0000000000000 then None else float_of bits

-- what is printed of an infinity and of a NaN: the bits, the highest byte first
abbrev pub bits_text : ℕ → List ℕ
bits_text bits = marked_text (codes "$real") (to_be_bytes w64 bits)

-- a point, or the letter of an exponent
abbrev pub is_point_or_e : ℕ → Bool
is_point_or_e c = (c == 46) || ((c == 101) || (c == 69))

-- whether a number's text has a point or an exponent, as no integer's has
abbrev pub has_point_or_e : List ℕ → Bool
has_point_or_e s = list_any is_point_or_e s

-- a text of the number with these bits: one that is no integer's, and reads back as it
abbrev pub IsNumberText : ℕ → List ℕ → Type 0
IsNumberText bits s =
    (has_point_or_e s ≡ true) × (read : Float) × (parse_float binary64 s ≡ Some read) × (bits_of read ≡ Some bits)

-- a text of the number with these bits, or this one where there is none
abbrev pub IsNumberTextOr : ℕ → List ℕ → Option Float → List ℕ → Type 0
IsNumberTextOr bits other (Some x) s = IsNumberText bits s
IsNumberTextOr bits other None s = s ≡ other

-- a text of a real
abbrev pub IsRealText : ℕ → List ℕ → Type 0
IsRealText bits = IsNumberTextOr bits (bits_text bits) (finite bits)

-- the one text of a real that is no finite number
abbrev pub unless_number : List ℕ → Option Float → Option (List ℕ)
unless_number text (Some x) = None
unless_number text None = Some text

abbrev pub real_text : ℕ → Option (List ℕ)
real_text bits = unless_number (bits_text bits) (finite bits)
