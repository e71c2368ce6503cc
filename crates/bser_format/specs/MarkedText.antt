-- What JSON cannot say, as an object with one key that begins with a dollar sign.
use Rattle.std.specs.Prelude.{ℕ, ◌/◌, ◌%◌, List, [], ◌∷◌, ◌++◌, flat_map, codes, encode_utf8_all, if◌then◌else◌}
use Rattle.std.specs.Char.{digit_char}
use Rattle.std.specs.Str.{is_utf8}
use Rattle.bser_format.specs.QuotedText.{quoted_text}

-- a byte as two lowercase hexadecimal digits
abbrev pub hex_byte : ℕ → List ℕ
hex_byte b = digit_char (b / 16) ∷ digit_char (b % 16) ∷ []

-- bytes as two digits each
abbrev pub hex_text : List ℕ → List ℕ
hex_text bs = encode_utf8_all (flat_map hex_byte bs)

-- an object whose one value are these bytes in hexadecimal
abbrev pub marked_text : List ℕ → List ℕ → List ℕ
marked_text key bs = codes "{\"" ++ key ++ codes "\": \"" ++ hex_text bs ++ codes "\"}"

-- a byte string: as a text where it is UTF-8, else marked
abbrev pub bytes_text : List ℕ → List ℕ
bytes_text bs = if is_utf8 bs then quoted_text bs else marked_text (codes "$bytes") bs
