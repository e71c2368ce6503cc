-- A text in double quotes, as JSON writes it.
use Rattle.std.specs.Prelude.{ℕ, ◌/◌, ◌%◌, List, [], ◌∷◌, Option, Some, None, ◌++◌, flat_map, codes, chars, encode_utf8_all, ◌==◌, nat_lt, if◌then◌else◌}
use Rattle.std.specs.Char.{digit_char}
use Rattle.std.specs.List.{slice_get}

-- the letter after the backslash, as in `\n`, or 0 where a character has none
abbrev pub escape_letter : ℕ → ℕ
escape_letter c =
    if c == 0x22 then 0x22 else (if c == 0x5C then 0x5C else (if c == 8 then 0x62 else (if c == 9 then 0x74
    else (if c == 10 then 0x6E else (if c == 12 then 0x66 else (if c == 13 then 0x72 else 0))))))

-- `\u00` and two lowercase hexadecimal digits
abbrev pub control_code : ℕ → List ℕ
control_code c = codes "\\u00" ++ digit_char (c / 16) ∷ digit_char (c % 16) ∷ []

-- how a character is written between the quotes: by its letter, as a code below the space, or as it
-- is
abbrev pub json_escape : ℕ → List ℕ
json_escape c =
    if escape_letter c == 0 then (if nat_lt c 0x20 then control_code c else c ∷ [])
    else 0x5C ∷ escape_letter c ∷ []

-- the characters of a text, as they are written between the quotes
abbrev pub between_quotes : List ℕ → List ℕ
between_quotes bs = encode_utf8_all (flat_map json_escape (chars bs))

-- the text in quotes, as bytes
abbrev pub quoted_text : List ℕ → List ℕ
quoted_text bs = codes "\"" ++ between_quotes bs ++ codes "\""

-- one more dollar sign, where this byte is one
abbrev pub mark_before : Option ℕ → List ℕ
mark_before (Some c) = if c == 0x24 then codes "$" else []
mark_before None = []

-- what is put before a key: a dollar sign where the key begins with one
abbrev pub key_mark : List ℕ → List ℕ
key_mark bs = mark_before (slice_get bs 0)

-- a key in quotes, as bytes
abbrev pub quoted_key : List ℕ → List ℕ
quoted_key bs = codes "\"" ++ key_mark bs ++ between_quotes bs ++ codes "\""
