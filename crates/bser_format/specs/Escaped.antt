-- How bytes that may be no text are shown as text, and how that text is quoted.
use Rattle.std.specs.Prelude.{ℕ, zero, suc, ◌/◌, ◌%◌, List, [], ◌∷◌, ◌++◌, take, flat_map, codes, chars, encode_utf8_all, ◌==◌, if◌then◌else◌}
use Rattle.std.specs.Str.{continuation_len, is_utf8, StartsWithNoChar}
use Rattle.std.specs.Char.{digit_char, encode_utf8, IsScalar}
use Rattle.std.specs.Char.Escape.{backslash, escape_default}

-- `\x` and two lowercase hexadecimal digits
abbrev pub escaped_byte : ℕ → List ℕ
escaped_byte b = backslash ∷ 120 ∷ digit_char (b / 16 % 16) ∷ digit_char (b % 16) ∷ []

-- as many bytes, from b on, as a character that begins with b takes: they are UTF-8 where a character starts there
abbrev pub first_piece : ℕ → List ℕ → List ℕ
first_piece b bs = take (suc (continuation_len b)) (b ∷ bs)

-- the characters past the first n bytes: a character of the bytes stays, and any other byte is escaped by itself
unfoldable pub escaped_after : ℕ → List ℕ → List ℕ
escaped_after n [] = []
escaped_after (suc n) (b ∷ bs) = escaped_after n bs
escaped_after zero (b ∷ bs) =
    let copied = chars (first_piece b bs) ++ escaped_after (continuation_len b) bs in
    let stray = escaped_byte b ++ escaped_after 0 bs in
    if is_utf8 (first_piece b bs) then copied else stray

-- the characters of the escaped text
abbrev pub escaped_chars : List ℕ → List ℕ
escaped_chars = escaped_after 0

-- the escaped text, as bytes
abbrev pub escaped : List ℕ → List ℕ
escaped bs = encode_utf8_all (escaped_chars bs)

-- the text shows the bytes, cut from the left: a character is copied, and a byte at which none starts is escaped by itself
pub data IsEscaped : List ℕ → List ℕ → Type 0 where
  end : IsEscaped [] []
  character : (c : ℕ) (bs text : List ℕ) → IsScalar c → IsEscaped bs text → IsEscaped (encode_utf8 c ++ bs) (encode_utf8 c ++ text)
  stray : (b : ℕ) (bs text : List ℕ) → StartsWithNoChar (b ∷ bs) → IsEscaped bs text → IsEscaped (b ∷ bs) (escaped_byte b ++ text)

-- the escaped text in double quotes, with each of its characters escaped once more
abbrev pub quoted : (ℕ → List ℕ) → List ℕ → List ℕ
quoted escape bs = 0x22 ∷ (flat_map escape (escaped_chars bs) ++ 0x22 ∷ [])

-- `\0` for NUL, and every other character as `escape_default` writes it
abbrev pub escape_debug : ℕ → List ℕ
escape_debug c = if c == 0 then codes "\\0" else escape_default c

-- what `{}` writes of a byte string, as bytes
abbrev pub display_text : List ℕ → List ℕ
display_text bs = encode_utf8_all (quoted escape_default bs)

-- what `{:?}` writes of it
abbrev pub debug_text : List ℕ → List ℕ
debug_text bs = encode_utf8_all (quoted escape_debug bs)
