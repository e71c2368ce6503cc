-- What a write through the borrowed bytes of a byte string leaves, and how NUL is quoted.
use Rattle.std.specs.Prelude.{ℕ, ◌/◌, ◌%◌, List, [], ◌∷◌, ◌++◌, length, take, drop}
use Rattle.std.specs.Char.{digit_char}
use Rattle.std.specs.Char.Escape.{backslash, escape_default}
use Rattle.bser_format.specs.Escaped.{escape_debug}
use Rattle.bser_format.specs.declared.bytestring.NulForm.{NulForm}
use Rattle.bser_format.specs.declared.bytestring.NulForm.TheVariants.{Code, Short}

-- the bytes w in place of as many at the start of bs, whose length stays: w itself where it is as
-- long
abbrev pub overwritten : List ℕ → List ℕ → List ℕ
overwritten bs w = take (length bs) (w ++ drop (length w) bs)

-- how a character is escaped between the quotes
abbrev pub escape_by : NulForm → ℕ → List ℕ
escape_by Code = escape_default
escape_by Short = escape_debug

-- an escaped byte with its backslash escaped once more
abbrev pub quoted_byte : ℕ → List ℕ
quoted_byte b = backslash ∷ backslash ∷ 120 ∷ digit_char (b / 16 % 16) ∷ digit_char (b % 16) ∷ []
