-- Strings and keys, in a JSON text and in what `{}` prints.
use Rattle.std.specs.Prelude.{◌≡◌, ℕ, List, ◌++◌, codes}
use Rattle.std.specs.Str.{IsUtf8}
use Rattle.json.specs.Print.{token_text}
use Rattle.json.specs.Token as tokens
use Rattle.bser_format.specs.QuotedText.{quoted_key, quoted_text}
use Rattle.bser_json.specs.Said.{said_key}

-- a string is written between its quotes as `{}` of a value prints it, and so is a key, before its colon
abbrev pub StringsAlike : Type 0
StringsAlike =
    (s : List ℕ) → IsUtf8 s
    → (token_text (tokens.string s) ≡ quoted_text s) × (token_text (said_key s) ≡ quoted_key s ++ codes ":")
