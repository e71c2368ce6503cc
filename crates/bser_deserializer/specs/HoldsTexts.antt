-- What strings and characters hold.
use Rattle.std.specs.Prelude.{◌≡◌, ℕ, pos, List, Option, option_map}
use Rattle.bser_format.specs.Content.{Content, byte_list, number}

-- the bytes
abbrev pub HoldsBytes : List ℕ → Content → Type 0
HoldsBytes s c = c ≡ byte_list s

-- the character's number
abbrev pub HoldsChar : ℕ → Content → Type 0
HoldsChar v c = c ≡ number (pos v)

-- what a character holds, where there is one
abbrev pub char_content : Option ℕ → Option Content
char_content = option_map (λ v. number (pos v))
