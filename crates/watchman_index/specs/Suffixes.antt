-- The suffix of a file's name.
use Rattle.std.specs.Prelude.{ℕ, Bool, not, List, [], ◌∷◌, Option, Some, None, if◌then◌else◌, ◌&&◌, ◌||◌, ◌==◌}
use Rattle.std.specs.List.{list_any}
use Rattle.std.specs.Option.{option_or}

-- a dot, behind which a suffix is
abbrev pub dot : ℕ
dot = 46

-- a slash, which parts the components of a path
abbrev pub slash : ℕ
slash = 47

-- whether the byte is one of the two
abbrev pub is_mark : ℕ → Bool
is_mark b = b == dot || b == slash

-- whether a slash is among the bytes
abbrev pub has_slash : List ℕ → Bool
has_slash bytes = list_any (λ b. b == slash) bytes

-- what is behind the last dot of a name, where no slash is behind it
abbrev pub suffix_of : List ℕ → Option (List ℕ)
suffix_of [] = None
suffix_of (b ∷ rest) = option_or (suffix_of rest)
    (if b == dot && not (has_slash rest) then Some rest else None)
