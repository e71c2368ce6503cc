-- The line and the column of a byte in a text.
use Rattle.std.specs.Prelude.{ℕ, ◌+◌, ◌-◌, ◌^◌, min, List, take, fold, Bool, not, ◌&&◌, ◌==◌, nat_le, nat_lt, if◌then◌else◌}
use Rattle.bser_from_json.specs.declared.fault.Place.{Place}

-- one more, where a `usize` holds it
abbrev pub more : ℕ → ℕ
more n = min (n + 1) (2 ^ 64 - 1)

-- whether a character begins with the byte, in UTF-8
abbrev pub begins_character : ℕ → Bool
begins_character x = not (nat_le 128 x && nat_lt x 192)

-- the place behind a byte: a newline begins a line, and another character a column
abbrev pub behind_byte : Place → ℕ → Place
behind_byte p x =
    if x == 10 then record { line = more p.line; column = 1 }
    else if begins_character x then record { line = p.line; column = more p.column } else p

-- the place behind bytes that begin here
abbrev pub behind_bytes : Place → List ℕ → Place
behind_bytes p bs = fold behind_byte p bs

-- the place in a text of the byte that so many stand before
abbrev pub place_in : List ℕ → ℕ → Place
place_in text n = behind_bytes (record { line = 1; column = 1 }) (take n text)

-- the place in a text that begins at the first one, where in that text it is the second
abbrev pub around : Place → Place → Place
around p q =
    if nat_lt 1 q.line then record { line = min (p.line + (q.line - 1)) (2 ^ 64 - 1); column = q.column }
    else record { line = p.line; column = min (p.column + (q.column - 1)) (2 ^ 64 - 1) }
