-- What a tuple needs, by its parts.
use Rattle.std.specs.Prelude.{Bool, true, false, ◌||◌, List, [], ◌∷◌, Option, Some, None}
use Rattle.bser_format.specs.Content.{Meaning, ReadsNoObject}
use Rattle.bser_deserializer.specs.Reading.{Needs}
use Rattle.bser_types.specs.Slots.{any_lent}

-- of each type that it reads no object, where that is known
abbrev pub Plain : List Meaning → Type 0
Plain [] = Unit {0}
Plain (T ∷ Ts) = Option (ReadsNoObject T) × Plain Ts

-- whether the types may read rows: of none is it known that it reads no object
abbrev pub may_read_rows : (Ts : List Meaning) → Plain Ts → Bool
may_read_rows [] ps = true
may_read_rows (T ∷ Ts) (None, ps) = may_read_rows Ts ps
may_read_rows (T ∷ Ts) (Some none, ps) = false

-- whether reading a value of one of these types may take memory
abbrev pub any_memory : List Needs → Bool
any_memory [] = false
any_memory (n ∷ ns) = n.memory || any_memory ns

-- what its parts need, and memory for the keys of a template, which are copied; where no template
-- is read, that is memory for errors alone
abbrev pub tuple_needs : List Needs → (Ts : List Meaning) → Plain Ts → Needs
tuple_needs ns Ts ps = record { lent = any_lent ns; memory = any_memory ns || may_read_rows Ts ps; keys = true; copied = true }
