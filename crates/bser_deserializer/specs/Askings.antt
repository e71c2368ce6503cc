-- The askings of types without parts.
use Rattle.std.specs.Prelude.{ℤ, Bool}
use Rattle.bser_format.specs.ReadsScalars.{reads_bool, reads_real, reads_unit, reads_integer, reads_slice, reads_string, reads_char}
use Rattle.bser_format.specs.ReadsAny.{reads_value, reads_ignored}
use Rattle.bser_format.specs.Asks.{asks_bool, asks_real, asks_unit, asks_integer, asks_bytes, asks_string, asks_char, asks_any}
use Rattle.bser_format.proofs.Anything.{ignored_passes, value_passes}
use Rattle.bser_format.proofs.Scalars.{bool_passes, real_passes, unit_passes}
use Rattle.bser_format.proofs.Integers.{integer_passes}
use Rattle.bser_format.proofs.Strings.{bytes_passes, string_passes, char_passes}
use Rattle.bser_deserializer.specs.Reading.{Asking}

-- a truth value
abbrev pub asking_bool : Asking reads_bool
asking_bool = record { asks = asks_bool; passes = bool_passes }

-- the 64 bits of a real
abbrev pub asking_real : Asking reads_real
asking_real = record { asks = asks_real; passes = real_passes }

-- null, or the skip of a field
abbrev pub asking_unit : Asking reads_unit
asking_unit = record { asks = asks_unit; passes = unit_passes }

-- an integer that the type holds
abbrev pub asking_integer : (fits : ℤ → Bool) → Asking (reads_integer fits)
asking_integer fits = record { asks = asks_integer fits; passes = integer_passes fits }

-- bytes, or a key
abbrev pub asking_bytes : Asking reads_slice
asking_bytes = record { asks = asks_bytes; passes = bytes_passes }

-- a text
abbrev pub asking_string : Asking reads_string
asking_string = record { asks = asks_string; passes = string_passes }

-- a text of one character
abbrev pub asking_char : Asking reads_char
asking_char = record { asks = asks_char; passes = char_passes }

-- whatever is there, of which nothing is kept
abbrev pub asking_ignored : Asking reads_ignored
asking_ignored = record { asks = asks_any; passes = ignored_passes }

-- whatever is there, as a `Value`
abbrev pub asking_value : Asking reads_value
asking_value = record { asks = asks_any; passes = value_passes }
