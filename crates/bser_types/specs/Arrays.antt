-- What arrays of a fixed length read, and what they ask for: they are tuples of equal parts.
use Rattle.std.specs.Prelude.{ℕ, zero, suc, replicate, Option}
use Rattle.bser_format.specs.Content.{Meaning}
use Rattle.bser_format.specs.ReadsHolders.{reads_tuple}
use Rattle.bser_deserializer.specs.Reading.{Asking}
use Rattle.bser_types.specs.Askings.{PartAskings, asking_tuple}

-- an array of n items of this type
abbrev pub reads_array : ℕ → Meaning → Meaning
reads_array n T = reads_tuple (replicate n T)

-- so many equal parts, each of which asks for this
abbrev pub equal_parts : {T : Meaning} → (n : ℕ) → Option (Asking T) → PartAskings (replicate n T)
equal_parts zero a = tt
equal_parts (suc n) a = (a, equal_parts n a)

-- an array of n items, where its items say one
abbrev pub asking_array : {T : Meaning} → (n : ℕ) → Option (Asking T) → Option (Asking (reads_array n T))
asking_array {T = T} n a = asking_tuple (replicate n T) (equal_parts n a)
