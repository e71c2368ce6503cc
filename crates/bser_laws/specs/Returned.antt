-- What is read back from what is written for a value, and why nothing is.
use Rattle.std.specs.Prelude.{◌≡◌, ◌⊎◌, ℕ, ◌<◌, ◌^◌, List, length, Option, Some, Ok}
use Rattle.bser_format.specs.Tree.{Tree}
use Rattle.bser_format.specs.Canonical.{canonical_message, IsWritable}
use Rattle.bser_format.specs.Measures.{depth}
use Rattle.bser_format.specs.ReadsAny.{reads_value}
use Rattle.bser_format.specs.declared.errors.Error.{Error}
use Rattle.bser_format.specs.declared.errors.Error.TheVariants.{OutOfMemory}
use Rattle.bser_ser.specs.Message.{IsUnmeasured}
use Rattle.bser_value.specs.declared.value.Value.{Value}
use Rattle.serde_bser.specs.Laws.{ReadsAs}
use Rattle.serde_bser.specs.Messages.{TookMessage, RefusesReader, IsReaderFault}
use Rattle.serde_bser.specs.Reading.{Asking}
use Rattle.serde_bser.specs.ValueView.{HoldsValue}

-- the tree can be written, its message is at most i64::MAX bytes, and it reads as the value
pub record IsWrittenFor (t v : Tree) : Type 0 where
  pub writable : IsWritable t
  pub short : length (canonical_message t) < 2 ^ 63
  pub read : ReadsAs t v

-- want of memory, a body longer than i64::MAX bytes, or more levels than are read
abbrev pub IsNotReturned : ℕ → Tree → Error → Type 0
IsNotReturned n t e = IsUnmeasured (Ok t) e ⊎ (n < depth t)

-- a value is not returned, or there is a fault that the reader counted, which had counted none
abbrev pub IsNotReturnedByReader : ℕ → Tree → Error → Type 0
IsNotReturnedByReader n t e = IsNotReturned n t e ⊎ ((after : ℕ) × IsReaderFault 0 after e)

-- a reader of the bytes took exactly one message, which reads as the value, and has the rest left
abbrev pub TookOne : ℕ → List ℕ → List ℕ → Value → Type 0
TookOne n bytes rest v = TookMessage n reads_value HoldsValue (Some bytes) (Some rest) v

-- a reader of the bytes refused them, or memory was refused
abbrev pub IsNotRead : ℕ → Option (Asking reads_value) → List ℕ → Error → Type 0
IsNotRead n asks bytes e = (e ≡ OutOfMemory) ⊎ ((after : ℕ) × RefusesReader n reads_value asks e (Some bytes) 0 after)
