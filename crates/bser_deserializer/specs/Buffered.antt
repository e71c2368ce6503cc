-- What is buffered of a value that is expected.
use Rattle.std.specs.Prelude.{◌≡◌, ◌≤◌, ◌⊎◌, ℕ, false, List, length, take}
use Rattle.bser_format.specs.Expected.{node_due}
use Rattle.bser_source.specs.Window.{AreOctets, Filled}
use Rattle.bser_deserializer.specs.Seen.{Seen}
use Rattle.bser_deserializer.specs.State.{with_source}

-- a byte of the value that is expected is buffered, and others may be
pub record BuffersValue (old new : Seen) : Type 0 where
  pub due : old.state.due ≡ node_due
  pub filled : Filled 1 old.state.source new.state.source
  pub state : new.state ≡ with_source old.state new.state.source

-- the same, or no value is expected and nothing changed
abbrev pub Buffers : Seen → Seen → Type 0
Buffers old new = (new.state ≡ old.state) ⊎ BuffersValue old new

-- these are the first bytes that are buffered where a value is expected with so many levels left, and
-- no call failed
pub record IsValueFront (s : Seen) (levels : ℕ) (bytes : List ℕ) : Type 0 where
  pub due : s.state.due ≡ node_due
  pub left : s.state.levels ≡ levels
  pub within : length bytes ≤ length s.state.source.buffered
  pub first : bytes ≡ take (length bytes) s.state.source.buffered
  pub octets : AreOctets bytes
  pub buffered : AreOctets s.state.source.buffered
  pub working : s.state.source.failed ≡ false
