-- A writer into memory, up to a number of bytes.
use Rattle.std.specs.Prelude.{ℕ, List}
use Rattle.bser_source.specs.Memory.{bytes_in as in_memory}
use Rattle.bser_canonical.specs.declared.room.Room.{Room}

-- the bytes in its vector
abbrev pub bytes_in : Room → List ℕ
bytes_in m = in_memory m.memory

-- its failures so far
abbrev pub failures_in : Room → ℕ
failures_in m = m.failures
