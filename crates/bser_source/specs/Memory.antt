-- What callers see of a writer into memory.
use Rattle.std.specs.Prelude.{◌≡◌, ℕ, List, length, Result, MatchResult}
use Rattle.std.specs.IoError.{error_kind}
use Rattle.std.specs.declared.io.Error as io
use Rattle.std.specs.declared.io.ErrorKind.TheVariants.{OutOfMemory}
use Rattle.bser_source.specs.declared.memory.InMemory.{InMemory}

-- the bytes in its vector
abbrev pub bytes_in : InMemory → List ℕ
bytes_in m = m.bytes.items

-- its failures so far
abbrev pub failures_in : InMemory → ℕ
failures_in m = m.failures

-- all bytes were taken, or memory ran out
abbrev pub TakesAllOrNothing : List ℕ → Result ℕ io.Error → Type 0
TakesAllOrNothing bytes r = MatchResult r (λ n. n ≡ length bytes) (λ e. error_kind e ≡ OutOfMemory)
