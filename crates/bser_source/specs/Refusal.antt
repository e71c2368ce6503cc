-- When a byte source fails, and what state that leaves.
use Rattle.std.specs.Prelude.{◌≡◌, ℕ, ◌+◌, ◌^◌, ◌<◌, ◌≤◌, true, false, List, ◌++◌, length, ◌⊎◌, IfSome}
use Rattle.std.specs.Io.KnownBytes.{Consumes, IsAtEnd}
use Rattle.bser_source.specs.Failures.{failures_after}
use Rattle.bser_format.specs.declared.errors.ReadCause.{ReadCause}
use Rattle.bser_format.specs.declared.errors.ReadCause.TheVariants.{Eof, Utf8, Reader, Memory, Failed}
use Rattle.bser_source.specs.Window.{Window, left}

-- what has to hold where a call that wants n bytes fails with this cause
abbrev pub Excuse : ReadCause → Window → ℕ → Type 0
Excuse Eof s n = IfSome (left s) (λ xs. length xs < n) × (length s.buffered < n)
Excuse Utf8 s n = ⊥
Excuse (Reader e) s n = s.lends ≡ false
Excuse Memory s n = s.lends ≡ false
Excuse Failed s n = (s.failed ≡ true) ⊎ ((s.lends ≡ false) × (2 ^ 64 ≤ s.count + n) × (length s.buffered < n))

-- a source that lends is unchanged by an error, and any other fails from then on
pub record Refused (cause : ReadCause) (old new : Window) (n : ℕ) : Type 0 where
  pub excuse : Excuse cause old n
  pub lends : new.lends ≡ old.lends
  pub through : new.through ≡ old.through
  pub failures : new.failures ≡ failures_after cause old.failures
  pub unchanged : old.lends ≡ true → new ≡ old
  pub failed : old.lends ≡ false → new.failed ≡ true
  -- what has failed gives this error alone
  pub before : old.failed ≡ true → cause ≡ Failed

-- where n bytes were wanted the device gave fewer with those buffered, and has no more
pub record EndsShort (n : ℕ) (old new : Window) : Type 0 where
  pub more : List ℕ
  pub device : Consumes old.beyond new.beyond more
  pub fewer : length (old.buffered ++ more) < n
  pub end : IsAtEnd new.beyond
