-- A reader or writer whose failures are counted.
use Rattle.std.specs.Prelude.{ℕ}
use Rattle.bser_source.specs.declared.device.Watched.{Watched}

-- the reader or writer
abbrev pub inner_of : {T : Type 0} → Watched T → T
inner_of w = w.inner

-- its failures so far
abbrev pub failures_of : {T : Type 0} → Watched T → ℕ
failures_of w = w.failures
