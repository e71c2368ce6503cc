-- How many failures a device has counted after an error.
use Rattle.std.specs.Prelude.{◌≡◌, ℕ, ◌<◌, List, length, Option, IfSome}
use Rattle.bser_source.specs.Device.{one_more}
use Rattle.bser_format.specs.declared.errors.ReadCause.{ReadCause}
use Rattle.bser_format.specs.declared.errors.ReadCause.TheVariants.{Eof, Utf8, Reader, Memory, Failed}

-- the failures after an error: an error of the device is one more
abbrev pub failures_after : ReadCause → ℕ → ℕ
failures_after (Reader e) n = one_more n
failures_after Eof n = n
failures_after Utf8 n = n
failures_after Memory n = n
failures_after Failed n = n

-- a reader could not give n bytes
abbrev pub FillRefused : ReadCause → Option (List ℕ) → ℕ → ℕ → ℕ → Type 0
FillRefused Eof remaining old new n = IfSome remaining (λ xs. length xs < n) × (new ≡ old)
FillRefused Utf8 remaining old new n = ⊥
FillRefused (Reader e) remaining old new n = new ≡ one_more old
FillRefused Memory remaining old new n = new ≡ old
FillRefused Failed remaining old new n = ⊥
