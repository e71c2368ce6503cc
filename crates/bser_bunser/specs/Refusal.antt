-- How a call of the reader of tagged values fails, and what state it is in then.
use Rattle.std.specs.Prelude.{◌≡◌, ◌⊎◌, ◌+◌, ◌^◌, ℕ, ℤ, pos, negsuc, true, Option, Some, None, IsSomeAnd, nat_lt, if◌then◌else◌}
use Rattle.bser_format.specs.declared.errors.ReadCause.{ReadCause}
use Rattle.bser_format.specs.declared.errors.ReadCause.TheVariants.{Eof, Utf8, Reader, Memory, Failed}
use Rattle.bser_format.specs.declared.errors.Error.{Error}
use Rattle.bser_format.specs.declared.errors.Error.TheVariants.{DeInvalidStartByte, DeEof, DeReaderError, OutOfMemory}
use Rattle.bser_format.specs.declared.errors.Kind.{Kind}
use Rattle.bser_format.specs.declared.errors.Kind.TheVariants.{Integer}
use Rattle.bser_format.specs.declared.errors.Complaint.TheVariants as complaints
use Rattle.bser_source.specs.Failures.{failures_after}
use Rattle.bser_format.specs.Named.{complain}
use Rattle.bser_format.specs.Clauses.{after_a_refusal}
use Rattle.bser_source.specs.Window.{Window}
use Rattle.bser_source.specs.Refusal.{Excuse}
use Rattle.bser_bunser.specs.declared.prefix.Unexpected.{Unexpected}
use Rattle.bser_bunser.specs.declared.prefix.Unexpected.TheVariants.{Tag, Length, NegativeLength, NegativeCount}

-- the byte source's cause in an error; out of memory has an error of its own
abbrev pub cause_of : Error → Option ReadCause
cause_of (DeReaderError Eof) = Some Eof
cause_of (DeReaderError Utf8) = Some Utf8
cause_of (DeReaderError (Reader fault)) = Some (Reader fault)
cause_of (DeReaderError Memory) = None
cause_of (DeReaderError Failed) = Some Failed
cause_of OutOfMemory = Some Memory
cause_of _ = None

-- the failures after an error
abbrev pub failures_by : Error → ℕ → ℕ
failures_by (DeReaderError cause) n = failures_after cause n
failures_by _ n = n

-- what holds after any error
pub record Fails (e : Error) (old new : Window) : Type 0 where
  -- what has failed gives this error alone
  pub before : old.failed ≡ true → e ≡ DeReaderError Failed
  pub failed : new.failed ≡ true
  pub lends : new.lends ≡ old.lends
  pub through : new.through ≡ old.through
  pub failures : new.failures ≡ failures_by e old.failures

-- a call that only wants n bytes fails as its byte source does
pub record ShortOf (n : ℕ) (e : Error) (old new : Window) : Type 0 where
  pub excuse : IsSomeAnd (cause_of e) (λ c. Excuse c old n)
  pub fails : Fails e old new

-- a call that wants as many bytes
abbrev pub BytesRefused : ℤ → Error → Window → Window → Type 0
BytesRefused (pos n) e old new = ShortOf n e old new
BytesRefused (negsuc n) e old new =
    (e ≡ after_a_refusal old.failed (complain complaints.NegativeLength)) × Fails e old new

-- a call that wants as many bytes, and memory for them
abbrev pub CopyRefused : ℕ → Error → Window → Window → Type 0
CopyRefused n e old new = ShortOf n e old new ⊎ ((e ≡ OutOfMemory) × Fails e old new)

-- the error of what is where something of this kind is wanted
abbrev pub unexpected_refusal : Kind → Unexpected → Error
unexpected_refusal kind (Tag b) = DeInvalidStartByte kind b
unexpected_refusal kind (Length b) = DeInvalidStartByte Integer b
unexpected_refusal kind NegativeLength = complain complaints.NegativeLength
unexpected_refusal kind NegativeCount = complain complaints.NegativeCount

-- why a body that was to end at start + len does not end at this count
abbrev pub end_refusal : ℤ → ℤ → ℕ → Error
end_refusal (pos start) (pos len) count =
    if nat_lt (start + len) (2 ^ 63) then DeEof (start + len) count
    else complain complaints.CountTooGreat
end_refusal _ _ count = complain complaints.NegativeLength
