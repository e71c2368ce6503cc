-- Ranges of integers.
use Rattle.std.specs.Prelude.{◌≡◌, ◌≤ℤ◌, ℤ, Bool, true, FitsSigned}
use Rattle.std.specs.Int.{w64}
use Rattle.bser_format.specs.declared.errors.Error.{Error}
use Rattle.bser_format.specs.declared.errors.Complaint.TheVariants.{IntegerOutOfRange}
use Rattle.bser_format.specs.Clauses.{after_a_refusal}
use Rattle.bser_format.specs.Named.{complain}
use Rattle.bser_deserializer.specs.State.{State}

-- what a range holds of 64 bits lies between these two
abbrev pub LiesWithin : (ℤ → Bool) → ℤ → ℤ → Type 0
LiesWithin fits least most = (v : ℤ) → FitsSigned w64 v → fits v ≡ true → (least ≤ℤ v) × (v ≤ℤ most)

-- the error of an integer that was read
abbrev pub out_of_range : State → Error
out_of_range s = after_a_refusal s.source.failed (complain IntegerOutOfRange)
