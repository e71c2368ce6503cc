-- How calls after an error, and calls out of their turn, fail.
use Rattle.std.specs.Prelude.{ℕ, zero, Bool, if◌then◌else◌}
use Rattle.bser_format.specs.Expected.{Due, nothing_due}
use Rattle.bser_format.specs.declared.errors.Error.{Error}
use Rattle.bser_format.specs.declared.errors.Error.TheVariants.{DeReaderError}
use Rattle.bser_format.specs.declared.errors.ReadCause.TheVariants as causes
use Rattle.bser_format.specs.declared.errors.Complaint.TheVariants.{ItemsLeft, ValueOpen}
use Rattle.bser_format.specs.Named.{complain}

-- what has failed gives this error alone
abbrev pub after_a_refusal : Bool → Error → Error
after_a_refusal failed e = if failed then DeReaderError causes.Failed else e

-- `end` of an access, where something is left
abbrev pub left_over : Bool → Error
left_over failed = after_a_refusal failed (complain ItemsLeft)

-- a key where a value is expected, or a value where a key is
abbrev pub out_of_turn : Bool → Error
out_of_turn failed = after_a_refusal failed (complain ValueOpen)

-- `end` of a deserializer, where a container is open or a value is expected; else this
abbrev pub still_open : Due → ℕ → Error → Error
still_open nothing_due zero e = e
still_open d opened e = complain ValueOpen
