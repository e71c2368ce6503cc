-- Errors of a value that no call of the reader below answers.
use Rattle.bser_format.specs.declared.errors.Error.{Error}
use Rattle.bser_format.specs.declared.errors.Error.TheVariants.{OutOfMemory, DeRecursionLimitExceeded, DeInvalidStartByte}
use Rattle.bser_format.specs.declared.errors.Complaint.TheVariants.{RowsWithoutKeys}
use Rattle.bser_format.specs.Named.{complain, utf8_wanted}
use Rattle.bser_events.specs.declared.refusal.Fault.{Fault}
use Rattle.bser_events.specs.declared.refusal.Fault.TheVariants.{Level, Tag, Text, Rows, Memory}

-- the error
abbrev pub refusal_of : Fault → Error
refusal_of (Level kind) = DeRecursionLimitExceeded kind
refusal_of (Tag kind byte) = DeInvalidStartByte kind byte
refusal_of Text = utf8_wanted
refusal_of Rows = complain RowsWithoutKeys
refusal_of Memory = OutOfMemory
