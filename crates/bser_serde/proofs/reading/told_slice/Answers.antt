-- What was told is a well-formed message.
use Rattle.bser_serde.proofs.Told.{begins_with, unfit_slice}
use Rattle.bser_serde.proofs.reading.told_slice.Goals as goal

pub returns-in-Ok-read-clause-found : goal.returns-in-Ok-read-clause-found
returns-in-Ok-read-clause-found g c = begins_with _ _ _ _ _ _ c.in-Ok.ensures.found

pub returns-in-Err-read-clause-refused : goal.returns-in-Err-read-clause-refused
returns-in-Err-read-clause-refused g c = unfit_slice _ _ _ (begins_with _ _ _ _ _ _ c.in-Ok.ensures.found) c.in-Err-read.ensures
