-- What was told is counted.
use Rattle.std.proofs.lemmas.Result.{err_from_is_err_and}
use Rattle.bser_deserializer.proofs.Told.{any_told}
use Rattle.bser_messages.specs.Tallies.{Takes}
use Rattle.bser_messages.proofs.SizeReads.{told_read, size_refused}
use Rattle.bser_messages.proofs.size.SizeDeserialize.deserialize.Goals as goal

pub returns-in_err-read_any-clause-refused : goal.returns-in_err-read_any-clause-refused
returns-in_err-read_any-clause-refused g c =
    let p = err_from_is_err_and c.from_residual.result c.from_residual.ensures.1 in
    rw p.1 (size_refused _ c.args.from.now.state c.read_any.new.self.state c.in_err-read_any.ensures.refused)

pub returns-clause-found : goal.returns-clause-found
returns-clause-found g c = told_read c.new-sizing.result c.read_any.new.builder c.into_size.result _ _ c.new-sizing.ensures (any_told Takes _ _ _ _ c.in_ok-read_any.ensures.found) c.into_size.ensures
