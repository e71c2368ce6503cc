-- A name is taken as a copy.
use Rattle.std.proofs.lemmas.Result.{err_from_is_err_and}
use Rattle.bser_format.specs.ReadsScalars.{reads_slice}
use Rattle.bser_deserializer.specs.Askings.{asking_bytes}
use Rattle.bser_deserializer.specs.State.{State}
use Rattle.bser_deserializer.proofs.Copies.{owning}
use Rattle.bser_deserializer.proofs.deserializer.Deserializer.copy_name.Goals as goal

pub returns-in_err-bytes-clause-refused : goal.returns-in_err-bytes-clause-refused
returns-in_err-bytes-clause-refused g c =
    let s : State = c.args.self.now.state in
    let n : State = c.take_name.new.self.state in
    let p = err_from_is_err_and c.from_residual.result c.from_residual.ensures.1 in
    rw p.1 (owning reads_slice asking_bytes _ s n c.in_err-bytes.ensures.refused)
