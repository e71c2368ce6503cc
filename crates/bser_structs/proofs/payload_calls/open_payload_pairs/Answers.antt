use Rattle.std.proofs.Common.{subst}
use Rattle.std.proofs.lemmas.Result.{err_from_is_err_and}
use Rattle.bser_deserializer.specs.Access.{RefusesPairs}
use Rattle.bser_deserializer.specs.State.{State}
use Rattle.bser_structs.proofs.payload_calls.open_payload_pairs.Goals as goal

pub returns-in_err-pairs-clause-refused : goal.returns-in_err-pairs-clause-refused
returns-in_err-pairs-clause-refused g c =
    let z : State = c.open_pairs.new.self.state in
    let p = err_from_is_err_and c.from_residual.result c.from_residual.ensures.1 in
    rw (p.1, c.in-Some.is) (subst (λ (s : State). RefusesPairs c.open_pairs.new.self.refusal s z) c.await_payload.ensures c.in_err-pairs.ensures.refused)
