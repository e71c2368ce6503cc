use Rattle.std.proofs.lemmas.Result.{err_from_is_err_and}
use Rattle.bser_deserializer.specs.State.{State}
use Rattle.bser_structs.proofs.Places.{none_refused}
use Rattle.bser_structs.proofs.slots.UnitSlots.fill_at.Goals as goal

pub returns-in_err-deserialize-clause-refused : goal.returns-in_err-deserialize-clause-refused
returns-in_err-deserialize-clause-refused g c =
    let o : State = c.args.from.now.state in
    let z : State = c.deserialize.new.from.state in
    let p = err_from_is_err_and c.from_residual.result c.from_residual.ensures.1 in
    rw p.1 (λ ss same. none_refused _ c.args._place ss o z same c.in_err-deserialize.ensures.refused)
