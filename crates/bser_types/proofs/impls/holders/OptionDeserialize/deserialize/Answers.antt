-- What is not null is read by the type inside.
use Rattle.std.proofs.lemmas.Result.{err_from_is_err_and}
use Rattle.bser_deserializer.specs.State.{State}
use Rattle.bser_deserializer.specs.Nodes.{IsOther}
use Rattle.bser_types.proofs.Options.{nothing_seen, something_refused, something_answers}
use Rattle.bser_types.proofs.impls.holders.OptionDeserialize.deserialize.Goals as goal

pub returns-in_err-read_none-clause-refused : goal.returns-in_err-read_none-clause-refused
returns-in_err-read_none-clause-refused g c =
    rw (err_from_is_err_and c.from_residual.result c.from_residual.ensures.1).1 (nothing_seen g.T.Shape.needs g.T.Shape.reads g.T.Shape.asks c.args.from.now.state c.read_none.new.self.state _ c.in_err-read_none.ensures.refused)

pub returns-in_err-deserialize-clause-refused : goal.returns-in_err-deserialize-clause-refused
returns-in_err-deserialize-clause-refused g c =
    let s : State = c.args.from.now.state in
    let mid : State = c.read_none.new.self.state in
    let z : State = c.deserialize.new.from.state in
    let other : IsOther s mid = rw c.if-branch.false at c.in_ok-read_none.ensures.found in
    rw (err_from_is_err_and c.from_residual-in_err-deserialize.result c.from_residual-in_err-deserialize.ensures.1).1 (something_refused g.T.Shape.needs g.T.Shape.reads g.T.Shape.asks s mid z _ other c.in_err-deserialize.ensures.refused)

pub returns-clause-found : goal.returns-clause-found
returns-clause-found g c =
    let s : State = c.args.from.now.state in
    let mid : State = c.read_none.new.self.state in
    let other : IsOther s mid = rw c.if-branch.false at c.in_ok-read_none.ensures.found in
    something_answers g.T.Shape.reads g.T.Shape.holds s mid _ _ other c.in_ok-deserialize.ensures.found
