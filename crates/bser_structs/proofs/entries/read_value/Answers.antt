use Rattle.std.proofs.Common.{ap}
use Rattle.std.proofs.lemmas.Result.{err_from_is_err_and}
use Rattle.bser_deserializer.specs.State.{State}
use Rattle.bser_structs.specs.Askings.{all_asked}
use Rattle.bser_structs.proofs.Places.{unnamed_refused}
use Rattle.bser_structs.proofs.entries.read_value.Goals as goal

pub returns-in_err-deserialize-in-Unknown-clause-refused : goal.returns-in_err-deserialize-in-Unknown-clause-refused
returns-in_err-deserialize-in-Unknown-clause-refused g c =
    let o : State = c.args.from.now.state in
    let z : State = c.deserialize.new.from.state in
    let p = err_from_is_err_and c.from_residual.result c.from_residual.ensures.1 in
    rw (p.1, c.in-Unknown.is) (λ ss keeps. unnamed_refused g.F.Slots.fields (all_asked g.F.Slots.fields g.F.Slots.asks) g.F.Slots.needs _ ss o z c.in_err-deserialize-in-Unknown.ensures.refused)

pub returns-in-Known-clause-found : goal.returns-in-Known-clause-found
returns-in-Known-clause-found g c = rw (c.in-Known.is, c.in_field.ensures.answer, c.in_field.ensures.state) c.fill_at-answer.ensures.found

pub returns-in-Known-clause-refused : goal.returns-in-Known-clause-refused
returns-in-Known-clause-refused g c = rw (c.in-Known.is, c.in_field.ensures.answer, c.in_field.ensures.reason, ap (λ (s : State). s.source) c.in_field.ensures.state) c.fill_at-answer.ensures.refused
