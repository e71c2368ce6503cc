-- A null was read, and the object closed.
use Rattle.std.proofs.Common.{◌≡◌, Some, subst}
use Rattle.std.proofs.lemmas.Result.{err_from_is_err_and}
use Rattle.bser_format.specs.Content.{one}
use Rattle.bser_format.specs.ReadsScalars.{reads_unit}
use Rattle.bser_format.specs.declared.errors.Error.{Error}
use Rattle.bser_deserializer.specs.Askings.{asking_unit}
use Rattle.bser_deserializer.specs.Reading.{Answers, Refuses, bare}
use Rattle.bser_deserializer.specs.State.{State}
use Rattle.bser_structs.proofs.payload_calls.read_null.Goals as goal

pub returns-clause-found : goal.returns-clause-found
returns-clause-found g c =
    let inside : State = c.read_unit.new.self.state in
    rw c.in-Some.is (record {
      inside = inside;
      answers = subst (λ (s : State). Answers {A = Unit {0}} reads_unit (λ _ d. d ≡ one) s inside (tt {0})) c.await_payload.ensures c.in_ok-read_unit.ensures.found;
      state = c.close_pairs.ensures;
    })

pub returns-in_err-read_unit-clause-refused : goal.returns-in_err-read_unit-clause-refused
returns-in_err-read_unit-clause-refused g c =
    let new : State = c.read_unit.new.self.state in
    let e : Error = c.read_unit.new.self.refusal in
    let p = err_from_is_err_and c.from_residual.result c.from_residual.ensures.1 in
    rw (p.1, c.in-Some.is) (subst (λ (s : State). Refuses reads_unit (Some asking_unit) bare e s new) c.await_payload.ensures c.in_err-read_unit.ensures.refused)
