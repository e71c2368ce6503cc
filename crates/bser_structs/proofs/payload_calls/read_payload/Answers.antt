-- A payload was read, and the object closed.
use Rattle.std.proofs.Common.{subst}
use Rattle.bser_deserializer.specs.Reading.{Answers}
use Rattle.bser_deserializer.specs.State.{State}
use Rattle.bser_structs.proofs.payload_calls.read_payload.Goals as goal

pub returns-clause-found : goal.returns-clause-found
returns-clause-found g c =
    let inside : State = c.deserialize.new.from.state in
    rw c.in-Some.is (record {
      inside = inside;
      answers = subst (λ (s : State). Answers g.T.Shape.reads g.T.Shape.holds s inside c.in_ok-payload.payload) c.await_payload.ensures c.in_ok-payload.ensures.found;
      state = c.close_pairs.ensures;
    })
