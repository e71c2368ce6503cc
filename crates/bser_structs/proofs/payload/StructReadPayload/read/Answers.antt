use Rattle.std.proofs.Common.{ℕ, List, map}
use Rattle.std.specs.Borrow.{Bor}
use Rattle.bser_deserializer.specs.HoldsLists.{HoldsTuple}
use Rattle.bser_deserializer.specs.State.{State}
use Rattle.bser_types.specs.Slots.{reads_struct}
use Rattle.bser_structs.proofs.VariantPlaces.{held_read}
use Rattle.bser_structs.proofs.payload.StructReadPayload.read.Goals as goal

pub returns-clause-found : goal.returns-clause-found
returns-clause-found g c =
    let names : List (List ℕ) = map (λ (r : Bor (List ℕ)). r.now) c.args.self.now.0.now in
    let o : State = c.args.from.now.state in
    let m : State = c.await_payload.new.from.state in
    let b : State = c.read_fields.new.self.state in
    let z : State = c.close_pairs.new.self.state in
    rw c.in-Some.is (held_read (reads_struct names g.F.Slots.fields) (λ v. HoldsTuple (g.F.Slots.holds v)) c.in-Some.head o m b z c.in_ok-values.values c.await_payload.ensures c.in_ok-values.ensures.found c.close_pairs.ensures)
