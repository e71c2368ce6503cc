use Rattle.std.proofs.Common.{List, ℕ, length, map}
use Rattle.bser_deserializer.specs.State.{State}
use Rattle.bser_structs.proofs.Rows.{one_key}
use Rattle.bser_structs.proofs.slots.Tuple2Slots.are_in_turn.Goals as goal

pub returns-in-Some : goal.returns-in-Some
returns-in-Some g c =
    let names : List (List ℕ) = map (λ r. r.now) c.args.names.now in
    let others : List (List ℕ) = map (λ r. r.now) c.in-Some.others.now in
    let s : State = c.args.from.now.state in
    λ yes. one_key names others (length g.F.Slots.fields) c.args.place s c.in-Some.ensures.turn (c.are_in_turn.ensures yes)
