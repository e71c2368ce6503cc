-- The key of a row's field is due by its place.
use Rattle.std.proofs.Common.{ap}
use Rattle.bser_deserializer.specs.State.{State, awaiting}
use Rattle.bser_types.proofs.Pairs.{field_key}
use Rattle.bser_structs.proofs.variant_name.await_first_key.Goals as goal

pub returns-then-head : goal.returns-then-head
returns-then-head g c =
    let s : State = c.args.from.now.state in
    rw c.await_name.ensures (ap (λ d. awaiting d s) (field_key s.keys c.args.head.row c.args.head.at c.if-head.true))
