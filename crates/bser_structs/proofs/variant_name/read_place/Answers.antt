use Rattle.std.proofs.Common.{map}
use Rattle.bser_deserializer.specs.State.{State}
use Rattle.bser_structs.proofs.Opened.{unknown_names}
use Rattle.bser_structs.proofs.variant_name.read_place.Goals as goal

pub returns-in-Unknown-clause-names : goal.returns-in-Unknown-clause-names
returns-in-Unknown-clause-names g c =
    let s : State = c.args.from.now.state in
    let m : State = c.read_name.new.from.state in
    unknown_names (map (λ r. r.now) c.args.variants.now) _ s m c.in_ok-place.field-0 c.in_ok-place.ensures.found c.in-Unknown.is c.refuse_name.ensures.reason
