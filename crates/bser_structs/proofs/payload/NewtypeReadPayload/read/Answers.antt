use Rattle.bser_deserializer.proofs.Openings.{if_ok}
use Rattle.bser_deserializer.specs.State.{State}
use Rattle.bser_structs.specs.EnumAccess.{enum_head}
use Rattle.bser_structs.proofs.VariantPlaces.{told_as}
use Rattle.bser_structs.proofs.payload.NewtypeReadPayload.read.Goals as goal

pub returns-clause-found : goal.returns-clause-found
returns-clause-found g c =
    let o : State = c.args.from.now.state in
    let z : State = c.read_payload.new.from.state in
    if_ok _ _ c.read_payload.result (λ v r. told_as g.T.Shape.reads g.T.Shape.holds (g.T.Shape.holds v) (enum_head c.args.head o) z v (λ d k. k) r) c.read_payload.ensures.found
