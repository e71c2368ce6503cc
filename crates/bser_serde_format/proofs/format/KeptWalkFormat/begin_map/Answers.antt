-- Nothing is read on.
use Rattle.bser_serde_format.proofs.Staying.{on_steps}
use Rattle.bser_serde_format.proofs.format.KeptWalkFormat.begin_map.Goals as goal

pub invariant_of-self : goal.invariant_of-self
invariant_of-self g c =
    let s = c.self.inside in
    on_steps g.K.KnownBody.bytes g.K.KnownBody.levels s.walk _ s.saved.items c.stop.ensures c.self.invariant
