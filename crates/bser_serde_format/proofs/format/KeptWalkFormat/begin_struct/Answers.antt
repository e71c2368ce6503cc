-- An object was opened, or a row.
use Rattle.bser_serde_format.proofs.Staying.{on_steps}
use Rattle.bser_serde_format.proofs.format.KeptWalkFormat.begin_struct.Goals as goal

pub invariant_of-self : goal.invariant_of-self
invariant_of-self g c = on_steps g.K.KnownBody.bytes g.K.KnownBody.levels _ _ _ c.object-read.ensures c.self.invariant
