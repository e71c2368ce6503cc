-- A key was read, and is read as a value.
use Rattle.bser_serde_format.proofs.Staying.{on_steps}
use Rattle.bser_serde_format.proofs.format.KeptWalkFormat.next_entry.Goals as goal

pub invariant_of-self : goal.invariant_of-self
invariant_of-self g c = on_steps g.K.KnownBody.bytes g.K.KnownBody.levels _ _ _ c.next_key-read.ensures c.self.invariant

pub invariant_of-self-in-Some : goal.invariant_of-self-in-Some
invariant_of-self-in-Some g c = on_steps g.K.KnownBody.bytes g.K.KnownBody.levels _ _ _ c.hold.ensures c.self-2.invariant
