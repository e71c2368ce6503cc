-- The rest of a slice, after its next message.
use Rattle.bser_messages.proofs.Slices.{rest_took}
use Rattle.bser_messages.proofs.slice_messages.SliceMessages.next_message.Goals as goal

pub returns-clause-found : goal.returns-clause-found
returns-clause-found g c =
    rw (← c.self.view_is)
    (rest_took c.self.inside.limits.levels c.self.inside.limits.bytes g.T.Shape.reads g.T.Shape.holds c.self.inside.bytes.now c.self.inside.taken c.in_ok-value.length c.in_ok-value.value c.in_ok-value.ensures.found)
