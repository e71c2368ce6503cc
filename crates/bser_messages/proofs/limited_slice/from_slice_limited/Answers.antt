-- The front of a slice that was read.
use Rattle.bser_messages.proofs.Slices.{slice_begins}
use Rattle.bser_messages.proofs.limited_slice.from_slice_limited.Goals as goal

pub returns-clause-found : goal.returns-clause-found
returns-clause-found g c =
    slice_begins c.args.limits.levels c.args.limits.bytes g.T.Shape.reads g.T.Shape.holds c.args.bytes.now _ _ c.in_ok-value.ensures.found
