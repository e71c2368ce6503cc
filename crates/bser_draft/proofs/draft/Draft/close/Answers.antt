-- Nothing was to come of the container that was closed.
use Rattle.bser_draft.specs.Begun.{put_in}
use Rattle.bser_draft.proofs.Steps.{close_tried}
use Rattle.bser_draft.proofs.draft.Draft.close.Goals as goal

pub invariant_of-self : goal.invariant_of-self
invariant_of-self c =
    let old = c.args.self.now in
    record { begun = close_tried c.leave.result old.containers c.leave.new.self (put_in old.out) c.leave.ensures.ok c.leave.ensures.err old.begun }
