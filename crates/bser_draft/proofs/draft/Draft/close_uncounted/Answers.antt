-- No message comes of it.
use Rattle.bser_draft.specs.Begun.{put_in}
use Rattle.bser_draft.proofs.Steps.{roughened}
use Rattle.bser_draft.proofs.draft.Draft.close_uncounted.Goals as goal

pub invariant_of-self : goal.invariant_of-self
invariant_of-self c = record { begun = roughened c.args.self.now.containers c.leave_uncounted.new.self (put_in c.args.self.now.out) c.leave_uncounted.ensures c.args.self.now.begun }
