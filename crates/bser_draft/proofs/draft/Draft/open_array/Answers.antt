-- A container was opened.
use Rattle.std.proofs.Common.{rules}
use Rattle.bser_format.specs.Pieces.{array_head}
use Rattle.bser_draft.specs.Begun.{put_in}
use Rattle.bser_draft.proofs.Steps.{grown, array_tried, kept}
use Rattle.bser_draft.proofs.draft.Draft.open_array.Goals as goal

pub invariant_of-self : goal.invariant_of-self
invariant_of-self c = record { begun = kept c.args.self.now.containers c.enter.new.self (put_in c.args.self.now.out) c.in_err-enter.ensures.err c.args.self.now.begun }

pub invariant_of-self-2 : goal.invariant_of-self-2
invariant_of-self-2 c =
    let old = c.args.self.now in
    let grew = grown _ (λ x y zs h. h) c.add_seq-put.result old.out c.add_seq-put.new.self (array_head c.args.count) c.add_seq-put.ensures in
    record { begun = array_tried c.add_seq-put.result old.containers c.enter.new.self c.settle.new.self c.args.count (put_in old.out) (put_in c.add_seq-put.new.self) grew (search rules) c.in_ok-enter.ensures.ok c.settle.ensures.step old.begun }
