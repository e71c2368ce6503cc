-- A value came.
use Rattle.std.proofs.Common.{rules}
use Rattle.bser_format.specs.Pieces.{text_piece}
use Rattle.bser_draft.specs.Begun.{put_in}
use Rattle.bser_draft.proofs.Scalars.{text_least}
use Rattle.bser_draft.proofs.Steps.{grown, value_tried}
use Rattle.bser_draft.proofs.draft.Draft.put_text.Goals as goal

pub invariant_of-self : goal.invariant_of-self
invariant_of-self c =
    let old = c.args.self.now in
    let grew = grown _ (λ x y zs h. h) c.add_text-put.result old.out c.add_text-put.new.self (text_piece c.args.text.now) c.add_text-put.ensures in
    record { begun = value_tried c.add_text-put.result old.containers c.take_value.new.self (put_in old.out) (put_in c.add_text-put.new.self) (text_piece c.args.text.now) grew c.take_value.ensures.step (text_least old.containers.inner.levels c.args.text.now (search rules) (search rules)) c.in_ok-expect_value.ensures old.begun }
