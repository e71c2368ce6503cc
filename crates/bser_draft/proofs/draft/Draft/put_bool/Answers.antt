-- A value came.
use Rattle.bser_format.specs.Pieces.{bool_piece}
use Rattle.bser_draft.specs.Begun.{put_in}
use Rattle.bser_draft.proofs.Scalars.{bool_least}
use Rattle.bser_draft.proofs.Steps.{grown, value_tried}
use Rattle.bser_draft.proofs.draft.Draft.put_bool.Goals as goal

pub invariant_of-self : goal.invariant_of-self
invariant_of-self c =
    let old = c.args.self.now in
    let grew = grown _ (λ x y zs h. h) c.add_bool-put.result old.out c.add_bool-put.new.self (bool_piece c.args.v) c.add_bool-put.ensures in
    record { begun = value_tried c.add_bool-put.result old.containers c.take_value.new.self (put_in old.out) (put_in c.add_bool-put.new.self) (bool_piece c.args.v) grew c.take_value.ensures.step (bool_least old.containers.inner.levels c.args.v) c.in_ok-expect_value.ensures old.begun }
