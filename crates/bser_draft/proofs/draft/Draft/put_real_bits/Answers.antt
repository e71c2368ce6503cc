-- A value came.
use Rattle.std.proofs.Common.{rules}
use Rattle.bser_format.specs.Pieces.{real_piece}
use Rattle.bser_draft.specs.Begun.{put_in}
use Rattle.bser_draft.proofs.Scalars.{real_least}
use Rattle.bser_draft.proofs.Steps.{grown, value_tried}
use Rattle.bser_draft.proofs.draft.Draft.put_real_bits.Goals as goal

pub invariant_of-self : goal.invariant_of-self
invariant_of-self c =
    let old = c.args.self.now in
    let grew = grown _ (λ x y zs h. h) c.add_real_bits-put.result old.out c.add_real_bits-put.new.self (real_piece c.args.bits) c.add_real_bits-put.ensures in
    record { begun = value_tried c.add_real_bits-put.result old.containers c.take_value.new.self (put_in old.out) (put_in c.add_real_bits-put.new.self) (real_piece c.args.bits) grew c.take_value.ensures.step (real_least old.containers.inner.levels c.args.bits (search rules)) c.in_ok-expect_value.ensures old.begun }
