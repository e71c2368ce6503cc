-- A value came.
use Rattle.std.proofs.Common.{rules, FitsSigned, w64}
use Rattle.std.proofs.lemmas.Int.{to_z-of_z}
use Rattle.bser_format.specs.Pieces.{integer_piece}
use Rattle.bser_draft.specs.Begun.{put_in}
use Rattle.bser_draft.proofs.Scalars.{integer_least}
use Rattle.bser_draft.proofs.Steps.{grown, value_tried}
use Rattle.bser_draft.proofs.draft.Draft.put_i64.Goals as goal

pub invariant_of-self : goal.invariant_of-self
invariant_of-self c =
    let old = c.args.self.now in
    let fits : FitsSigned w64 c.args.v = search rules in
    let grew = grown _ (λ x y zs h. h) c.add_i64-put.result old.out c.add_i64-put.new.self (integer_piece c.args.v) (simp to_z-of_z at c.add_i64-put.ensures) in
    record { begun = value_tried c.add_i64-put.result old.containers c.take_value.new.self (put_in old.out) (put_in c.add_i64-put.new.self) (integer_piece c.args.v) grew c.take_value.ensures.step (integer_least old.containers.inner.levels c.args.v fits) c.in_ok-expect_value.ensures old.begun }
