-- A container was opened whose count is not known.
use Rattle.std.proofs.Common.{refl}
use Rattle.bser_format.specs.Pieces.{object_head}
use Rattle.bser_draft.specs.Begun.{put_in}
use Rattle.bser_draft.proofs.Steps.{grown, roughly_tried, kept}
use Rattle.bser_draft.proofs.draft.Draft.open_uncounted.Goals as goal

pub invariant_of-self : goal.invariant_of-self
invariant_of-self c = record { begun = kept c.args.self.now.containers c.enter.new.self (put_in c.args.self.now.out) c.in_err-enter.ensures.err c.args.self.now.begun }

pub invariant_of-self-2 : goal.invariant_of-self-2
invariant_of-self-2 c =
    let old = c.args.self.now in
    let grew = grown _ (λ x y zs h. h) c.add_map-put.result old.out c.add_map-put.new.self (object_head 0) c.add_map-put.ensures in
    record { begun = roughly_tried c.add_map-put.result old.containers _ c.settle.new.self (put_in old.out) (put_in c.add_map-put.new.self) (object_head 0) grew refl c.settle.ensures.step old.begun }
