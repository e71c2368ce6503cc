-- A key came.
use Rattle.std.proofs.Common.{rules}
use Rattle.bser_format.specs.Pieces.{key_piece}
use Rattle.bser_draft.specs.Begun.{put_in}
use Rattle.bser_draft.proofs.Steps.{grown, key_tried}
use Rattle.bser_draft.proofs.draft.Draft.put_key.Goals as goal

pub invariant_of-self : goal.invariant_of-self
invariant_of-self c =
    let old = c.args.self.now in
    let grew = grown _ (λ x y zs h. h) c.add_text_key-put.result old.out c.add_text_key-put.new.self (key_piece c.args.key.now) c.add_text_key-put.ensures in
    record { begun = key_tried c.add_text_key-put.result old.containers c.take_key.new.self (put_in old.out) (put_in c.add_text_key-put.new.self) c.args.key.now grew c.take_key.ensures.step (search rules) c.in_ok-expect_key.ensures.values c.in_ok-expect_key.ensures.entries old.begun }
