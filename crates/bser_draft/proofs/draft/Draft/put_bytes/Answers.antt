-- A value came.
use Rattle.std.proofs.Common.{rules}
use Rattle.bser_format.specs.Pieces.{bytes_piece}
use Rattle.bser_draft.specs.Begun.{put_in}
use Rattle.bser_draft.proofs.Scalars.{bytes_least}
use Rattle.bser_draft.proofs.Steps.{grown, value_tried}
use Rattle.bser_draft.proofs.draft.Draft.put_bytes.Goals as goal

pub invariant_of-self : goal.invariant_of-self
invariant_of-self c =
    let old = c.args.self.now in
    let grew = grown _ (λ x y zs h. h) c.add_bytes-put.result old.out c.add_bytes-put.new.self (bytes_piece c.args.bytes.now) c.add_bytes-put.ensures in
    record { begun = value_tried c.add_bytes-put.result old.containers c.take_value.new.self (put_in old.out) (put_in c.add_bytes-put.new.self) (bytes_piece c.args.bytes.now) grew c.take_value.ensures.step (bytes_least old.containers.inner.levels c.args.bytes.now (search rules)) c.in_ok-expect_value.ensures old.begun }
