-- The frame is a message, or begins with one.
use Rattle.std.proofs.Common.{subst}
use Rattle.bser_serde.specs.Messages.{BeginsWithMessageOf, IsWellFormed}
use Rattle.bser_serde.specs.Refusals.{SliceUnread}
use Rattle.bser_serde.proofs.Told.{begins_with, begins_with_of, is_whole, unfit_slice, unread_frame, usual}
use Rattle.bser_serde.proofs.reading.told_frame.Goals as goal

pub returns-then-taken-frame-clause-refused : goal.returns-then-taken-frame-clause-refused
returns-then-taken-frame-clause-refused g c = (
  subst (λ l. BeginsWithMessageOf l c.args.frame.now c.message_length-taken.result) (usual c.new.result c.new.ensures.levels c.new.ensures.bytes) (begins_with_of _ _ _ _ _ _ _ c.in-Ok.ensures.found c.message_length-taken.ensures),
  c.if-taken-frame.true,
)

pub returns-in-Ok-read-clause-found : goal.returns-in-Ok-read-clause-found
returns-in-Ok-read-clause-found g c =
    subst (λ l. IsWellFormed l c.args.frame.now) (usual c.new.result c.new.ensures.levels c.new.ensures.bytes) (is_whole _ _ _ _ _ _ _ c.in-Ok.ensures.found c.message_length-taken.ensures c.if-taken-frame.false)

pub returns-in-Err-read-clause-refused : goal.returns-in-Err-read-clause-refused
returns-in-Err-read-clause-refused g c =
    unread_frame _ _ _ (subst (λ l. SliceUnread l c.args.frame.now c.in-Err-read.refusal) (usual c.new.result c.new.ensures.levels c.new.ensures.bytes) (unfit_slice _ _ _ (begins_with _ _ _ _ _ _ c.in-Ok.ensures.found) c.in-Err-read.ensures))
