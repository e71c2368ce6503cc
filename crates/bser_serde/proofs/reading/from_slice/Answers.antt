-- The usual limits.
use Rattle.std.proofs.Common.{OnOk, IfErr, subst}
use Rattle.bser_serde.specs.Messages.{BeginsWithMessage}
use Rattle.bser_serde.specs.Refusals.{SliceUnread}
use Rattle.bser_serde.proofs.Told.{usual}
use Rattle.bser_serde.proofs.reading.from_slice.Goals as goal

pub returns-clause-found : goal.returns-clause-found
returns-clause-found g c =
    subst (λ l. OnOk c.from_slice_limited.result (BeginsWithMessage l c.args.bytes.now)) (usual c.new.result c.new.ensures.levels c.new.ensures.bytes) c.from_slice_limited.ensures.found

pub returns-clause-refused : goal.returns-clause-refused
returns-clause-refused g c =
    subst (λ l. IfErr c.from_slice_limited.result (SliceUnread l c.args.bytes.now)) (usual c.new.result c.new.ensures.levels c.new.ensures.bytes) c.from_slice_limited.ensures.refused
