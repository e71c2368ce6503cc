-- The message that was told is kept.
use Rattle.bser_document.proofs.Messages.{message_told, front_kept}
use Rattle.bser_document.proofs.document.Document.from_slice.Goals as goal

pub into_document-requires : goal.into_document-requires
into_document-requires c = message_told c.args.limits c.new-builder.result c.from_slice.new.builder c.in-Ok._header c.in-Ok.ensures.found.text c.new-builder.ensures c.in-Ok.ensures.found.tells

pub returns-in-Ok-clause-found : goal.returns-in-Ok-clause-found
returns-in-Ok-clause-found c =
    front_kept c.args.limits c.new-builder.result c.from_slice.new.builder c.into_document.result c.in-Ok._header c.args.bytes.now c.new-builder.ensures c.into_document.ensures.nodes c.into_document.ensures.strings c.in-Ok.ensures.found
