-- The message that was told is kept.
use Rattle.std.proofs.Common.{rules}
use Rattle.bser_document.proofs.Messages.{message_told, next_kept, next_told}
use Rattle.bser_document.proofs.document.Document.next_message_in.Goals as goal

pub into_document-requires : goal.into_document-requires
into_document-requires g c =
    let told = next_told c.args.limits c.new-builder.result c.next_message.new.builder c.next_message.result c.in-Ok-Some._header (g.S.Source.remaining c.args.reader.now) (g.S.Source.remaining c.next_message.new.reader) (search rules) c.next_message.ensures.found in
    message_told c.args.limits c.new-builder.result c.next_message.new.builder c.in-Ok-Some._header told.text c.new-builder.ensures told.tells

pub returns-in-Ok-Some-clause-found : goal.returns-in-Ok-Some-clause-found
returns-in-Ok-Some-clause-found g c =
    let told = next_told c.args.limits c.new-builder.result c.next_message.new.builder c.next_message.result c.in-Ok-Some._header (g.S.Source.remaining c.args.reader.now) (g.S.Source.remaining c.next_message.new.reader) (search rules) c.next_message.ensures.found in
    next_kept c.args.limits c.new-builder.result c.next_message.new.builder c.into_document.result c.in-Ok-Some._header (g.S.Source.remaining c.args.reader.now) (g.S.Source.remaining c.next_message.new.reader) c.new-builder.ensures c.into_document.ensures.nodes c.into_document.ensures.strings told
