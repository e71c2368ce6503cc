-- The value is made of what was told.
use Rattle.bser_format.specs.Content.{value}
use Rattle.bser_document.specs.DocumentView.{value_of}
use Rattle.bser_document.proofs.Tells.{value_held, value_some}
use Rattle.bser_document.proofs.Whole.{document_holds}
use Rattle.bser_document.proofs.document.Document.to_value.Goals as goal

pub returns-in-Some-clause-whole : goal.returns-in-Some-clause-whole
returns-in-Some-clause-whole c =
    value_held c.args.self.now c.new-builder.result c.tell.new.builder c.into_value.result c.in-Some.value c.in-Some.is c.new-builder.ensures c.in-Ok.ensures.told c.into_value.ensures (value (value_of c.args.self.now)) (document_holds c.args.self.now)

pub returns-in-Some-clause-held : goal.returns-in-Some-clause-held
returns-in-Some-clause-held c = value_held c.args.self.now c.new-builder.result c.tell.new.builder c.into_value.result c.in-Some.value c.in-Some.is c.new-builder.ensures c.in-Ok.ensures.told c.into_value.ensures

pub returns-in-None-clause-whole : goal.returns-in-None-clause-whole
returns-in-None-clause-whole c =
    absurd (value_some c.args.self.now c.new-builder.result c.tell.new.builder c.into_value.result c.in-None.is c.new-builder.ensures c.in-Ok.ensures.told c.into_value.ensures (value (value_of c.args.self.now)) (document_holds c.args.self.now))

pub returns-in-None-clause-held : goal.returns-in-None-clause-held
returns-in-None-clause-held c d h = absurd (value_some c.args.self.now c.new-builder.result c.tell.new.builder c.into_value.result c.in-None.is c.new-builder.ensures c.in-Ok.ensures.told c.into_value.ensures d h)
