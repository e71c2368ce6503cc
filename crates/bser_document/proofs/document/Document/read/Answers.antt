-- What was told is kept.
use Rattle.std.proofs.lemmas.Result.{err_from_is_err_and}
use Rattle.bser_deserializer.proofs.Told.{any_told}
use Rattle.bser_document.specs.DocumentView.{Takes}
use Rattle.bser_value.proofs.Read.{value_refused}
use Rattle.bser_document.proofs.Read.{told_read, value_told}
use Rattle.bser_document.proofs.document.Document.read.Goals as goal

pub returns-in_err-read_any-clause-refused : goal.returns-in_err-read_any-clause-refused
returns-in_err-read_any-clause-refused g c =
    let p = err_from_is_err_and c.from_residual.result c.from_residual.ensures.1 in
    rw p.1 (value_refused _ c.args.from.now.state c.read_any.new.self.state c.in_err-read_any.ensures.refused)

pub into_document-requires : goal.into_document-requires
into_document-requires g c = value_told c.new-builder.result c.read_any.new.builder _ _ c.new-builder.ensures (any_told Takes _ _ _ _ c.in_ok-read_any.ensures.found)

pub returns-clause-found : goal.returns-clause-found
returns-clause-found g c = told_read c.new-builder.result c.read_any.new.builder c.into_document.result _ _ c.new-builder.ensures (any_told Takes _ _ _ _ c.in_ok-read_any.ensures.found) c.into_document.ensures.nodes c.into_document.ensures.strings
