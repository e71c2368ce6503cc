-- The root is put, which is no deeper than there are nodes.
use Rattle.std.proofs.Common.{◌∙◌, inl}
use Rattle.bser_document.specs.DocumentView.{value_of}
use Rattle.bser_document.proofs.Whole.{document_shallow}
use Rattle.bser_document.proofs.writing.DocumentSerialize.serialize.Goals as goal

pub returns-clause-ok : goal.returns-clause-ok
returns-clause-ok g c = c.put_item.ensures.ok (value_of c.args.self.now) (inl c.root.ensures.whole) (document_shallow c.args.self.now c.len.result (c.len.ensures ∙ c.args.self.now.nodes.ok.0))

pub returns-clause-writable : goal.returns-clause-writable
returns-clause-writable g c = c.put_item.ensures.writable (value_of c.args.self.now) (inl c.root.ensures.whole) (document_shallow c.args.self.now c.len.result (c.len.ensures ∙ c.args.self.now.nodes.ok.0))

pub returns-clause-err : goal.returns-clause-err
returns-clause-err g c = c.put_item.ensures.err (value_of c.args.self.now) (inl c.root.ensures.whole) (document_shallow c.args.self.now c.len.result (c.len.ensures ∙ c.args.self.now.nodes.ok.0))
