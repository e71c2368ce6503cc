-- What was not counted is not made, and what was counted is the size of the document's message.
use Rattle.std.proofs.Common.{◌∙◌}
use Rattle.bser_canonical.proofs.Slices.{document_not_made, document_size}
use Rattle.bser_canonical.proofs.slice.canonical_of.Goals as goal

pub returns-in-Err-serialize_to-clause-refused : goal.returns-in-Err-serialize_to-clause-refused
returns-in-Err-serialize_to-clause-refused c =
    document_not_made _ c.in-Ok.read c.args.bytes.now _ _ c.in-Err-serialize_to.error c.not_made.result c.in-Ok.ensures.found c.in-Err-serialize_to.ensures.err c.not_made.ensures

pub returns-then-size-most-clause-refused : goal.returns-then-size-most-clause-refused
returns-then-size-most-clause-refused c =
    document_size c.in-Ok.read c.args.bytes.now c.new-counter.result.count c.count-size.result c.in-Ok.ensures.found c.new-counter.ensures (c.count-size.ensures ∙ c.in_default.ensures.ok.0.took_it) c.in_default.ensures.ok.1
