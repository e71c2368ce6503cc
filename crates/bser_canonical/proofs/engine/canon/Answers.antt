-- What was written is the message of the document that was read.
use Rattle.bser_canonical.proofs.Writing.{document_rewritten}
use Rattle.bser_canonical.proofs.engine.canon.Goals as goal

pub returns-clause-ok : goal.returns-clause-ok
returns-clause-ok g c =
    document_rewritten g.R.Source g.W.Sink c.args.reader.now c.from_reader.new.reader c.args.writer.now c.serialize_buffered.new.writer c.in_ok-read.read c.serialize_buffered.result c.in_ok-read.ensures.found c.in_ok-read.ensures.kept c.serialize_buffered.ensures.ok
