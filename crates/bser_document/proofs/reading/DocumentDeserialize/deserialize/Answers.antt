-- A document that was read holds its value.
use Rattle.bser_document.proofs.Read.{each_answers}
use Rattle.bser_document.proofs.reading.DocumentDeserialize.deserialize.Goals as goal

pub returns-clause-found : goal.returns-clause-found
returns-clause-found g c = each_answers c.read.result c.args.from.now.state c.read.new.from.state c.read.ensures.found
