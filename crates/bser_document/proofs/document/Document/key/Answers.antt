-- The node is the key's.
use Rattle.bser_document.proofs.Looks.{key_there, no_key_there}
use Rattle.bser_document.proofs.document.Document.key.Goals as goal

pub returns-in-Key : goal.returns-in-Key
returns-in-Key c = key_there c.args.self.now c.args.at c.node.result c.in-Key.len c.in-Key.at c.text.result.now c.in-Key.is c.node.ensures c.text.ensures

pub returns-in_default : goal.returns-in_default
returns-in_default c = no_key_there c.args.self.now c.args.at c.node.result c.in_default.not-Key c.node.ensures
