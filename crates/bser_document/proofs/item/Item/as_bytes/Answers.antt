-- The node's string.
use Rattle.bser_document.proofs.Holds.{no_bytes_there, bytes_there, text_bytes_there}
use Rattle.bser_document.proofs.item.Item.as_bytes.Goals as goal

pub returns-in_default : goal.returns-in_default
returns-in_default c u h = no_bytes_there c.args.self.document.now c.node.result c.in_default.not-Bytes c.in_default.not-Text u (c.node.ensures.shows u h)

pub returns-in-Bytes : goal.returns-in-Bytes
returns-in-Bytes c u h = bytes_there c.args.self.document.now c.node.result c.in-Bytes.len c.in-Bytes.at c.string.result.now c.in-Bytes.is c.string.ensures u (c.node.ensures.shows u h)

pub returns-in-Text : goal.returns-in-Text
returns-in-Text c u h = text_bytes_there c.args.self.document.now c.node.result c.in-Text.len c.in-Text.at c.string-in-Text.result.now c.in-Text.is c.string-in-Text.ensures u (c.node.ensures.shows u h)
