-- The node's text.
use Rattle.bser_document.proofs.Holds.{no_text_there, text_there}
use Rattle.bser_document.proofs.item.Item.as_str.Goals as goal

pub returns-in_default : goal.returns-in_default
returns-in_default c u h = no_text_there c.args.self.document.now c.node.result c.in_default.not-Text u (c.node.ensures.shows u h)

pub returns-in-Text : goal.returns-in-Text
returns-in-Text c u h = text_there c.args.self.document.now c.node.result c.in-Text.len c.in-Text.at c.string.result.now c.as_text.result c.in-Text.is c.string.ensures c.as_text.ensures u (c.node.ensures.shows u h)
