-- The items stand behind the array's node, and the rows behind the keys.
use Rattle.bser_document.proofs.Walks.{array_items, template_rows, no_array}
use Rattle.bser_document.proofs.item.Item.items.Goals as goal

pub returns-in-Array : goal.returns-in-Array
returns-in-Array c = array_items c.args.self c.node.result c.in-Array.len c.in-Array.end c.place.result _ c.in-Array.is c.node.ensures.first c.place.ensures

pub returns-in-Template : goal.returns-in-Template
returns-in-Template c = template_rows c.args.self c.node.result c.in-Template.len c.in-Template.end c.all_rows.result c.in-Template.is c.node.ensures.first c.all_rows.ensures.begin

pub returns-in_default : goal.returns-in_default
returns-in_default c u h = no_array c.args.self.document.now c.node.result c.in_default.not-Array c.in_default.not-Template u (c.node.ensures.shows u h)
