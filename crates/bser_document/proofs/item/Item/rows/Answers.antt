-- The rows stand behind the keys.
use Rattle.bser_document.proofs.Fields.{rows_found}
use Rattle.bser_document.proofs.item.Item.rows.Goals as goal

pub returns-in-Some : goal.returns-in-Some
returns-in-Some c = rows_found c.args.self c.node.result c.in-Template.len c.in-Template.end c.all_rows-items.result c.in-Some.keys c.in-Template.is c.node.ensures.first c.all_rows-items.ensures.begin c.in-Some.is
