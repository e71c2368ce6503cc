-- The entries stand behind the object's node, and a row's keys in its template.
use Rattle.bser_document.proofs.Looks.{object_entries, row_entries}
use Rattle.bser_document.proofs.item.Item.entries.Goals as goal

pub returns-in-Some : goal.returns-in-Some
returns-in-Some c = row_entries c.args.self c.in-Some.keys c.node.result c.in-Object.len c.in-Object.end c.in-Some.is c.in-Object.is c.node.ensures.first

pub returns-in-None : goal.returns-in-None
returns-in-None c = object_entries c.args.self c.node.result c.in-Object.len c.in-Object.end c.place.result c.in-None.is c.in-Object.is c.node.ensures.first c.place.ensures
