-- Behind a node, or behind a row's fields.
use Rattle.bser_document.proofs.Walks.{part_behind, row_behind}
use Rattle.bser_document.proofs.item.Item.behind.Goals as goal

pub returns-in-None : goal.returns-in-None
returns-in-None c = part_behind c.args.self c.behind.result c.in-None.is c.behind.ensures

pub returns-in-Some : goal.returns-in-Some
returns-in-Some c = row_behind c.args.self c.in-Some.keys c.behind_all.result c.in-Some.is c.behind_all.ensures
