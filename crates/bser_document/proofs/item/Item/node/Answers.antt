-- The node at the item's place, or that of a row.
use Rattle.std.proofs.Common.{◌≡◌, None, Some, sym, ◌∙◌}
use Rattle.bser_document.specs.declared.document.DocumentNode.TheVariants as nodes
use Rattle.bser_document.proofs.Holds.{plain_first, row_first, shown}
use Rattle.bser_document.proofs.item.Item.node.Goals as goal

pub returns-in-Some-clause-first : goal.returns-in-Some-clause-first
returns-in-Some-clause-first c = row_first c.args.self c.in-Some.keys 0 c.in-Some.is

pub returns-in-None-clause-first : goal.returns-in-None-clause-first
returns-in-None-clause-first c = plain_first c.args.self c.node.result c.in-None.is c.node.ensures

pub returns-in-Some-clause-shows : goal.returns-in-Some-clause-shows
returns-in-Some-clause-shows c = shown c.args.self (nodes.Object c.in-Some.keys.len 0) (row_first c.args.self c.in-Some.keys 0 c.in-Some.is) (λ h. tt)

pub returns-in-None-clause-shows : goal.returns-in-None-clause-shows
returns-in-None-clause-shows c = shown c.args.self c.node.result (plain_first c.args.self c.node.result c.in-None.is c.node.ensures) c.node.ensures.1

pub returns-in-Some-clause-own : goal.returns-in-Some-clause-own
returns-in-Some-clause-own c none = let e : None ≡ Some c.in-Some.keys = sym none ∙ c.in-Some.is in absurd cc
