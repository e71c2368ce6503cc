-- The items before this place were passed.
use Rattle.std.proofs.Common.{◌-◌}
use Rattle.bser_format.specs.Tree.{Tree}
use Rattle.bser_document.specs.Holds.{HoldsItem}
use Rattle.bser_document.proofs.Paths.{Passed}
use Rattle.bser_document.proofs.item.Item.at.Given as goal

abbrev pub invariant-loop : goal.invariant-loop
invariant-loop l = (u : Tree) → HoldsItem l.fn.self u → Passed u l.index l.rest (l.index - l.counter)
