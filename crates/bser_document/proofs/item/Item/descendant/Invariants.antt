-- The tokens up to here were followed.
use Rattle.std.proofs.Common.{length}
use denote.Text.{Utf8}
use denote.Shadow.{shadow}
use Rattle.bser_format.specs.Tree.{Tree}
use Rattle.bser_document.specs.Holds.{HoldsItem}
use Rattle.bser_document.proofs.Paths.{Led}
use Rattle.bser_document.proofs.item.Item.descendant.Given as goal

abbrev pub invariant-loop-token : goal.invariant-loop-token
invariant-loop-token l = record { text : shadow (Utf8 l.rest); led : (u : Tree) → HoldsItem l.fn.self u → Led u l.fn.tokens l.rest l.item }

abbrev pub decreases-loop-token : goal.decreases-loop-token
decreases-loop-token l = length l.rest
