-- The keys up to here rise.
use Rattle.std.proofs.Common.{ℕ, List}
use Rattle.bser_format.specs.Tree.{Tree}
use Rattle.bser_document.specs.Pairs.{HoldsEntries}
use Rattle.bser_document.proofs.Rising.{Looking}
use Rattle.bser_document.proofs.entries.Entries.is_rising.Given as goal

abbrev pub invariant-loop-entry : goal.invariant-loop-entry
invariant-loop-entry l = (m : List (List ℕ × Tree)) → HoldsEntries l.fn.self m → Looking m l.before l.entry-iterator
