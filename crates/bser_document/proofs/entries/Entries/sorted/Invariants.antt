-- The entries up to here are in the map.
use Rattle.std.proofs.Common.{ℕ, List}
use Rattle.bser_format.specs.Tree.{Tree}
use Rattle.bser_document.specs.Pairs.{HoldsEntries}
use Rattle.bser_document.proofs.Sorts.{Sorting}
use Rattle.bser_document.proofs.entries.Entries.sorted.Given as goal

abbrev pub invariant-loop-entry : goal.invariant-loop-entry
invariant-loop-entry l = (m : List (List ℕ × Tree)) → HoldsEntries l.fn.self m → Sorting m l.sorted.entries l.entry-iterator
