-- The keys up to here are in the list.
use Rattle.std.proofs.Common.{◌≡◌, ◌++◌}
use Rattle.bser_document.proofs.order.ordered_keys.Given as goal

abbrev pub invariant-loop-key : goal.invariant-loop-key
invariant-loop-key l = l.order.items ++ l.key-iterator ≡ l.initial.key-iterator
