-- The escapes up to here are whole.
use Rattle.std.proofs.Common.{◌≡◌, length}
use Rattle.bser_document.specs.Pointer.{has_only_escapes}
use Rattle.bser_document.proofs.pointer.has_only_escapes.Given as goal

abbrev pub invariant-loop-rest : goal.invariant-loop-rest
invariant-loop-rest l = has_only_escapes l.rest ≡ has_only_escapes l.fn.text

abbrev pub decreases-loop-rest : goal.decreases-loop-rest
decreases-loop-rest l = length l.rest
