use Rattle.std.proofs.Common.{◌*◌}
use Rattle.bser_c.proofs.Steps.{BeginsSize}
use Rattle.bser_c.proofs.measure.size_of.Given as goal

abbrev pub invariant-loop-i : goal.invariant-loop-i
invariant-loop-i l = BeginsSize l.strings l.words (2 * l.i) l.size
