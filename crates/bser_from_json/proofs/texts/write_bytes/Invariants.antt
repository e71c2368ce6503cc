-- The bytes before the rest were written.
use Rattle.std.proofs.Common.{length}
use Rattle.bser_from_json.proofs.Writing.{WrittenTo}
use Rattle.bser_from_json.proofs.texts.write_bytes.Given as goal

abbrev pub invariant-loop-rest : goal.invariant-loop-rest
invariant-loop-rest g l = WrittenTo l.fn.bytes l.rest (g.W.Write.contents l.fn.out) (g.W.Write.contents l.out)

abbrev pub decreases-loop-rest : goal.decreases-loop-rest
decreases-loop-rest g l = length l.rest
