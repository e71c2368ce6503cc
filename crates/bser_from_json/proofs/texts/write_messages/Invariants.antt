-- Messages of texts were written.
use Rattle.bser_from_json.specs.Written.{WritesTexts}
use Rattle.bser_from_json.proofs.texts.write_messages.Given as goal

abbrev pub invariant-loop : goal.invariant-loop
invariant-loop g l = WritesTexts l.fn.writing (g.W.Write.contents l.fn.out) (g.W.Write.contents l.out)
