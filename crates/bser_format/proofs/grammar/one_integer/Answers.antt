use Rattle.bser_format.proofs.GrammarLaws.{one_int}
use Rattle.bser_format.proofs.grammar.one_integer.Goals as goal

pub returns : goal.returns
returns c = one_int
