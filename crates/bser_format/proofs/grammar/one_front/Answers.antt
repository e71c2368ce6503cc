use Rattle.bser_format.proofs.GrammarLaws.{one_message}
use Rattle.bser_format.proofs.grammar.one_front.Goals as goal

pub returns : goal.returns
returns c = one_message
