use Rattle.bser_format.proofs.GrammarLaws.{more_levels}
use Rattle.bser_format.proofs.grammar.more_levels.Goals as goal

pub returns : goal.returns
returns c = more_levels
