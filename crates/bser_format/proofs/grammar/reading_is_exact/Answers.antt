use Rattle.bser_format.proofs.Exact.{value_exact}
use Rattle.bser_format.proofs.grammar.reading_is_exact.Goals as goal

pub returns : goal.returns
returns c = value_exact
