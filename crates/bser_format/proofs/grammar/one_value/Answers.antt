use Rattle.bser_format.proofs.Fronts.{one_value}
use Rattle.bser_format.proofs.grammar.one_value.Goals as goal

pub returns : goal.returns
returns c = one_value
