use Rattle.bser_format.proofs.Canon.{least_integer_spelled, least_integer_least}
use Rattle.bser_format.proofs.grammar.least_integer.Goals as goal

pub returns : goal.returns
returns c = record { spelled = least_integer_spelled; least = least_integer_least }
