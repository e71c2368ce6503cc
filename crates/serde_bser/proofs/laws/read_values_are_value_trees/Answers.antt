use Rattle.bser_format.proofs.Settled.{message_settles}
use Rattle.serde_bser.proofs.laws.read_values_are_value_trees.Goals as goal

pub returns : goal.returns
returns c = message_settles
