use Rattle.bser_canonical.proofs.Writing.{read_value, value_read}
use Rattle.bser_canonical.proofs.engine.value_is_its_tree.Goals as goal

pub returns : goal.returns
returns g = λ v c. (value_read v c, read_value v c)
