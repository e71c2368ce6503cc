use Rattle.bser_format.proofs.Integers.{integer_passes}
use Rattle.bser_format.proofs.laws.integers_are_passed.Goals as goal

pub returns : goal.returns
returns c = integer_passes
