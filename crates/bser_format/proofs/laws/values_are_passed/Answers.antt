use Rattle.bser_format.proofs.Anything.{value_passes, ignored_passes}
use Rattle.bser_format.proofs.laws.values_are_passed.Goals as goal

pub returns : goal.returns
returns c = record { values = value_passes; ignored = ignored_passes }
