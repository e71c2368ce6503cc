use Rattle.bser_format.proofs.Scalars.{bool_passes, real_passes, unit_passes}
use Rattle.bser_format.proofs.Strings.{bytes_passes, string_passes, char_passes}
use Rattle.bser_format.proofs.laws.scalars_are_passed.Goals as goal

pub returns : goal.returns
returns c = record { truths = bool_passes; reals = real_passes; units = unit_passes; bytes = bytes_passes; strings = string_passes; chars = char_passes }
