use Rattle.bser_format.proofs.Choices.{option_passes, byte_string_passes}
use Rattle.bser_format.proofs.Lists.{vec_passes, tuple_passes}
use Rattle.bser_format.proofs.Maps.{map_passes}
use Rattle.bser_format.proofs.Enums.{enum_passes}
use Rattle.bser_format.proofs.laws.holders_are_passed.Goals as goal

pub returns : goal.returns
returns c = record { options = option_passes; byte_strings = byte_string_passes; vecs = vec_passes; tuples = tuple_passes; maps = map_passes; enums = enum_passes }
