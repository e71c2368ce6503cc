use Rattle.bser_format.proofs.Structs.{struct_passes, required_passes, optional_passes}
use Rattle.bser_format.proofs.laws.structs_are_passed.Goals as goal

pub returns : goal.returns
returns c = record { structs = struct_passes; required = required_passes; optional = optional_passes }
