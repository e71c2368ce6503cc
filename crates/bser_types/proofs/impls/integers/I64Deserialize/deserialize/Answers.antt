use Rattle.bser_format.specs.ReadsScalars.{is_signed}
use Rattle.bser_types.proofs.Integers.{for_range}
use Rattle.bser_types.proofs.impls.integers.I64Deserialize.deserialize.Goals as goal

pub returns-clause-refused : goal.returns-clause-refused
returns-clause-refused g c = for_range c.read_i64.result _ (is_signed 64) c.read_i64.ensures.refused
