use Rattle.std.proofs.lemmas.Result.{err_from_is_err_and}
use Rattle.bser_format.specs.ReadsScalars.{is_unsigned}
use Rattle.bser_types.proofs.Integers.{unsigned_within}
use Rattle.bser_types.proofs.impls.integers.U32Deserialize.deserialize.Goals as goal

pub returns-in_err-read_within-clause-refused : goal.returns-in_err-read_within-clause-refused
returns-in_err-read_within-clause-refused g c =
    rw (err_from_is_err_and c.from_residual.result c.from_residual.ensures.1).1 (c.in_err-read_within.ensures.refused (is_unsigned 32) (unsigned_within 32))
