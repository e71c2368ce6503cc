use Rattle.std.proofs.lemmas.Result.{err_from_is_err_and}
use Rattle.bser_format.specs.ReadsScalars.{is_signed}
use Rattle.bser_types.proofs.impls.integers.IsizeDeserialize.deserialize.Goals as goal

pub returns-in_err-read_i64-clause-refused : goal.returns-in_err-read_i64-clause-refused
returns-in_err-read_i64-clause-refused g c =
    rw (err_from_is_err_and c.from_residual.result c.from_residual.ensures.1).1 (c.in_err-read_i64.ensures.refused (is_signed 64))
