-- What was told is read as a value.
use Rattle.std.proofs.lemmas.Result.{err_from_is_err_and}
use Rattle.bser_deserializer.proofs.Told.{any_told}
use Rattle.bser_value.specs.Shows.{Takes}
use Rattle.bser_value.proofs.Read.{told_read, told_some, value_refused}
use Rattle.bser_value.proofs.reading.read_slowly.Goals as goal

pub returns-in_err-read_any-clause-refused : goal.returns-in_err-read_any-clause-refused
returns-in_err-read_any-clause-refused g c =
    let p = err_from_is_err_and c.from_residual.result c.from_residual.ensures.1 in
    rw p.1 (value_refused _ c.args.from.now.state c.read_any.new.self.state c.in_err-read_any.ensures.refused)

pub unreachable-requires : goal.unreachable-requires
unreachable-requires g c = told_some c.new-builder.result c.read_any.new.builder _ _ c.into_value.result c.new-builder.ensures (any_told Takes _ _ _ _ c.in_ok-read_any.ensures.found) c.into_value.ensures c.in-None.is

pub returns-clause-found : goal.returns-clause-found
returns-clause-found g c = told_read c.new-builder.result c.read_any.new.builder _ _ c.into_value.result c.new-builder.ensures (any_told Takes _ _ _ _ c.in_ok-read_any.ensures.found) c.into_value.ensures c.in-Some.value c.in-Some.is
