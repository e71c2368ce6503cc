-- The value is read once a byte of it is buffered.
use Rattle.std.proofs.lemmas.Result.{err_from_is_err_and}
use Rattle.bser_format.specs.ReadsAny.{reads_value}
use Rattle.bser_deserializer.specs.Askings.{asking_value}
use Rattle.bser_deserializer.specs.Reading.{owned}
use Rattle.bser_deserializer.proofs.Buffered.{reads_buffered, refuses_buffered}
use Rattle.bser_deserializer.proofs.Openings.{if_ok, if_err}
use Rattle.bser_value.specs.ValueView.{HoldsValue}
use Rattle.bser_value.proofs.Read.{value_refused}
use Rattle.bser_value.proofs.reading.ValueDeserialize.deserialize.Goals as goal

pub returns-in_err-fill_value-clause-refused : goal.returns-in_err-fill_value-clause-refused
returns-in_err-fill_value-clause-refused g c =
    let p = err_from_is_err_and c.from_residual.result c.from_residual.ensures.1 in
    rw p.1 (value_refused _ c.args.from.now.state c.fill_value.new.from.state c.in_err-fill_value.ensures.refused)

pub returns-clause-found : goal.returns-clause-found
returns-clause-found g c =
    if_ok _ _ c.read_buffered.result
    (λ v h. reads_buffered reads_value HoldsValue c.args.from.now c.fill_value.new.from c.read_buffered.new.from v c.in_ok-fill_value.ensures.ok h)
    c.read_buffered.ensures.found

pub returns-clause-refused : goal.returns-clause-refused
returns-clause-refused g c =
    if_err _ _ c.read_buffered.result
    (λ h. refuses_buffered reads_value asking_value owned _ c.args.from.now c.fill_value.new.from c.read_buffered.new.from.state c.in_ok-fill_value.ensures.ok h)
    c.read_buffered.ensures.refused
