use Rattle.std.proofs.Common.{refl, Some}
use Rattle.std.proofs.lemmas.Result.{err_from_is_err_and}
use Rattle.bser_format.specs.ReadsScalars.{reads_string}
use Rattle.bser_deserializer.specs.Access.{OpenPairs}
use Rattle.bser_deserializer.specs.Askings.{asking_string}
use Rattle.bser_deserializer.specs.Reading.{bare}
use Rattle.bser_types.specs.Accesses.{open_pairs}
use Rattle.bser_types.proofs.Keys.{row_awaited}
use Rattle.bser_types.proofs.Pairs.{key_out_of_turn, key_refused}
use Rattle.bser_types.proofs.map.MapAccess.next_field.Goals as goal

pub take_field-requires-clause-due : goal.take_field-requires-clause-due
take_field-requires-clause-due g c row =
    let old : OpenPairs = open_pairs c.args.self.now in
    let new : OpenPairs = open_pairs c.await_key.new.self in
    row_awaited old new c.await_key.new.self.head.row c.await_key.new.self.head.at (c.in_ok-await_key.ensures.some c.if-not-branch.false) refl row

pub returns-in_err-field-clause-refused : goal.returns-in_err-field-clause-refused
returns-in_err-field-clause-refused g c =
    let old : OpenPairs = open_pairs c.args.self.now in
    let mid : OpenPairs = open_pairs c.await_key.new.self in
    rw (err_from_is_err_and c.from_residual-in_err-field.result c.from_residual-in_err-field.ensures.1).1 (key_refused reads_string (Some asking_string) bare _ old mid _ (c.in_ok-await_key.ensures.some c.if-not-branch.false) c.in_err-field.ensures.refused)

pub returns-in_err-await_key-clause-refused : goal.returns-in_err-await_key-clause-refused
returns-in_err-await_key-clause-refused g c =
    let old : OpenPairs = open_pairs c.args.self.now in
    let new : OpenPairs = open_pairs c.await_key.new.self in
    rw (err_from_is_err_and c.from_residual.result c.from_residual.ensures.1).1 (key_out_of_turn reads_string (Some asking_string) bare _ old new c.in_err-await_key.ensures.refused c.in_err-await_key.ensures.turn)
