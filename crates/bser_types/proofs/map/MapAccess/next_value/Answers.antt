use Rattle.std.proofs.lemmas.Result.{err_from_is_err_and}
use Rattle.bser_deserializer.specs.Access.{OpenPairs}
use Rattle.bser_types.specs.Accesses.{open_pairs}
use Rattle.bser_types.proofs.Pairs.{value_out_of_turn}
use Rattle.bser_types.proofs.map.MapAccess.next_value.Goals as goal

pub returns-in_err-await_value-clause-refused : goal.returns-in_err-await_value-clause-refused
returns-in_err-await_value-clause-refused g c =
    let old : OpenPairs = open_pairs c.args.self.now in
    let new : OpenPairs = open_pairs c.await_value.new.self in
    rw (err_from_is_err_and c.from_residual.result c.from_residual.ensures.1).1 (value_out_of_turn g.V.Shape.reads g.V.Shape.asks g.V.Shape.needs _ old new c.in_err-await_value.ensures.refused c.in_err-await_value.ensures.turn)
