-- The key of the row's only field.
use Rattle.std.proofs.Common.{map}
use Rattle.std.proofs.lemmas.Result.{err_from_is_err_and}
use Rattle.bser_deserializer.specs.Access.{OpenPairs}
use Rattle.bser_deserializer.specs.State.{State}
use Rattle.bser_deserializer.specs.View.{pairs_head}
use Rattle.bser_structs.proofs.Refused.{row_key_names}
use Rattle.bser_structs.proofs.variant.open_row.Goals as goal

pub returns-in_err-place-clause-names : goal.returns-in_err-place-clause-names
returns-in_err-place-clause-names g c =
    let s : State = c.args.from.now.state in
    let m : State = c.open_pairs.new.self.state in
    let u : OpenPairs = pairs_head c.in_ok-head.head m in
    let p = err_from_is_err_and c.from_residual-in_err-place.result c.from_residual-in_err-place.ensures.1 in
    rw p.1 (row_key_names (map (λ r. r.now) c.args.variants.now) s.keys _ s u c.requires c.in_ok-head.ensures.found c.in_err-place.ensures.names)
