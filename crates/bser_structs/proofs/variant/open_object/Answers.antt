-- An object of one entry, and its key.
use Rattle.std.proofs.Common.{◌∙◌, List, ℕ, map, sym}
use Rattle.std.proofs.lemmas.Result.{err_from_is_err_and}
use Rattle.bser_deserializer.specs.Access.{OpenPairs}
use Rattle.bser_deserializer.specs.State.{State}
use Rattle.bser_deserializer.specs.View.{pairs_head}
use Rattle.bser_structs.proofs.Refused.{deep_names, head_names, key_names}
use Rattle.bser_structs.proofs.variant.open_object.Goals as goal

pub returns-then-levels-eq0-clause-names : goal.returns-then-levels-eq0-clause-names
returns-then-levels-eq0-clause-names g c =
    let vs : List (List ℕ) = map (λ r. r.now) c.args.variants.now in
    let s : State = c.args.from.now.state in
    deep_names c.args.name.now vs _ s c.requires (sym c.levels.ensures ∙ c.if-levels-eq0.true) c.refuse_depth.ensures.reason

pub returns-in_err-head-clause-names : goal.returns-in_err-head-clause-names
returns-in_err-head-clause-names g c =
    let vs : List (List ℕ) = map (λ r. r.now) c.args.variants.now in
    let s : State = c.args.from.now.state in
    let z : State = c.open_pairs.new.self.state in
    let p = err_from_is_err_and c.from_residual.result c.from_residual.ensures.1 in
    rw p.1 (head_names c.args.name.now vs _ s z c.utf8.name c.requires (λ e. c.if-levels-eq0.false (c.levels.ensures ∙ e)) c.in_err-head.ensures.refused)

pub returns-in_err-place-clause-names : goal.returns-in_err-place-clause-names
returns-in_err-place-clause-names g c =
    let vs : List (List ℕ) = map (λ r. r.now) c.args.variants.now in
    let s : State = c.args.from.now.state in
    let m : State = c.open_pairs.new.self.state in
    let u : OpenPairs = pairs_head c.in_ok-head.head m in
    let p = err_from_is_err_and c.from_residual-in_err-place.result c.from_residual-in_err-place.ensures.1 in
    rw p.1 (key_names c.args.name.now vs _ s u c.utf8.name c.in_ok-head.ensures.found c.in_err-place.ensures.names)
