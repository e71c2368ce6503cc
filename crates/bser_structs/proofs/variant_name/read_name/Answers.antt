-- A key of a row is a text already.
use Rattle.std.proofs.Common.{◌∙◌, List, ℕ, map, refl, ap}
use Rattle.std.proofs.lemmas.Result.{err_from_is_err_and}
use Rattle.bser_deserializer.specs.Fields.{field_of}
use Rattle.bser_deserializer.specs.State.{State}
use Rattle.bser_deserializer.proofs.Texts.{name_taken, text_answer}
use Rattle.bser_types.proofs.Keys.{field_named}
use Rattle.bser_structs.proofs.Refused.{text_names}
use Rattle.bser_structs.proofs.variant_name.read_name.Goals as goal

pub returns-in-Some-clause-found : goal.returns-in-Some-clause-found
returns-in-Some-clause-found g c =
    let vs : List (List ℕ) = map (λ r. r.now) c.args.variants.now in
    let s : State = c.args.from.now.state in
    let t : State = c.await_nothing.new.self.state in
    let due = c.in-Some.ensures.some in
    field_named vs (λ x. x) s t c.kept_text-name.result.now c.find_field-field.result
    (text_answer (λ x. x) s t _ c.kept_text-name.result.now _ refl (name_taken _ _ s t due.due c.kept_text-name.ensures due.working c.await_nothing.ensures) c.kept_text-name.utf8)
    (c.find_field-field.ensures ∙ ap (field_of vs) c.as_bytes.ensures.value)

pub returns-in_err-name-clause-names : goal.returns-in_err-name-clause-names
returns-in_err-name-clause-names g c =
    let vs : List (List ℕ) = map (λ r. r.now) c.args.variants.now in
    let s : State = c.args.from.now.state in
    let z : State = c.read_text.new.self.state in
    let p = err_from_is_err_and c.from_residual.result c.from_residual.ensures.1 in
    let u = c.in_err-name.ensures.refused in
    rw p.1 (text_names vs _ s z c.in_default.ensures.none u.fails u.names)
