use Rattle.std.proofs.Common.{◌<◌, ◌∙◌, List, ℕ, map, length, refl, sym, ap, arith}
use Rattle.std.proofs.lemmas.List.{length-map}
use Rattle.bser_deserializer.specs.Dues.{name_at}
use Rattle.bser_deserializer.specs.Fields.{field_of}
use Rattle.bser_deserializer.specs.State.{State}
use Rattle.bser_deserializer.proofs.Texts.{name_taken, named_at, text_answer}
use Rattle.bser_types.proofs.Keys.{field_named}
use Rattle.bser_types.proofs.map.take_field.Goals as goal

pub returns-then-head-clause-found : goal.returns-then-head-clause-found
returns-then-head-clause-found g c =
    let kept = g.R.Lent.Lending.kept in
    let keys = c.keys_of.result.now.items in
    let at = c.args.head.at in
    let names : List (List ℕ) = map (λ r. r.now) c.args.names.now in
    let s : State = c.args.from.now.state in
    let t : State = c.await_nothing.new.self.state in
    let inside : at < length keys = omega (arith, length-map keys kept, c.requires.inside c.if-head.true, ap length c.keys_of.ensures) in
    let due = c.requires.due c.if-head.true ∙ ap (name_at at) (sym c.keys_of.ensures) ∙ named_at kept at keys c.index.result.now inside c.index.ensures in
    field_named names (λ x. x) s t c.kept_text-name.result.now c.find_field-field.result
    (text_answer (λ x. x) s t _ c.kept_text-name.result.now _ refl (name_taken _ _ s t due c.kept_text-name.ensures c.requires.working c.await_nothing.ensures) c.kept_text-name.utf8)
    (c.find_field-field.ensures ∙ ap (field_of names) c.as_bytes.ensures.value)
