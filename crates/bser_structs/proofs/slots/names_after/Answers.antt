use Rattle.std.proofs.Common.{◌≡◌, ◌<◌, ◌∙◌, length, ap, sym, true, false, arith}
use Rattle.std.specs.Bool.{◌==◌}
use Rattle.std.proofs.lemmas.List.{length-map}
use Rattle.std.proofs.lemmas.Str.{is_utf8-from_IsUtf8}
use Rattle.bser_deserializer.specs.State.{State}
use Rattle.bser_deserializer.proofs.Texts.{named_at}
use Rattle.bser_structs.proofs.Rows.{in_turn}
use Rattle.bser_structs.proofs.slots.names_after.Goals as goal

pub returns-then-is_unknown-clause-turn : goal.returns-then-is_unknown-clause-turn
returns-then-is_unknown-clause-turn g c =
    let kept = g.R.Lent.Lending.kept in
    let keys = c.keys_of-2.result.now.items in
    let s : State = c.args.from.now.state in
    let inside : c.args.place < length keys = omega (arith, length-map c.keys_of.result.now.items kept, ap length c.keys_of.ensures, length-map keys kept, ap length c.keys_of-2.ensures, c.len.ensures, c.keys_of.result.now.ok, c.if-place-len.false) in
    let found = c.index.ensures in
    let some : length c.args.names.now ≡ 0 → ⊥ = λ none. (
    let both : false ≡ true = sym c.if-is_empty.false ∙ c.is_empty.ensures ∙ ap (λ n. n == 0) none in
    absurd cc
    ) in
    let first = rw (c.as_bytes.ensures.value, c.as_bytes-2.ensures.value) at c.is_same.ensures in
    in_turn (λ r. r.now) c.args.names.now _ c.kept_text-key.result.now c.args.place s some
    (sym first ∙ c.if-is_same.true) (c.is_unknown.ensures.yes c.if-is_unknown.true)
    (rw (sym c.keys_of-2.ensures, c.kept_text-key.ensures) (named_at kept c.args.place keys c.index.result.now inside found))
    (is_utf8-from_IsUtf8 c.kept_text-key.result.now c.kept_text-key.utf8)
