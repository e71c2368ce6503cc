use Rattle.std.proofs.Common.{sym, ap, ◌∙◌, arith}
use Rattle.std.specs.Str.{bytes_eq}
use Rattle.bser_deserializer.specs.Fields.{field_from}
use Rattle.bser_deserializer.proofs.FieldNames.{from_here, none_left, known_here, other_here}
use Rattle.bser_deserializer.proofs.field.find_field.Goals as goal

pub returns-then-is_same : goal.returns-then-is_same
returns-then-is_same c =
    sym (known_here c.loop-place.place _ c.args.name.now _ c.is_same.result (c.is_same.ensures ∙ ap (λ k. bytes_eq k c.args.name.now) c.as_bytes.ensures.value) c.if-is_same.true)
    ∙ ap (λ ns. field_from c.loop-place.place ns c.args.name.now) (sym (from_here (λ r. r.now) _ c.loop-place.place c.args.names.now c.loop-place-test.true))
    ∙ c.loop-place.invariant

pub loop-place-preserved : goal.loop-place-preserved
loop-place-preserved c =
    sym (other_here c.loop-place.place _ c.args.name.now _ c.is_same.result (c.is_same.ensures ∙ ap (λ k. bytes_eq k c.args.name.now) c.as_bytes.ensures.value) c.if-is_same.false)
    ∙ ap (λ ns. field_from c.loop-place.place ns c.args.name.now) (sym (from_here (λ r. r.now) _ c.loop-place.place c.args.names.now c.loop-place-test.true))
    ∙ c.loop-place.invariant

pub returns : goal.returns
returns c = sym (none_left (λ r. r.now) c.loop-place.place c.args.names.now c.args.name.now (omega (arith, c.loop-place-test.false))) ∙ c.loop-place.invariant
