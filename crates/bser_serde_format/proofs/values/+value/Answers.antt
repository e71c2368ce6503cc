-- What follows values, and the parts of containers.
use Rattle.std.proofs.Common.{rules, ◌+◌, ◌-◌, arith, sym, subst}
use Rattle.std.specs.Prelude.{Some}
use Rattle.bser_format.specs.Named.{many, text_of, entry_of, field_of, with_text_keys}
use Rattle.bser_format.specs.declared.errors.Kind.TheVariants.{MapKey}
use Rattle.bser_events.specs.Found.{value_rest, IsContainer}
use Rattle.bser_events.proofs.Begins.{value_field}
use Rattle.bser_events.specs.Takes.{Takes}
use Rattle.bser_events.proofs.Binds.{each_some, on_step, on_end}
use Rattle.bser_events.proofs.AtStart.{behind}
use Rattle.bser_serde_format.proofs.Pieces.{table_there, entry_taken, scalar_value, token_value, string_value, array_value, object_value, template_value}
use Rattle.bser_serde_format.proofs.Tags.{scalar_taken, string_taken}
use Rattle.bser_serde_format.proofs.values.+value.Goals as goal
use Rattle.bser_serde_format.proofs.values.+value.Goals.{template-else-width-eq0-via-then-width-eq0+else-rows-ne0, template-else-width-eq0-via-else-width-eq0}

pub any_field-returns : goal.any_field-returns
any_field-returns t c =
    each_some _ _ c.value.result c.value.ensures (λ rest h. (Some h.0, value_field c.args.levels c.args.bytes.now rest.now h.0 h.1))

pub container-returns-in-Array : goal.container-returns-in-Array
container-returns-in-Array t c =
    each_some _ _ c.items.result c.items.ensures
    (λ rest h. (omega (arith, c.if-levels-eq0.false), subst (λ k. Takes (value_rest c.args.levels k) c.args.bytes.now rest.now) (sym c.in-Array.is) (array_value c.args.levels c.in-Array.len c.args.bytes.now rest.now h)))

pub container-returns-in-Object : goal.container-returns-in-Object
container-returns-in-Object t c =
    each_some _ _ c.entries.result c.entries.ensures
    (λ rest h. (omega (arith, c.if-levels-eq0.false), subst (λ k. Takes (value_rest c.args.levels k) c.args.bytes.now rest.now) (sym c.in-Object.is) (object_value c.args.levels c.in-Object.len c.args.bytes.now rest.now h)))

pub container-returns-in-Template : goal.container-returns-in-Template
container-returns-in-Template t c =
    each_some _ _ c.template.result c.template.ensures
    (λ rest h. (omega (arith, c.if-levels-eq0.false), subst (λ k. Takes (value_rest c.args.levels k) c.args.bytes.now rest.now) (sym c.in-Template.is) (template_value c.args.levels c.args.bytes.now rest.now h)))

pub entries-loop-preserved : goal.entries-loop-preserved
entries-loop-preserved t c =
    on_step (entry_of (text_of MapKey) (with_text_keys c.args.levels)) c.args.count (c.args.count - c.loop.counter) (c.args.count - (c.loop.counter + 1)) c.args.bytes.now c.loop.rest.now c.in_ok-rest.rest.now
    (omega (arith, c.loop-test.true)) c.loop.invariant c.in_ok-rest.ensures

pub entries-returns : goal.entries-returns
entries-returns t c =
    on_end (entry_of (text_of MapKey) (with_text_keys c.args.levels)) c.args.count (c.args.count - c.loop.counter) c.args.bytes.now c.loop.rest.now (omega (arith, c.loop-test.false)) c.loop.invariant

pub entry-returns : goal.entry-returns
entry-returns t c =
    each_some _ _ c.value.result c.value.ensures (λ rest h. entry_taken c.args.levels c.args.bytes.now _ rest.now (_, c.in_ok-key.ensures.read MapKey) h)

pub field-returns-then-size-ne0 : goal.field-returns-then-size-ne0
field-returns-then-size-ne0 t c =
    scalar_taken c.args.levels c.scalar_size-size.result c.args.bytes.now c.scalar_size-size.ensures c.if-size-ne0.true c.if-bytes-ge-LONGEST_SCALAR.true

pub field-returns-then-bytes-eq-BSER_INT8 : goal.field-returns-then-bytes-eq-BSER_INT8
field-returns-then-bytes-eq-BSER_INT8 t c =
    each_some _ _ c.counted_string.result c.counted_string.ensures
    (λ rest cut. string_taken c.args.levels c.args.bytes.now rest.now c.if-bytes-ge-LONGEST_SCALAR.true (sym c.if-is_key_tag.ensures) cut)

pub fields-loop-preserved : goal.fields-loop-preserved
fields-loop-preserved t c =
    on_step (field_of (with_text_keys c.args.levels)) c.args.count (c.args.count - c.loop.counter) (c.args.count - (c.loop.counter + 1)) c.args.bytes.now c.loop.rest.now c.in_ok-rest.rest.now
    (omega (arith, c.loop-test.true)) c.loop.invariant c.in_ok-rest.ensures

pub fields-returns : goal.fields-returns
fields-returns t c =
    on_end (field_of (with_text_keys c.args.levels)) c.args.count (c.args.count - c.loop.counter) c.args.bytes.now c.loop.rest.now (omega (arith, c.loop-test.false)) c.loop.invariant

pub items-loop-preserved : goal.items-loop-preserved
items-loop-preserved t c =
    on_step (with_text_keys c.args.levels) c.args.count (c.args.count - c.loop.counter) (c.args.count - (c.loop.counter + 1)) c.args.bytes.now c.loop.rest.now c.in_ok-rest.rest.now
    (omega (arith, c.loop-test.true)) c.loop.invariant c.in_ok-rest.ensures

pub template-returns : goal.template-returns
template-returns t c =
    each_some _ _ c.fields.result c.fields.ensures
    (λ rest h. table_there c.args.levels c.in_ok-width.width.count c.in_ok-rows.field-0.count c.args.bytes.now c.in_ok-width.width.rest.now c.in_ok-rest.rest.now c.in_ok-rows.field-0.rest.now rest.now
    c.if-levels-eq0.false (search rules) (search rules) c.in_ok-width.ensures c.in_ok-rest.ensures c.in_ok-rows.ensures
    (λ e. elim c.else-width-eq0.branch [ template-else-width-eq0-via-then-width-eq0+else-rows-ne0 w ↦ w.if-rows-ne0.false | template-else-width-eq0-via-else-width-eq0 w ↦ absurd (w.if-width-eq0.false e) ])
    (subst (λ k. Takes (many (field_of (with_text_keys c.args.levels)) k) c.in_ok-rows.field-0.rest.now rest.now) c.in_ok-checked_mul.ensures.1 h))

pub value-returns-in-Null : goal.value-returns-in-Null
value-returns-in-Null t c = scalar_value c.args.levels c.in-Found.token c.in-Found.len c.args.bytes.now c.in-Found.ensures c.in-Null.is

pub value-returns-in-Str : goal.value-returns-in-Str
value-returns-in-Str t c =
    each_some _ _ c.string.result c.string.ensures
    (λ rest cut. token_value c.args.levels c.in-Found.token c.in-Found.len c.args.bytes.now rest.now c.in-Found.ensures (λ is. absurd (subst IsContainer c.in-Str.is is))
    (subst (λ k. Takes (value_rest c.args.levels k) (behind c.in-Found.len c.args.bytes.now) rest.now) (sym c.in-Str.is) (string_value c.args.levels c.in-Str.is_text c.in-Str.size (behind c.in-Found.len c.args.bytes.now) rest.now cut)))

pub value-returns-in_default-token : goal.value-returns-in_default-token
value-returns-in_default-token t c =
    each_some _ _ c.container.result c.container.ensures
    (λ rest h. token_value c.args.levels c.in-Found.token c.in-Found.len c.args.bytes.now rest.now c.in-Found.ensures (λ is. h.0) h.1)
