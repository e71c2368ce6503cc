-- A container is told as its parts are.
use Rattle.std.proofs.Common.{◌≡◌, rules, arith, ℕ, List, ◌∷◌, ◌+◌, ◌-◌, refl}
use Rattle.bser_format.specs.Named.{entry_of, field_of, many, text_of, with_text_keys}
use Rattle.bser_format.specs.Tree as trees
use Rattle.bser_format.specs.Tree.{Tree, entries_of, fields_of, items_of, rows_of}
use Rattle.bser_format.specs.declared.errors.Kind.TheVariants.{MapKey}
use Rattle.bser_bunser.specs.declared.prefix.Token.TheVariants as tokens
use Rattle.bser_events.specs.Events as told
use Rattle.bser_events.specs.Events.{entry_events, events, field_events, item_events, key, part_events, row_events}
use Rattle.bser_events.proofs.Binds.{each_some}
use Rattle.bser_c.proofs.Between.{on_begin, on_step, on_end}
use Rattle.bser_c.proofs.Whole.{answers, int_told, scalar_told}
use Rattle.bser_c.proofs.Containers.{array_told, entries_fold, entry_told, field_told, fields_fold, items_fold, object_told, rows_fold, skip_told, template_told}
use Rattle.bser_c.proofs.direct.+tell.Goals as goal
use Rattle.bser_c.proofs.direct.+tell.Goals.{template-else-width-eq0-via-then-width-eq0+else-height-ne0, template-else-width-eq0-via-else-width-eq0}

-- ---- a value by its token

pub value-returns-in-Null : goal.value-returns-in-Null
value-returns-in-Null g t c =
    answers c.tell.result c.in_ok-token.field-0.end _ c.tell.ensures.taken c.tell.ensures.end
    (λ taken. scalar_told g.B.Builder.takes c.args.bytes.now (search rules) c.args.levels _ tokens.Null c.args.start c.in_ok-token.field-0.end trees.null told.null _ _ c.in_ok-token.ensures c.in-Null.is (λ x. x) refl refl refl taken)

pub value-returns-in-Bool : goal.value-returns-in-Bool
value-returns-in-Bool g t c =
    answers c.tell-in-Bool.result c.in_ok-token.field-0.end _ c.tell-in-Bool.ensures.taken c.tell-in-Bool.ensures.end
    (λ taken. scalar_told g.B.Builder.takes c.args.bytes.now (search rules) c.args.levels _ (tokens.Bool c.in-Bool.truth) c.args.start c.in_ok-token.field-0.end (trees.boolean c.in-Bool.truth) (told.boolean c.in-Bool.truth) _ _ c.in_ok-token.ensures c.in-Bool.is (λ x. x) refl refl refl taken)

pub value-returns-in-Int : goal.value-returns-in-Int
value-returns-in-Int g t c =
    answers c.tell-in-Int.result c.in_ok-token.field-0.end _ c.tell-in-Int.ensures.taken c.tell-in-Int.ensures.end
    (λ taken. int_told g.B.Builder.takes c.args.bytes.now (search rules) c.args.levels _ c.args.start c.in_ok-token.field-0.end c.in-Int.number _ _ _ c.in_ok-token.ensures c.in-Int.is taken (search rules))

pub value-returns-in-Real : goal.value-returns-in-Real
value-returns-in-Real g t c =
    answers c.tell-in-Real.result c.in_ok-token.field-0.end _ c.tell-in-Real.ensures.taken c.tell-in-Real.ensures.end
    (λ taken. scalar_told g.B.Builder.takes c.args.bytes.now (search rules) c.args.levels _ (tokens.Real c.in-Real.bits) c.args.start c.in_ok-token.field-0.end (trees.real c.in-Real.bits) (told.real c.in-Real.bits) _ _ c.in_ok-token.ensures c.in-Real.is (λ x. x) refl refl refl taken)

pub value-returns-in-Str : goal.value-returns-in-Str
value-returns-in-Str g t c = each_some _ _ c.string.result c.string.ensures (λ to h. h c.args.levels)

-- ---- arrays

pub array-loop-init : goal.array-loop-init
array-loop-init g t c =
    on_begin g.B.Builder.takes (with_text_keys (c.args.levels - 1)) events (λ ts. item_events (items_of ts)) items_fold c.args.bytes.now c.args.count (c.args.count - 0) c.args.at _ c.requires.within (omega arith)

pub array-loop-preserved : goal.array-loop-preserved
array-loop-preserved g t c =
    on_step g.B.Builder.takes (with_text_keys (c.args.levels - 1)) events (λ ts. item_events (items_of ts)) items_fold c.args.bytes.now c.args.count c.args.at (c.args.count - c.loop.counter) (c.args.count - (c.loop.counter + 1)) _ _ _ _ _
    (omega (arith, c.loop-test.true)) c.loop.invariant c.in_ok-end.ensures

pub array-returns : goal.array-returns
array-returns g t c =
    let items = on_end g.B.Builder.takes (with_text_keys (c.args.levels - 1)) events (λ ts. item_events (items_of ts)) items_fold c.args.bytes.now c.args.count c.args.at (c.args.count - c.loop.counter) c.loop.end _ _ (omega (arith, c.loop-test.false)) c.loop.invariant in
    answers c.tell-2.result c.loop.end _ c.tell-2.ensures.taken c.tell-2.ensures.end
    (λ taken. array_told g.B.Builder.takes c.args.bytes.now (search rules) c.args.levels c.args.count c.args.start c.args.at c.loop.end _ _ _ _ c.requires c.if-levels-eq0.false c.in_ok-tell.ensures.taken items taken)

-- ---- objects

pub object-loop-init : goal.object-loop-init
object-loop-init g t c =
    on_begin g.B.Builder.takes (entry_of (text_of MapKey) (with_text_keys (c.args.levels - 1))) (λ (e : List ℕ × Tree). key e.0 ∷ events e.1) (λ es. entry_events (entries_of es)) entries_fold c.args.bytes.now c.args.count (c.args.count - 0) c.args.at _ c.requires.within (omega arith)

pub object-loop-preserved : goal.object-loop-preserved
object-loop-preserved g t c =
    let entry = entry_told g.B.Builder.takes c.args.bytes.now (search rules) (c.args.levels - 1) _ _ _ _ _ _ c.in_ok-value_start.ensures.told c.in_ok-end.ensures in
    on_step g.B.Builder.takes (entry_of (text_of MapKey) (with_text_keys (c.args.levels - 1))) (λ (e : List ℕ × Tree). key e.0 ∷ events e.1) (λ es. entry_events (entries_of es)) entries_fold c.args.bytes.now c.args.count c.args.at (c.args.count - c.loop.counter)
    (c.args.count - (c.loop.counter + 1)) _ _ _ _ _ (omega (arith, c.loop-test.true)) c.loop.invariant entry

pub object-returns : goal.object-returns
object-returns g t c =
    let entries =
    on_end g.B.Builder.takes (entry_of (text_of MapKey) (with_text_keys (c.args.levels - 1))) (λ (e : List ℕ × Tree). key e.0 ∷ events e.1) (λ es. entry_events (entries_of es)) entries_fold c.args.bytes.now c.args.count c.args.at (c.args.count - c.loop.counter) c.loop.end _ _
    (omega (arith, c.loop-test.false)) c.loop.invariant in
    answers c.tell-2.result c.loop.end _ c.tell-2.ensures.taken c.tell-2.ensures.end
    (λ taken. object_told g.B.Builder.takes c.args.bytes.now (search rules) c.args.levels c.args.count c.args.start c.args.at c.loop.end _ _ _ _ c.requires c.if-levels-eq0.false c.in_ok-tell.ensures.taken entries taken)

-- ---- templates

pub field-returns-then-bytes-start-eq-BSER_SKIP : goal.field-returns-then-bytes-start-eq-BSER_SKIP
field-returns-then-bytes-start-eq-BSER_SKIP g t c =
    answers c.tell.result (c.args.start + 1) _ c.tell.ensures.taken c.tell.ensures.end
    (λ taken. skip_told g.B.Builder.takes c.args.bytes.now (search rules) c.args.levels c.args.start _ _ (search rules) (search rules) taken)

pub field-returns : goal.field-returns
field-returns g t c = each_some _ _ c.value.result c.value.ensures (λ to h. field_told g.B.Builder.takes c.args.bytes.now (search rules) c.args.levels c.args.start to _ _ h)

pub row-loop-init : goal.row-loop-init
row-loop-init g t c =
    on_begin g.B.Builder.takes (field_of (with_text_keys c.args.levels)) part_events (λ fs. field_events (fields_of fs)) fields_fold c.args.bytes.now c.args.width (c.args.width - 0) c.args.start _ c.requires (omega arith)

pub row-loop-preserved : goal.row-loop-preserved
row-loop-preserved g t c =
    on_step g.B.Builder.takes (field_of (with_text_keys c.args.levels)) part_events (λ fs. field_events (fields_of fs)) fields_fold c.args.bytes.now c.args.width c.args.start (c.args.width - c.loop.counter) (c.args.width - (c.loop.counter + 1)) _ _ _ _ _
    (omega (arith, c.loop-test.true)) c.loop.invariant c.in_ok-end.ensures

pub row-returns : goal.row-returns
row-returns g t c =
    on_end g.B.Builder.takes (field_of (with_text_keys c.args.levels)) part_events (λ fs. field_events (fields_of fs)) fields_fold c.args.bytes.now c.args.width c.args.start (c.args.width - c.loop.counter) _ _ _ (omega (arith, c.loop-test.false)) c.loop.invariant

pub rows-loop-init : goal.rows-loop-init
rows-loop-init g t c =
    on_begin g.B.Builder.takes (many (field_of (with_text_keys c.args.levels)) c.args.width) (λ fs. field_events (fields_of fs)) (λ rs. row_events (rows_of rs)) rows_fold c.args.bytes.now c.args.height (c.args.height - 0) c.args.start _ c.requires (omega arith)

pub rows-loop-preserved : goal.rows-loop-preserved
rows-loop-preserved g t c =
    on_step g.B.Builder.takes (many (field_of (with_text_keys c.args.levels)) c.args.width) (λ fs. field_events (fields_of fs)) (λ rs. row_events (rows_of rs)) rows_fold c.args.bytes.now c.args.height c.args.start (c.args.height - c.loop.counter) (c.args.height - (c.loop.counter + 1)) _ _ _ _ _
    (omega (arith, c.loop-test.true)) c.loop.invariant c.in_ok-end.ensures

pub rows-returns : goal.rows-returns
rows-returns g t c =
    on_end g.B.Builder.takes (many (field_of (with_text_keys c.args.levels)) c.args.width) (λ fs. field_events (fields_of fs)) (λ rs. row_events (rows_of rs)) rows_fold c.args.bytes.now c.args.height c.args.start (c.args.height - c.loop.counter) _ _ _ (omega (arith, c.loop-test.false)) c.loop.invariant

pub template-returns : goal.template-returns
template-returns g t c =
    let none : c.in_ok-width.field-0.count ≡ 0 → c.in_ok-height.field-0.count ≡ 0 = λ e. elim c.else-width-eq0.branch [ template-else-width-eq0-via-then-width-eq0+else-height-ne0 w ↦ w.if-height-ne0.false | template-else-width-eq0-via-else-width-eq0 w ↦ absurd (w.if-width-eq0.false e) ] in
    answers c.tell-3.result c.in_ok-last.last _ c.tell-3.ensures.taken c.tell-3.ensures.end
    (λ taken. template_told g.B.Builder.takes c.args.bytes.now (search rules) c.args.levels c.in_ok-width.field-0.count c.in_ok-height.field-0.count c.args.start c.args.at c.in_ok-width.field-0.end c.in_ok-head.head c.in_ok-height.field-0.end c.in_ok-last.last _ _ _ _ _ _ c.requires (search rules) (search rules) (search rules)
    c.in_ok-width.ensures c.in_ok-tell.ensures.taken c.in_ok-head.ensures c.in_ok-height.ensures none c.in_ok-tell-2.ensures.taken c.in_ok-last.ensures taken)
