-- Kind by kind.
use Rattle.std.proofs.Common.{◌≡◌, true, false, not, nat_eq, is_some, option_map, sym, ap, ◌∙◌}
use Rattle.std.specs.Bool.{beq}
use Rattle.std.specs.Option.{option_eq}
use Rattle.std.specs.Ordering.{int_eq}
use Rattle.bser_format.specs.SameTree.{same_bytes}
use Rattle.bser_value.specs.Contents.{as_bool, as_i64, as_bytes, as_str}
use Rattle.bser_document.specs.Holds.{as_real_bits}
use Rattle.bser_document.proofs.Alike.{nulls_same, bools_same, integers_same, reals_same, texts_same, texts_differ, same_options, some_as, bytes_same, bytes_differ, no_container, no_object}
use Rattle.bser_document.proofs.same.is_same_plain.Goals as goal

pub returns-in-Null : goal.returns-in-Null
returns-in-Null c u v h k plain = nulls_same u v c.is_null.result (sym (c.in-Null.ensures u h)) (c.is_null.ensures v k)

pub returns-in-Bool : goal.returns-in-Bool
returns-in-Bool c u v h k plain =
    bools_same u v c.eq.result (sym (c.in-Bool.ensures u h)) (c.eq.ensures ∙ ap (λ a. option_eq beq a c.as_bool-in-Bool.result) (c.as_bool.ensures u h) ∙ ap (option_eq beq (as_bool u)) (c.as_bool-in-Bool.ensures v k))

pub returns-in-Integer : goal.returns-in-Integer
returns-in-Integer c u v h k plain =
    integers_same u v c.eq-in-Integer.result (sym (c.in-Integer.ensures u h)) (c.eq-in-Integer.ensures ∙ ap (λ a. option_eq int_eq a c.as_i64-in-Integer.result) (c.as_i64.ensures u h) ∙ ap (option_eq int_eq (as_i64 u)) (c.as_i64-in-Integer.ensures v k))

pub returns-in-Real : goal.returns-in-Real
returns-in-Real c u v h k plain =
    reals_same u v c.eq-in-Real.result (sym (c.in-Real.ensures u h)) (c.eq-in-Real.ensures ∙ ap (λ a. option_eq nat_eq a c.as_real_bits-in-Real.result) (c.as_real_bits.ensures u h) ∙ ap (option_eq nat_eq (as_real_bits u)) (c.as_real_bits-in-Real.ensures v k))

pub returns-then-is_some : goal.returns-then-is_some
returns-then-is_some c u v h k plain =
    let some : is_some (as_str v) ≡ true = sym (some_as c.as_str.result (as_str v) (c.as_str.ensures v k)) ∙ sym c.is_some.ensures ∙ c.if-is_some.true in
    texts_same u v c.eq-then-is_some.result (sym (c.kind.ensures u h) ∙ c.in-Text.is) some
    (c.eq-then-is_some.ensures ∙ same_options c.as_bytes.result c.as_bytes-then-is_some.result ∙ ap (λ a. option_eq same_bytes a (option_map (λ x. x.now) c.as_bytes-then-is_some.result)) (c.as_bytes.ensures u h) ∙ ap (option_eq same_bytes (as_bytes u)) (c.as_bytes-then-is_some.ensures v k))

pub returns-else-is_some : goal.returns-else-is_some
returns-else-is_some c u v h k plain =
    let none : is_some (as_str v) ≡ false = sym (some_as c.as_str.result (as_str v) (c.as_str.ensures v k)) ∙ sym c.is_some.ensures ∙ c.if-is_some.false in
    c.if-is_some.false ∙ texts_differ u v (sym (c.kind.ensures u h) ∙ c.in-Text.is) none

pub returns-then-is_none : goal.returns-then-is_none
returns-then-is_none c u v h k plain =
    let none : is_some (as_str v) ≡ false = sym (some_as c.as_str-in-Bytes.result (as_str v) (c.as_str-in-Bytes.ensures v k)) ∙ c.is_none.ensures ∙ ap not c.if-is_none.true in
    bytes_same u v c.eq-then-is_none.result (sym (c.kind.ensures u h) ∙ c.in-Bytes.is) none
    (c.eq-then-is_none.ensures ∙ same_options c.as_bytes-then-is_none.result c.as_bytes-then-is_none-2.result ∙ ap (λ a. option_eq same_bytes a (option_map (λ x. x.now) c.as_bytes-then-is_none-2.result)) (c.as_bytes-then-is_none.ensures u h) ∙ ap (option_eq same_bytes (as_bytes u)) (c.as_bytes-then-is_none-2.ensures v k))

pub returns-else-is_none : goal.returns-else-is_none
returns-else-is_none c u v h k plain =
    let some : is_some (as_str v) ≡ true = sym (some_as c.as_str-in-Bytes.result (as_str v) (c.as_str-in-Bytes.ensures v k)) ∙ c.is_none.ensures ∙ ap not c.if-is_none.false in
    c.if-is_none.false ∙ bytes_differ u v (sym (c.kind.ensures u h) ∙ c.in-Bytes.is) some

pub returns-in-Array : goal.returns-in-Array
returns-in-Array c u v h k plain = no_container u v plain (sym (c.kind.ensures u h) ∙ c.in-Array.is)

pub returns-in-Object : goal.returns-in-Object
returns-in-Object c u v h k plain = no_object u v plain (sym (c.kind.ensures u h) ∙ c.in-Object.is)
