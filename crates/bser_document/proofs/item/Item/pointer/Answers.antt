-- The path is no pointer, is empty, or begins with a slash.
use Rattle.std.proofs.Common.{◌≡◌, ◌∙◌, ap, true, false, Some, None, sym, subst, arith, option_and_then}
use Rattle.std.proofs.lemmas.Str.Pattern.{strip_prefix_char}
use Rattle.bser_document.specs.Pairs.{FindsItem}
use Rattle.bser_document.specs.Pointer.{behind_slashes, descendant, has_only_escapes}
use Rattle.bser_document.proofs.Tokens.{no_slash, tokens_where}
use Rattle.bser_document.proofs.item.Item.pointer.Goals as goal

pub returns-then-not-has_only_escapes : goal.returns-then-not-has_only_escapes
returns-then-not-has_only_escapes c u h =
    let e : has_only_escapes c.args.path.now ≡ false = ap has_only_escapes (sym c.as_bytes.ensures.value) ∙ sym c.has_only_escapes.ensures ∙ c.if-not-has_only_escapes.true in
    subst (λ t. FindsItem (option_and_then (λ ss. descendant ss u) t) None) (sym (tokens_where c.args.path.now _ e)) tt

pub returns-in-Some : goal.returns-in-Some
returns-in-Some c u h =
    let begun = strip_prefix_char 47 c.args.path.now (Some c.in-Some.tokens) c.in-Some.ensures.cases (omega arith) in
    let e : has_only_escapes c.args.path.now ≡ true = ap has_only_escapes (sym c.as_bytes.ensures.value) ∙ sym c.has_only_escapes.ensures ∙ c.if-not-has_only_escapes.false in
    subst (λ t. FindsItem (option_and_then (λ ss. descendant ss u) t) c.descendant.result) (sym (tokens_where c.args.path.now _ e ∙ ap behind_slashes begun)) (c.descendant.ensures u h)

pub returns-in-None-2 : goal.returns-in-None-2
returns-in-None-2 c u h =
    let wrong = strip_prefix_char 47 c.args.path.now None c.in-None.ensures.cases (omega arith) in
    let e : has_only_escapes c.args.path.now ≡ true = ap has_only_escapes (sym c.as_bytes.ensures.value) ∙ sym c.has_only_escapes.ensures ∙ c.if-not-has_only_escapes.false in
    subst (λ t. FindsItem (option_and_then (λ ss. descendant ss u) t) None) (sym (tokens_where c.args.path.now _ e ∙ no_slash c.args.path.now (sym c.is_empty.ensures ∙ c.if-is_empty.false) wrong)) tt
