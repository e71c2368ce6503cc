use Rattle.std.proofs.Common.{◌≡◌, take, drop, [], ◌++◌, encode_utf8, encode_utf8_all, sym, ap, ◌∙◌, append_assoc, append-nil, rules}
use Rattle.std.specs.Char.Iter.{escape_rest}
use Rattle.std.proofs.Output.{has_written_append, has_written_of_eq, writes_in_calls_nil}
use Rattle.bser_format.proofs.bytestring.write_default.Goals as goal

pub loop-escaped-init : goal.loop-escaped-init
loop-escaped-init g c = λ plain. ([], record { wrote = writes_in_calls_nil _ _; plain = plain }, search rules)

pub loop-escaped-preserved : goal.loop-escaped-preserved
loop-escaped-preserved g c =
    λ plain.
    let now = c.loop-escaped.invariant plain in
    let ch = c.in-Some.escaped in (
      now.0 ++ encode_utf8 ch,
      has_written_append _ _ _ _ _ _ now.1 (search rules),
      append_assoc now.0 (encode_utf8 ch) _ ∙ ap (λ l. now.0 ++ encode_utf8_all l) (sym c.in-Some.ensures.steps.1.0) ∙ now.2,
    )

pub returns : goal.returns
returns g c = λ plain _.
    let now = c.loop-escaped.invariant plain in
    let none : escape_rest c.loop-escaped.escaped-iterator ≡ [] = ap (λ k. take k (drop c.loop-escaped.escaped-iterator.from c.loop-escaped.escaped-iterator.chars)) c.in-None.ensures.steps.1.0 in
    has_written_of_eq _ _ _ _ _ (sym (append-nil now.0) ∙ ap (λ t. now.0 ++ encode_utf8_all t) (sym none) ∙ now.2) now.1
