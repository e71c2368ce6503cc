-- The message or the error of the text's tokens.
use Rattle.std.proofs.Common.{length, sym, ap, subst, ◌∙◌, arith}
use Rattle.std.proofs.lemmas.List.{length-append}
use Rattle.std.proofs.lemmas.Result.{err_from_is_err_and}
use Rattle.json.specs.Lex.{tokens}
use Rattle.bser_format.specs.Canonical.{canonical_body}
use Rattle.bser_from_json.specs.Errors.{IsErrorOf}
use Rattle.bser_from_json.specs.Left.{IsRefused}
use Rattle.bser_from_json.specs.Made.{made}
use Rattle.bser_from_json.proofs.Messages.{message_made}
use Rattle.bser_from_json.proofs.Outcomes.{made_is}
use Rattle.bser_from_json.proofs.TokenCount.{tokens-le}
use Rattle.bser_from_json.proofs.reading.message_of.Goals as goal

pub returns-in_err-reader-clause-refused : goal.returns-in_err-reader-clause-refused
returns-in_err-reader-clause-refused c =
    let p = err_from_is_err_and c.from_residual.result c.from_residual.ensures.1 in
    rw p.1 (subst (IsErrorOf c.args.whole.now c.args.text.now c.args.start (made c.args.strings (tokens c.args.text.now))) (sym p.2) tt)

pub new-tokens-requires : goal.new-tokens-requires
new-tokens-requires c = omega (arith, ap length c.in_ok-reader.ensures.ok, tokens-le c.args.text.now)

pub returns-in_err-front-clause-refused : goal.returns-in_err-front-clause-refused
returns-in_err-front-clause-refused c =
    let p = err_from_is_err_and c.from_residual-in_err-front.result c.from_residual-in_err-front.ensures.1 in
    rw p.1 (subst (IsErrorOf c.args.whole.now c.args.text.now c.args.start (made c.args.strings (tokens c.args.text.now))) (sym p.2) tt)

pub message-requires : goal.message-requires
message-requires c =
    let put = c.in-Ok.ensures in
    omega (arith, c.in_ok-front.ensures, ap length put.1.body, length-append c.in_ok-front.front.items (canonical_body put.0))

pub returns-clause-refused : goal.returns-clause-refused
returns-clause-refused c =
    let o = made c.args.strings (tokens c.args.text.now) in
    let same = made_is c.args.strings c.new-tokens.result (tokens c.args.text.now) (c.new-tokens.ensures.reader ∙ c.in_ok-reader.ensures.ok) c.new-tokens.ensures.taken in
    c.in_ok-error_of-in-Err.ensures o (subst (λ p. IsRefused p c.in-Err.refusal) (sym same) c.in-Err.ensures)

pub returns-in-Ok-clause-made : goal.returns-in-Ok-clause-made
returns-in-Ok-clause-made c =
    let put = c.in-Ok.ensures in
    let same = made_is c.args.strings c.new-tokens.result (tokens c.args.text.now) (c.new-tokens.ensures.reader ∙ c.in_ok-reader.ensures.ok) c.new-tokens.ensures.taken in
    message_made _ c.in_ok-front.front.items c.in-Ok.bytes.items c.in_ok-message-in-Ok.field-0.items put.0 c.in_ok-front.ensures put.1 (same ∙ put.2) c.in_ok-message-in-Ok.ensures
