-- The message of the text is written, or why it is not.
use Rattle.std.proofs.Common.{sym, subst}
use Rattle.std.proofs.lemmas.Result.{err_from_is_err_and}
use Rattle.bser_from_json.specs.Written.{IsMessageOf, LeavesText}
use Rattle.bser_from_json.proofs.Writing.{left_unwritten}
use Rattle.bser_from_json.proofs.texts.write_text.Goals as goal

pub returns-in_err-message-clause-refused : goal.returns-in_err-message-clause-refused
returns-in_err-message-clause-refused g c =
    let old = g.W.Write.contents c.args.out.now in
    let p = err_from_is_err_and c.from_residual-in_err-message.result c.from_residual-in_err-message.ensures.1 in
    rw p.1 (subst (LeavesText c.args.writing c.args.bytes.now old old) (sym p.2) (left_unwritten c.args.writing c.in_ok-text.text.now c.args.bytes.now old c.in_err-message.field-0.0 c.in_ok-text.ensures c.in_err-message.ensures.refused))

pub returns-in_err-write_bytes-clause-refused : goal.returns-in_err-write_bytes-clause-refused
returns-in_err-write_bytes-clause-refused g c =
    let contents = g.W.Write.contents in
    let bytes = c.deref.result.now in
    let p = err_from_is_err_and c.from_residual-in_err-write_bytes.result c.from_residual-in_err-write_bytes.ensures.1 in
    let text = subst (λ s. IsMessageOf c.args.writing s c.in_ok-message.message.items) c.in_ok-text.ensures c.in_ok-message.ensures.made in
    let message = subst (IsMessageOf c.args.writing c.args.bytes.now) (sym c.deref.ensures.value) text in
    rw p.1 (subst (LeavesText c.args.writing c.args.bytes.now (contents c.args.out.now) (contents c.write_bytes.new.out)) (sym p.2) (bytes, message, c.in_err-write_bytes.ensures))
