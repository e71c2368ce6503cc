-- The message of a text's value, or why it has none.
use Rattle.std.proofs.Common.{refl, sym, subst}
use Rattle.std.proofs.lemmas.Result.{err_from_is_err_and}
use Rattle.bser_format.specs.Compact.{compact_message}
use Rattle.bser_value.specs.ValueView.{tree_of}
use Rattle.bser_from_json.specs.Written.{IsMessageOf, LacksMessage}
use Rattle.bser_from_json.proofs.Writing.{compact_is, lacks_by_json, plain_is}
use Rattle.bser_from_json.proofs.texts.message_in.Goals as goal

pub returns-in_err-value-clause-refused : goal.returns-in_err-value-clause-refused
returns-in_err-value-clause-refused c =
    let p = err_from_is_err_and c.from_residual.result c.from_residual.ensures.1 in
    rw p.1 (subst (LacksMessage c.args.writing c.args.text.now) (sym p.2) (lacks_by_json c.args.writing c.args.text.now c.in_err-value.field-0.0 c.in_err-value.ensures.refused))

pub returns-in_err-compact_of-clause-refused : goal.returns-in_err-compact_of-clause-refused
returns-in_err-compact_of-clause-refused c =
    let text = c.args.text.now in
    let t = tree_of c.in_ok-value.value in
    let p = err_from_is_err_and c.from_residual-in_err-compact_of.result c.from_residual-in_err-compact_of.ensures.1 in
    rw p.1 (subst (LacksMessage c.args.writing text) (sym p.2) (compact_message t, compact_is c.args.writing text text t c.if-writing.true refl c.in_ok-value.ensures.made))

pub returns-then-writing-clause-made : goal.returns-then-writing-clause-made
returns-then-writing-clause-made c =
    let text = c.args.text.now in
    subst (IsMessageOf c.args.writing text) (sym c.in_ok-compact_of.ensures) (compact_is c.args.writing text text (tree_of c.in_ok-value.value) c.if-writing.true refl c.in_ok-value.ensures.made)

pub returns-in_err-message_of-clause-refused : goal.returns-in_err-message_of-clause-refused
returns-in_err-message_of-clause-refused c =
    let p = err_from_is_err_and c.from_residual-in_err-message_of.result c.from_residual-in_err-message_of.ensures.1 in
    rw p.1 (subst (LacksMessage c.args.writing c.args.text.now) (sym p.2) (lacks_by_json c.args.writing c.args.text.now c.in_err-message_of.field-0.0 c.in_err-message_of.ensures.refused))

pub returns-clause-made : goal.returns-clause-made
returns-clause-made c = plain_is c.args.writing c.args.text.now c.args.text.now _ c.if-writing.false refl c.in_ok-message_of.ensures.made
