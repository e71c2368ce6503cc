-- A copy of bytes is a text, or refused.
use Rattle.std.proofs.Common.{◌∙◌, not, subst, ap, IsUtf8, string_bytes}
use Rattle.std.proofs.lemmas.Str.{IsUtf8-string_bytes}
use Rattle.std.proofs.lemmas.Result.{err_from_is_err_and}
use Rattle.bser_format.specs.ReadsScalars.{reads_string}
use Rattle.bser_deserializer.specs.Askings.{asking_string}
use Rattle.bser_deserializer.specs.State.{State}
use Rattle.bser_deserializer.proofs.Strings.{text_not_utf8}
use Rattle.bser_deserializer.proofs.Texts.{text_answer}
use Rattle.bser_deserializer.proofs.Copies.{owning, text_copy_refused, told_none}
use Rattle.bser_deserializer.proofs.deserializer.Deserializer.read_string.Goals as goal

pub returns-in_err-bytes-clause-refused : goal.returns-in_err-bytes-clause-refused
returns-in_err-bytes-clause-refused g c =
    let s : State = c.args.self.now.state in
    let n : State = c.take_copy.new.self.state in
    let p = err_from_is_err_and c.from_residual.result c.from_residual.ensures.1 in
    rw p.1 (text_copy_refused _ s n c.in_err-bytes.ensures.refused)

pub returns-then-is_none-clause-refused : goal.returns-then-is_none-clause-refused
returns-then-is_none-clause-refused g c =
    let s : State = c.args.self.now.state in
    let m : State = c.take_copy.new.self.state in
    let n : State = c.refuse_string.new.self.state in
    let bad = told_none c.as_text.result _ _ _ c.deref.ensures.value c.as_text.ensures (c.is_none.ensures ∙ ap not c.if-is_none.true) in
    rw c.refuse_string.ensures.reason (owning reads_string asking_string _ s n (text_not_utf8 s m n _ _ c.in_ok-bytes.ensures.found bad c.refuse_string.ensures.state))

pub returns-clause-found : goal.returns-clause-found
returns-clause-found g c =
    let same = ap (λ v. v.items) c.from_utf8_unchecked.ensures.value in
    text_answer string_bytes _ _ _ c.from_utf8_unchecked.result _ same c.in_ok-bytes.ensures.found (subst IsUtf8 same (IsUtf8-string_bytes c.from_utf8_unchecked.result))
