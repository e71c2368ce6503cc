-- Bytes that were taken are UTF-8 under a text's tag, or refused.
use Rattle.std.proofs.Common.{◌∙◌, sym}
use Rattle.bser_source.specs.Refs.{bytes_of}
use Rattle.bser_deserializer.specs.State.{State}
use Rattle.bser_deserializer.proofs.Strings.{told_bad, told_good, bytes_not_utf8}
use Rattle.bser_deserializer.proofs.Texts.{bytes_answer}
use Rattle.bser_deserializer.proofs.deserializer.Deserializer.read_bytes.Goals.{else-is_text-via-then-is_text+else-is_err, else-is_text-via-else-is_text}
use Rattle.bser_deserializer.proofs.deserializer.Deserializer.read_bytes.Goals as goal

pub returns-then-is_err-clause-refused : goal.returns-then-is_err-clause-refused
returns-then-is_err-clause-refused g c =
    let s : State = c.args.self.now.state in
    let m : State = c.take_bytes.new.self.state in
    let n : State = c.refuse_utf8.new.self.state in
    let bad = told_bad c.from_utf8.result _ _ _ _ c.get_ref.ensures c.from_utf8.ensures.cases (sym c.is_err.ensures.value ∙ c.if-is_err.true) in
    rw c.refuse_utf8.ensures.reason (bytes_not_utf8 s m n _ _ c.in_ok-bytes.ensures.found c.if-is_text.true bad c.refuse_utf8.ensures.state)

pub returns-clause-found : goal.returns-clause-found
returns-clause-found g c =
    bytes_answer (bytes_of g.R.Lent.Lending.bytes) _ _ _ c.in_ok-bytes.bytes c.in_ok-bytes.ensures.found (λ text. elim c.else-is_text.branch [
      | else-is_text-via-then-is_text+else-is_err w ↦ told_good w.from_utf8.result _ _ _ _ w.get_ref.ensures w.from_utf8.ensures.cases (sym w.is_err.ensures.value ∙ w.if-is_err.false)
      | else-is_text-via-else-is_text w ↦ absurd (let no = w.if-is_text.false in cc)
    ])
