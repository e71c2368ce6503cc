-- A copy of bytes is UTF-8 under a text's tag, or refused.
use Rattle.std.proofs.Common.{◌∙◌, sym}
use Rattle.bser_format.specs.ReadsScalars.{reads_slice}
use Rattle.bser_deserializer.specs.Askings.{asking_bytes}
use Rattle.bser_deserializer.specs.State.{State}
use Rattle.bser_deserializer.proofs.Strings.{told_bad, told_good, bytes_not_utf8}
use Rattle.bser_deserializer.proofs.Texts.{bytes_answer}
use Rattle.bser_deserializer.proofs.Copies.{owning}
use Rattle.bser_deserializer.proofs.deserializer.Deserializer.read_byte_string.Goals.{else-is_text-via-then-is_text+else-is_err, else-is_text-via-else-is_text}
use Rattle.bser_deserializer.proofs.deserializer.Deserializer.read_byte_string.Goals as goal

pub returns-then-is_err-clause-refused : goal.returns-then-is_err-clause-refused
returns-then-is_err-clause-refused g c =
    let s : State = c.args.self.now.state in
    let m : State = c.take_copy.new.self.state in
    let n : State = c.refuse_utf8.new.self.state in
    let bad = told_bad c.from_utf8.result _ _ _ _ c.deref.ensures.value c.from_utf8.ensures.cases (sym c.is_err.ensures.value ∙ c.if-is_err.true) in
    rw c.refuse_utf8.ensures.reason (owning reads_slice asking_bytes _ s n (bytes_not_utf8 s m n _ _ c.in_ok-bytes.ensures.found c.if-is_text.true bad c.refuse_utf8.ensures.state))

pub returns-clause-found : goal.returns-clause-found
returns-clause-found g c =
    rw c.from_vec.ensures (bytes_answer (λ s. s) _ _ _ c.in_ok-bytes.bytes.items c.in_ok-bytes.ensures.found (λ text. elim c.else-is_text.branch [
      | else-is_text-via-then-is_text+else-is_err w ↦ told_good w.from_utf8.result _ _ _ _ w.deref.ensures.value w.from_utf8.ensures.cases (sym w.is_err.ensures.value ∙ w.if-is_err.false)
      | else-is_text-via-else-is_text w ↦ absurd (let no = w.if-is_text.false in cc)
    ]))
