-- Bytes that were taken are a key, or refused.
use Rattle.std.proofs.lemmas.Result.{err_from_is_err_and}
use Rattle.bser_source.specs.Refs.{text_bytes}
use Rattle.bser_deserializer.specs.State.{State}
use Rattle.bser_deserializer.proofs.Strings.{text_refused, text_not_utf8}
use Rattle.bser_deserializer.proofs.Texts.{text_answer}
use Rattle.bser_deserializer.proofs.deserializer.Deserializer.read_key.Goals as goal

pub returns-in_err-key-clause-refused : goal.returns-in_err-key-clause-refused
returns-in_err-key-clause-refused g c =
    let s : State = c.args.self.now.state in
    let n : State = c.take_bytes.new.self.state in
    let p = err_from_is_err_and c.from_residual.result c.from_residual.ensures.1 in
    rw p.1 (text_refused _ s n c.in_err-key.ensures.refused)

pub returns-in-Ok-clause-found : goal.returns-in-Ok-clause-found
returns-in-Ok-clause-found g c =
    text_answer (text_bytes g.R.Lent.Text.LendingText.text) _ _ _ c.in-Ok.text _ c.in-Ok.ensures.ok.0 c.in_ok-key.ensures.found c.in-Ok.ensures.ok.1

pub returns-in-Err-clause-refused : goal.returns-in-Err-clause-refused
returns-in-Err-clause-refused g c =
    let s : State = c.args.self.now.state in
    let m : State = c.take_bytes.new.self.state in
    let n : State = c.refuse.new.self.state in
    rw (c.refuse.ensures.reason, c.de_reader_error.ensures, c.in-Err.ensures.cause) (text_not_utf8 s m n _ _ c.in_ok-key.ensures.found c.in-Err.ensures.err c.refuse.ensures.state)
