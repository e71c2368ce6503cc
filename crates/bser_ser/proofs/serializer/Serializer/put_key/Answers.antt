use Rattle.std.proofs.Common.{List, ℕ, sym, ap, ◌∙◌, subst}
use Rattle.bser_format.specs.Canonical.{canonical_text}
use Rattle.bser_ser.specs.Sent.{Puts}
use Rattle.bser_ser.proofs.Keys.{key_of_text, key_of_bytes}
use Rattle.bser_ser.proofs.serializer.Serializer.put_key.Goals as goal

pub returns-in-Ok : goal.returns-in-Ok
returns-in-Ok g c =
    subst (λ (bs : List ℕ). Puts g.W.Sink c.args.self.now c.put_text.new.self bs c.put_text.result)
    (ap canonical_text c.in-Ok.ensures.cases.0 ∙ sym (key_of_text c.args.key.now c.in-Ok.ensures.cases.1)) c.put_text.ensures.put

pub returns-in-Err : goal.returns-in-Err
returns-in-Err g c =
    subst (λ (bs : List ℕ). Puts g.W.Sink c.args.self.now c.put_bytes.new.self bs c.put_bytes.result)
    (sym (key_of_bytes c.args.key.now c.in-Err.ensures.cases.0)) c.put_bytes.ensures
