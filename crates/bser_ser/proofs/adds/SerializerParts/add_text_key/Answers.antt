use Rattle.std.proofs.Common.{List, ℕ, sym, subst}
use Rattle.bser_ser.specs.Sent.{Adds}
use Rattle.bser_ser.proofs.Keys.{key_of_text}
use Rattle.bser_ser.proofs.adds.SerializerParts.add_text_key.Goals as goal

pub returns : goal.returns
returns g c =
    subst (λ (bs : List ℕ). Adds g.W.Sink c.args.self.now c.add_text.new.self bs c.add_text.result)
    (sym (key_of_text c.args.key.now c.utf8.key)) c.add_text.ensures
