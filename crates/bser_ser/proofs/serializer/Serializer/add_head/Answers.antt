use Rattle.std.proofs.Common.{List, ℕ, ◌∷◌, sym, ap, subst}
use Rattle.bser_ser.specs.Sent.{Adds}
use Rattle.bser_ser.proofs.Spelling.{short_count}
use Rattle.bser_ser.proofs.serializer.Serializer.add_head.Goals as goal

pub returns-then-count-lt128 : goal.returns-then-count-lt128
returns-then-count-lt128 g c =
    subst (λ (bs : List ℕ). Adds g.W.Sink c.args.self.now c.append.new.self bs c.append.result)
    (sym (ap (λ (ns : List ℕ). c.args.tag ∷ ns) (short_count c.args.count c.if-count-lt128.true))) c.append.ensures
