use Rattle.std.proofs.Common.{rules, List, ℕ, ◌≡◌, take, subst, FitsSigned, w64}
use Rattle.std.proofs.lemmas.Int.{to_z-of_z}
use Rattle.bser_format.specs.Canonical.{least_integer}
use Rattle.bser_ser.specs.Sent.{Adds}
use Rattle.bser_ser.proofs.Ends.{Adds-after}
use Rattle.bser_ser.proofs.adds.SerializerParts.add_i64.Goals as goal

pub returns : goal.returns
returns g c =
    let fits : FitsSigned w64 c.args.v = search rules in
    let spelled : take c.spell-len.result c.spell-len.new.buf ≡ least_integer c.args.v = simp to_z-of_z at c.spell-len.ensures.spelled in
    subst (λ (bs : List ℕ). Adds g.W.Sink c.args.self.now c.append_pending_front.new.self bs c.append_pending_front.result) spelled
    (Adds-after g.W.Sink g.met.W.Sink.took_both c.args.self.now c.is_taken_at_once.new.self c.append_pending_front.new.self _ c.append_pending_front.result (rw c.if-is_taken_at_once.false at c.is_taken_at_once.ensures.sent) c.append_pending_front.ensures)
