use Rattle.std.proofs.Common.{List, ℕ, ◌∷◌, ◌++◌, length, sym, ap, subst, arith}
use Rattle.bser_ser.specs.Sent.{Adds}
use Rattle.bser_ser.proofs.Ends.{Adds-after}
use Rattle.bser_ser.proofs.Spelling.{short_count}
use Rattle.bser_ser.proofs.serializer.Serializer.add_string.Goals as goal

pub returns-then-is_taken_at_once : goal.returns-then-is_taken_at_once
returns-then-is_taken_at_once g c =
    rw (short_count (length c.args.bytes.now) c.if-bytes-lt128.true)
    (rw c.if-is_taken_at_once.true at c.is_taken_at_once.ensures.sent, rw (c.is_taken_at_once.ensures.all c.if-is_taken_at_once.true) (omega arith))

pub returns-then-bytes-lt128 : goal.returns-then-bytes-lt128
returns-then-bytes-lt128 g c =
    subst (λ (bs : List ℕ). Adds g.W.Sink c.args.self.now c.append_pending_short.new.self bs c.append_pending_short.result)
    (sym (ap (λ (ns : List ℕ). c.args.tag ∷ (ns ++ c.args.bytes.now)) (short_count (length c.args.bytes.now) c.if-bytes-lt128.true)))
    (Adds-after g.W.Sink g.met.W.Sink.took_both c.args.self.now c.is_taken_at_once.new.self c.append_pending_short.new.self _ c.append_pending_short.result (rw c.if-is_taken_at_once.false at c.is_taken_at_once.ensures.sent) c.append_pending_short.ensures)
