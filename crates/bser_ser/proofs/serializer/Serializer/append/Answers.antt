use Rattle.std.proofs.Common.{rules, length}
use Rattle.std.proofs.lemmas.List.{take_all}
use Rattle.bser_ser.proofs.Ends.{Adds-after}
use Rattle.bser_ser.proofs.serializer.Serializer.append.Goals as goal

pub returns : goal.returns
returns g c =
    Adds-after g.W.Sink g.met.W.Sink.took_both c.args.self.now c.is_taken_at_once.new.self c.append_pending_front.new.self _ c.append_pending_front.result (rw c.if-is_taken_at_once.false at c.is_taken_at_once.ensures.sent) (rw (take_all (length c.args.piece.now) c.args.piece.now (search rules)) at c.append_pending_front.ensures)
