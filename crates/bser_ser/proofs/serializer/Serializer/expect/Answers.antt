use Rattle.std.proofs.Common.{refl, [], append-nil, sym, ◌∙◌}
use Rattle.bser_ser.proofs.Sends.{Sent-both, Sent-told, Sent-more}
use Rattle.bser_ser.proofs.serializer.Serializer.expect.Goals as goal

pub returns-then-not-is_taken_at_once : goal.returns-then-not-is_taken_at_once
returns-then-not-is_taken_at_once g c =
    let told = Sent-told {sink = g.W.Sink} c.args.self.now c.expect.new.self c.expect.ensures.taken c.expect.ensures.failures in
    let asked = Sent-both g.met.W.Sink.took_both c.args.self.now _ c.is_taken_at_once.new.self [] [] told (rw c.if-not-is_taken_at_once.true at c.is_taken_at_once.ensures.sent) in
    Sent-more c.args.self.now c.is_taken_at_once.new.self _ [] asked refl refl (c.reserve.ensures.items ∙ sym (append-nil c.is_taken_at_once.new.self.pending.items))

pub returns-else-not-is_taken_at_once : goal.returns-else-not-is_taken_at_once
returns-else-not-is_taken_at_once g c =
    let told = Sent-told {sink = g.W.Sink} c.args.self.now c.expect.new.self c.expect.ensures.taken c.expect.ensures.failures in
    Sent-both g.met.W.Sink.took_both c.args.self.now _ c.is_taken_at_once.new.self [] [] told (rw c.if-not-is_taken_at_once.false at c.is_taken_at_once.ensures.sent)
