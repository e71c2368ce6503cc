use Rattle.std.proofs.Common.{rules, ◌≡◌, MutBor}
use Rattle.bser_ser.proofs.Messages.{Missed-lent}
use Rattle.bser_ser.proofs.message.serialize_to.Goals as goal

pub returns-clause-err : goal.returns-clause-err
returns-clause-err g c =
    Missed-lent (λ (r : MutBor g.row.W.Denot). r.now) (λ a b. b.ghost_name ≡ a.ghost_name) g.W.Sink (g.T.Serialize.meaning c.args.value.now) c.in_ok-len.len c.new-out.result c.send_message-sent.new.out
    c.args.writer.now _ c.send_message-sent.result c.in_ok-len.ensures.ok c.new-out.ensures.1 (search rules) (search rules) c.send_message-sent.ensures.sent
