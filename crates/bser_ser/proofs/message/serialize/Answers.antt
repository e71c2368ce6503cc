use Rattle.std.proofs.Common.{inr}
use Rattle.bser_ser.proofs.Messages.{Broke-new}
use Rattle.bser_ser.proofs.message.serialize.Goals as goal

pub returns-in-Err-send_message-clause-err : goal.returns-in-Err-send_message-clause-err
returns-in-Err-send_message-clause-err g c =
    inr (Broke-new g.W.Sink (g.T.Serialize.meaning c.args.value.now) c.in-Ok.len c.new-out.result c.send_message.new.out c.args.writer c.into_writer-in-Err-send_message.result c.in-Err-send_message.error
    c.in-Ok.ensures.ok c.new-out.ensures.0 c.new-out.ensures.1 c.into_writer-in-Err-send_message.ensures c.in-Err-send_message.ensures.sent)
