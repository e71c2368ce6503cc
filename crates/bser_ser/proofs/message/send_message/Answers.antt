use Rattle.std.proofs.lemmas.Result.{err_from_is_err_and}
use Rattle.bser_format.specs.declared.errors.Error.TheVariants.{Io}
use Rattle.bser_ser.specs.Message.{message_of}
use Rattle.bser_ser.proofs.Ends.{Ends-flushed, Stops-flushed, ended_tied, stopped_tied}
use Rattle.bser_ser.proofs.message.send_message.Goals as goal

pub returns-in_err-flush-clause-sent : goal.returns-in_err-flush-clause-sent
returns-in_err-flush-clause-sent g c =
    let p = err_from_is_err_and c.from_residual-in_err-flush.result c.from_residual-in_err-flush.ensures.1 in
    rw (p.1, p.2) (Stops-flushed g.W.Sink g.met.W.Sink.took_both (message_of (g.T.Serialize.meaning c.args.value.now)) c.args.out.now c.put_message.new.out c.flush.new.self (Io c.in_err-flush.field-0.0)
    c.in_ok-put_message.ensures c.in_err-flush.ensures.err tt)

pub returns-in_err-flush-clause-tied : goal.returns-in_err-flush-clause-tied
returns-in_err-flush-clause-tied g c = stopped_tied g.W.Sink (message_of (g.T.Serialize.meaning c.args.value.now)) c.args.out.now c.flush.new.self (Io c.in_err-flush.field-0.0)
    (Stops-flushed g.W.Sink g.met.W.Sink.took_both (message_of (g.T.Serialize.meaning c.args.value.now)) c.args.out.now c.put_message.new.out c.flush.new.self (Io c.in_err-flush.field-0.0) c.in_ok-put_message.ensures c.in_err-flush.ensures.err tt)

pub returns-clause-sent : goal.returns-clause-sent
returns-clause-sent g c = (Ends-flushed g.W.Sink g.met.W.Sink.took_both (message_of (g.T.Serialize.meaning c.args.value.now)) c.args.out.now c.put_message.new.out c.flush.new.self c.in_ok-put_message.ensures c.in_ok-flush.ensures.ok, c.in_ok-flush.ensures.all)

pub returns-clause-tied : goal.returns-clause-tied
returns-clause-tied g c = ended_tied g.W.Sink (message_of (g.T.Serialize.meaning c.args.value.now)) c.args.out.now c.flush.new.self
    (Ends-flushed g.W.Sink g.met.W.Sink.took_both (message_of (g.T.Serialize.meaning c.args.value.now)) c.args.out.now c.put_message.new.out c.flush.new.self c.in_ok-put_message.ensures c.in_ok-flush.ensures.ok)
