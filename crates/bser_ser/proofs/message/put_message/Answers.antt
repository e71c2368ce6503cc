use Rattle.std.proofs.lemmas.Result.{MatchResult-weaker, MatchResult-from_both, err_from_is_err_and}
use Rattle.std.proofs.Common.{rules, [], FitsSigned, w64}
use Rattle.std.proofs.lemmas.Int.{to_z-of_z}
use Rattle.bser_ser.specs.Message.{front_of, message_of}
use Rattle.bser_ser.proofs.Sends.{Sent-both, Refused-after}
use Rattle.bser_ser.proofs.Ends.{Stops-none}
use Rattle.bser_ser.proofs.Messages.{Ends-message, Stops-message}
use Rattle.bser_ser.proofs.message.put_message.Goals as goal

pub returns : goal.returns
returns g c =
    let fits : FitsSigned w64 c.args.len = search rules in
    let s = Sent-both g.met.W.Sink.took_both c.args.out.now c.expect.new.self c.put_header.new.self [] (front_of c.args.len) c.expect.ensures (simp to_z-of_z at c.in_ok-put_header.ensures.0) in
    MatchResult-weaker c.serialize.result (MatchResult-from_both c.serialize.result _ _ c.serialize.ensures.ok c.serialize.ensures.err)
    (λ _ t. Ends-message g.W.Sink g.met.W.Sink.took_both (g.T.Serialize.meaning c.args.value.now) c.args.len c.args.out.now c.put_header.new.self c.serialize.new.out c.requires s t)
    (λ e t. Stops-message g.W.Sink g.met.W.Sink.took_both (g.T.Serialize.meaning c.args.value.now) c.args.len c.args.out.now c.put_header.new.self c.serialize.new.out e c.requires s t)

pub returns-in_err-put_header : goal.returns-in_err-put_header
returns-in_err-put_header g c =
    let p = err_from_is_err_and c.from_residual.result c.from_residual.ensures.1 in
    let refused = Refused-after g.W.Sink g.met.W.Sink.took_both c.args.out.now c.expect.new.self c.put_header.new.self [] [] c.in_err-put_header.field-0.0 c.expect.ensures c.in_err-put_header.ensures.0 in
    rw (p.1, p.2) (Stops-none g.W.Sink (message_of (g.T.Serialize.meaning c.args.value.now)) c.args.out.now c.put_header.new.self c.in_err-put_header.field-0.0 refused c.in_err-put_header.ensures.1)
