use Rattle.std.proofs.Common.{append-nil, ◌∙◌}
use Rattle.std.proofs.lemmas.Result.{IfErr-weaker}
use Rattle.bser_ser.proofs.serializer.Serializer.flush.Goals as goal

pub returns-clause-err : goal.returns-clause-err
returns-clause-err g c =
    IfErr-weaker c.send.result _ _ (λ e why. record {
      taken = c.send.ensures.sent.0;
      took_it = c.send.ensures.sent.1;
      grew = append-nil c.args.self.now.pending.items ∙ c.send.ensures.sent.2;
      why = rw (append-nil c.args.self.now.pending.items) why;
    }) c.send.ensures.err
