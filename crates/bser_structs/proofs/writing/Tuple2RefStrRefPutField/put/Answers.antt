use Rattle.std.proofs.lemmas.Result.{MatchResult-weaker}
use Rattle.bser_structs.proofs.WrittenEntries.{one_ends, one_stops}
use Rattle.bser_structs.proofs.writing.Tuple2RefStrRefPutField.put.Goals as goal

pub returns-in-Ok-clause-ok : goal.returns-in-Ok-clause-ok
returns-in-Ok-clause-ok g c =
    MatchResult-weaker c.serialize.result c.serialize.ensures.ok (λ _ t. one_ends g.W.Sink g.met.W.Sink.took_both c.args.self.now.0.now (g.T.Serialize.meaning c.args.self.now.1.now) c.args.out.now c.add_text_key.new.self c.serialize.new.out c.in-Ok.ensures.0 t) (λ _ t. t)

pub returns-in-Ok-clause-err : goal.returns-in-Ok-clause-err
returns-in-Ok-clause-err g c =
    MatchResult-weaker c.serialize.result c.serialize.ensures.err (λ _ t. t) (λ e t. one_stops g.W.Sink g.met.W.Sink.took_both c.args.self.now.0.now (g.T.Serialize.meaning c.args.self.now.1.now) c.args.out.now c.add_text_key.new.self c.serialize.new.out e c.in-Ok.ensures.0 t)
