use Rattle.std.proofs.lemmas.Result.{MatchResult-weaker}
use Rattle.bser_ser.proofs.Structs.{field_ends, field_stops}
use Rattle.test_values.proofs.tests.writing.types.put_field.Goals as goal

pub returns-clause-ok : goal.returns-clause-ok
returns-clause-ok g c =
    MatchResult-weaker c.serialize.result c.serialize.ensures.ok (λ _ t. field_ends g.W.Sink g.met.W.Sink.took_both c.args.key.now (g.T.Serialize.meaning c.args.value.now) c.args.out.now c.put_key.new.self c.serialize.new.out c.in_ok-put_key.ensures.0 t) (λ _ t. t)

pub returns-clause-err : goal.returns-clause-err
returns-clause-err g c =
    MatchResult-weaker c.serialize.result c.serialize.ensures.err (λ _ t. t) (λ e t. field_stops g.W.Sink g.met.W.Sink.took_both c.args.key.now (g.T.Serialize.meaning c.args.value.now) c.args.out.now c.put_key.new.self c.serialize.new.out e c.in_ok-put_key.ensures.0 t)
