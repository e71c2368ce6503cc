use Rattle.std.proofs.lemmas.Result.{MatchResult-weaker}
use Rattle.bser_structs.proofs.WrittenEntries.{tree_ends, tree_stops, tree_writable}
use Rattle.bser_structs.proofs.writing.put_fields.Goals as goal

pub returns-clause-ok : goal.returns-clause-ok
returns-clause-ok g c =
    MatchResult-weaker c.put_each.result c.put_each.ensures.ok (λ _ t. tree_ends g.W.Sink g.met.W.Sink.took_both (g.F.PutFields.entries c.args.fields.now) c.count.result c.count.ensures c.in_ok-put_map.ensures.counted c.args.out.now c.put_map.new.self c.put_each.new.out c.in_ok-put_map.ensures.put.0 t) (λ _ t. t)

pub returns-clause-err : goal.returns-clause-err
returns-clause-err g c =
    MatchResult-weaker c.put_each.result c.put_each.ensures.err (λ _ t. t) (λ e t. tree_stops g.W.Sink g.met.W.Sink.took_both (g.F.PutFields.entries c.args.fields.now) c.count.result c.count.ensures c.in_ok-put_map.ensures.counted c.args.out.now c.put_map.new.self c.put_each.new.out e c.in_ok-put_map.ensures.put.0 t)

pub returns-clause-writable : goal.returns-clause-writable
returns-clause-writable g c = MatchResult-weaker c.put_each.result c.put_each.ensures.writable (λ _ t. tree_writable (g.F.PutFields.entries c.args.fields.now) t) (λ _ t. t)
