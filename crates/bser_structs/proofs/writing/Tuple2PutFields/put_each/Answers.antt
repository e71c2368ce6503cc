use Rattle.std.proofs.lemmas.Result.{err_from_is_err_and, MatchResult-weaker}
use Rattle.bser_structs.proofs.WrittenEntries.{each_ends, first_stops, others_stop, each_writable}
use Rattle.bser_structs.proofs.writing.Tuple2PutFields.put_each.Goals as goal

pub returns-in_err-put-clause-err : goal.returns-in_err-put-clause-err
returns-in_err-put-clause-err g c =
    let same = err_from_is_err_and c.from_residual.result c.from_residual.ensures.1 in
    rw (same.1, same.2) (first_stops g.W.Sink g.met.W.Sink.took_both (g.A.PutField.entry c.args.self.now.0) (g.F.PutFields.entries c.args.self.now.1) c.args.out.now c.put.new.out c.in_err-put.field-0.0 c.in_err-put.ensures.err)

pub returns-clause-ok : goal.returns-clause-ok
returns-clause-ok g c =
    MatchResult-weaker c.put_each.result c.put_each.ensures.ok (λ _ t. each_ends g.W.Sink g.met.W.Sink.took_both (g.A.PutField.entry c.args.self.now.0) (g.F.PutFields.entries c.args.self.now.1) c.args.out.now c.put.new.out c.put_each.new.out c.in_ok-put.ensures.ok t) (λ _ t. t)

pub returns-clause-err : goal.returns-clause-err
returns-clause-err g c =
    MatchResult-weaker c.put_each.result c.put_each.ensures.err (λ _ t. t) (λ e t. others_stop g.W.Sink g.met.W.Sink.took_both (g.A.PutField.entry c.args.self.now.0) (g.F.PutFields.entries c.args.self.now.1) c.args.out.now c.put.new.out c.put_each.new.out e c.in_ok-put.ensures.ok t)

pub returns-clause-writable : goal.returns-clause-writable
returns-clause-writable g c =
    MatchResult-weaker c.put_each.result c.put_each.ensures.writable (λ _ t. each_writable (g.A.PutField.entry c.args.self.now.0) (g.F.PutFields.entries c.args.self.now.1) c.in_ok-put.ensures.writable t) (λ _ t. t)
