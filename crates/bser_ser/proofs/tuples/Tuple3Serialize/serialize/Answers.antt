use Rattle.std.proofs.Common.{rules, [], ◌∷◌, refl}
use Rattle.std.proofs.lemmas.Result.{err_from_is_err_and, MatchResult-weaker}
use Rattle.bser_format.specs.Written.{part_tree}
use Rattle.bser_ser.proofs.Texts.{ItemsPut, items_start, items_more, items_done, items_stop}
use Rattle.bser_ser.proofs.Writable.{tuple_writable}
use Rattle.bser_ser.proofs.tuples.Tuple3Serialize.serialize.Goals as goal

pub returns-in_err-serialize-clause-err : goal.returns-in_err-serialize-clause-err
returns-in_err-serialize-clause-err g c =
    let start : ItemsPut g.W.Sink part_tree (g.A.Serialize.meaning c.args.self.now.0 ∷ g.B.Serialize.meaning c.args.self.now.1 ∷ g.C.Serialize.meaning c.args.self.now.2 ∷ []) (g.A.Serialize.meaning c.args.self.now.0 ∷ g.B.Serialize.meaning c.args.self.now.1 ∷ g.C.Serialize.meaning c.args.self.now.2 ∷ []) c.args.out.now c.put_seq.new.self = items_start refl c.in_ok-put_seq.ensures.put.0 in
    let p = err_from_is_err_and c.from_residual-in_err-serialize.result c.from_residual-in_err-serialize.ensures.1 in
    rw (p.1, p.2) (items_stop _ _ g.met.W.Sink.took_both start refl c.in_err-serialize.ensures.err)

pub returns-in_err-serialize-2-clause-err : goal.returns-in_err-serialize-2-clause-err
returns-in_err-serialize-2-clause-err g c =
    let start : ItemsPut g.W.Sink part_tree (g.A.Serialize.meaning c.args.self.now.0 ∷ g.B.Serialize.meaning c.args.self.now.1 ∷ g.C.Serialize.meaning c.args.self.now.2 ∷ []) (g.A.Serialize.meaning c.args.self.now.0 ∷ g.B.Serialize.meaning c.args.self.now.1 ∷ g.C.Serialize.meaning c.args.self.now.2 ∷ []) c.args.out.now c.put_seq.new.self = items_start refl c.in_ok-put_seq.ensures.put.0 in
    let p = err_from_is_err_and c.from_residual-in_err-serialize-2.result c.from_residual-in_err-serialize-2.ensures.1 in
    rw (p.1, p.2) (items_stop _ _ g.met.W.Sink.took_both (items_more g.met.W.Sink.took_both start refl c.in_ok-serialize.ensures.ok c.in_ok-serialize.ensures.writable) refl c.in_err-serialize-2.ensures.err)

pub returns-clause-ok : goal.returns-clause-ok
returns-clause-ok g c =
    let start : ItemsPut g.W.Sink part_tree (g.A.Serialize.meaning c.args.self.now.0 ∷ g.B.Serialize.meaning c.args.self.now.1 ∷ g.C.Serialize.meaning c.args.self.now.2 ∷ []) (g.A.Serialize.meaning c.args.self.now.0 ∷ g.B.Serialize.meaning c.args.self.now.1 ∷ g.C.Serialize.meaning c.args.self.now.2 ∷ []) c.args.out.now c.put_seq.new.self = items_start refl c.in_ok-put_seq.ensures.put.0 in
    MatchResult-weaker c.serialize-3.result c.serialize-3.ensures.ok (λ _ t. items_done _ g.met.W.Sink.took_both (items_more g.met.W.Sink.took_both (items_more g.met.W.Sink.took_both start refl c.in_ok-serialize.ensures.ok c.in_ok-serialize.ensures.writable) refl c.in_ok-serialize-2.ensures.ok c.in_ok-serialize-2.ensures.writable) t) (λ _ t. t)

pub returns-clause-err : goal.returns-clause-err
returns-clause-err g c =
    let start : ItemsPut g.W.Sink part_tree (g.A.Serialize.meaning c.args.self.now.0 ∷ g.B.Serialize.meaning c.args.self.now.1 ∷ g.C.Serialize.meaning c.args.self.now.2 ∷ []) (g.A.Serialize.meaning c.args.self.now.0 ∷ g.B.Serialize.meaning c.args.self.now.1 ∷ g.C.Serialize.meaning c.args.self.now.2 ∷ []) c.args.out.now c.put_seq.new.self = items_start refl c.in_ok-put_seq.ensures.put.0 in
    MatchResult-weaker c.serialize-3.result c.serialize-3.ensures.err (λ _ t. t) (λ e t. items_stop _ _ g.met.W.Sink.took_both (items_more g.met.W.Sink.took_both (items_more g.met.W.Sink.took_both start refl c.in_ok-serialize.ensures.ok c.in_ok-serialize.ensures.writable) refl c.in_ok-serialize-2.ensures.ok c.in_ok-serialize-2.ensures.writable) refl t)

pub returns-clause-writable : goal.returns-clause-writable
returns-clause-writable g c =
    MatchResult-weaker c.serialize-3.result c.serialize-3.ensures.writable (λ _ w. tuple_writable (g.A.Serialize.meaning c.args.self.now.0 ∷ g.B.Serialize.meaning c.args.self.now.1 ∷ g.C.Serialize.meaning c.args.self.now.2 ∷ []) (search rules) (c.in_ok-serialize.ensures.writable, (c.in_ok-serialize-2.ensures.writable, (w, tt)))) (λ _ t. t)
