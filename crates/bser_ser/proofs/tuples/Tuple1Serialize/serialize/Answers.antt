use Rattle.std.proofs.Common.{rules, [], ◌∷◌, refl}
use Rattle.std.proofs.lemmas.Result.{MatchResult-weaker}
use Rattle.bser_format.specs.Written.{part_tree}
use Rattle.bser_ser.proofs.Texts.{ItemsPut, items_start, items_done, items_stop}
use Rattle.bser_ser.proofs.Writable.{tuple_writable}
use Rattle.bser_ser.proofs.tuples.Tuple1Serialize.serialize.Goals as goal

pub returns-clause-ok : goal.returns-clause-ok
returns-clause-ok g c =
    let start : ItemsPut g.W.Sink part_tree (g.A.Serialize.meaning c.args.self.now.0 ∷ []) (g.A.Serialize.meaning c.args.self.now.0 ∷ []) c.args.out.now c.put_seq.new.self = items_start refl c.in_ok-put_seq.ensures.put.0 in
    MatchResult-weaker c.serialize.result c.serialize.ensures.ok (λ _ t. items_done _ g.met.W.Sink.took_both start t) (λ _ t. t)

pub returns-clause-err : goal.returns-clause-err
returns-clause-err g c =
    let start : ItemsPut g.W.Sink part_tree (g.A.Serialize.meaning c.args.self.now.0 ∷ []) (g.A.Serialize.meaning c.args.self.now.0 ∷ []) c.args.out.now c.put_seq.new.self = items_start refl c.in_ok-put_seq.ensures.put.0 in
    MatchResult-weaker c.serialize.result c.serialize.ensures.err (λ _ t. t) (λ e t. items_stop _ _ g.met.W.Sink.took_both start refl t)

pub returns-clause-writable : goal.returns-clause-writable
returns-clause-writable g c =
    MatchResult-weaker c.serialize.result c.serialize.ensures.writable (λ _ w. tuple_writable (g.A.Serialize.meaning c.args.self.now.0 ∷ []) (search rules) (w, tt)) (λ _ t. t)
