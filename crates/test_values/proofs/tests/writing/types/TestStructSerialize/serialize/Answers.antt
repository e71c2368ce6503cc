use Rattle.std.proofs.Common.{rules, List, ℕ, [], ◌∷◌, Result, Ok, codes}
use Rattle.std.proofs.lemmas.Result.{err_from_is_err_and, MatchResult-weaker}
use Rattle.bser_format.specs.declared.errors.Error.{Error}
use Rattle.bser_format.specs.Tree.{Tree, integer, real, text}
use Rattle.bser_format.specs.Pieces.{object_head}
use Rattle.bser_format.specs.Written.{part_tree, plain_bytes, array_tree, option_tree, tuple_tree, struct_tree}
use Rattle.bser_ser.proofs.Structs.{struct_text, walk_start, walk_more, walk_all, walk_stop}
use Rattle.bser_ser.proofs.Texts.{entry_text}
use Rattle.bser_ser.proofs.Writable.{struct_writable}
use Rattle.test_values.proofs.tests.writing.types.TestStructSerialize.serialize.Goals as goal

pub returns-in_err-put_field-clause-err : goal.returns-in_err-put_field-clause-err
returns-in_err-put_field-clause-err g c =
    let same = err_from_is_err_and c.from_residual-in_err-put_field.result c.from_residual-in_err-put_field.ensures.1 in
    let fields : List (List ℕ × Result Tree Error) = (codes "test_list", array_tree (λ n. Ok (integer n)) c.args.self.now.test_list.items) ∷ (codes "test_tuple", tuple_tree (Ok (text c.args.self.now.test_tuple.0.now) ∷ option_tree (λ r. Ok (real r.0)) c.args.self.now.test_tuple.1 ∷ [])) ∷ (codes "test_enum", g.E.Serialize.meaning c.args.self.now.test_enum) ∷ (codes "test_enum_list", array_tree g.E.Serialize.meaning c.args.self.now.test_enum_list.items) ∷ [] in
    let u = walk_start g.W.Sink g.met.W.Sink.took_both (object_head 4) (entry_text plain_bytes part_tree) fields (struct_tree fields) (struct_text fields) c.args.out.now c.put_map.new.self c.in_ok-put_map.ensures.put.0 in
    rw (same.1, same.2) (walk_stop g.W.Sink g.met.W.Sink.took_both (object_head 4) (entry_text plain_bytes part_tree) fields (struct_tree fields) (struct_text fields) c.put_field.new.out c.in_err-put_field.field-0.0 u c.in_err-put_field.ensures.err)

pub returns-in_err-put_field-2-clause-err : goal.returns-in_err-put_field-2-clause-err
returns-in_err-put_field-2-clause-err g c =
    let same = err_from_is_err_and c.from_residual-in_err-put_field-2.result c.from_residual-in_err-put_field-2.ensures.1 in
    let fields : List (List ℕ × Result Tree Error) = (codes "test_list", array_tree (λ n. Ok (integer n)) c.args.self.now.test_list.items) ∷ (codes "test_tuple", tuple_tree (Ok (text c.args.self.now.test_tuple.0.now) ∷ option_tree (λ r. Ok (real r.0)) c.args.self.now.test_tuple.1 ∷ [])) ∷ (codes "test_enum", g.E.Serialize.meaning c.args.self.now.test_enum) ∷ (codes "test_enum_list", array_tree g.E.Serialize.meaning c.args.self.now.test_enum_list.items) ∷ [] in
    let u = walk_start g.W.Sink g.met.W.Sink.took_both (object_head 4) (entry_text plain_bytes part_tree) fields (struct_tree fields) (struct_text fields) c.args.out.now c.put_map.new.self c.in_ok-put_map.ensures.put.0 in
    let v = walk_more g.W.Sink g.met.W.Sink.took_both (object_head 4) (entry_text plain_bytes part_tree) fields (struct_tree fields) (struct_text fields) c.put_field.new.out u c.in_ok-put_field.ensures.ok in
    rw (same.1, same.2) (walk_stop g.W.Sink g.met.W.Sink.took_both (object_head 4) (entry_text plain_bytes part_tree) fields (struct_tree fields) (struct_text fields) c.put_field-2.new.out c.in_err-put_field-2.field-0.0 v c.in_err-put_field-2.ensures.err)

pub returns-in_err-put_field-3-clause-err : goal.returns-in_err-put_field-3-clause-err
returns-in_err-put_field-3-clause-err g c =
    let same = err_from_is_err_and c.from_residual-in_err-put_field-3.result c.from_residual-in_err-put_field-3.ensures.1 in
    let fields : List (List ℕ × Result Tree Error) = (codes "test_list", array_tree (λ n. Ok (integer n)) c.args.self.now.test_list.items) ∷ (codes "test_tuple", tuple_tree (Ok (text c.args.self.now.test_tuple.0.now) ∷ option_tree (λ r. Ok (real r.0)) c.args.self.now.test_tuple.1 ∷ [])) ∷ (codes "test_enum", g.E.Serialize.meaning c.args.self.now.test_enum) ∷ (codes "test_enum_list", array_tree g.E.Serialize.meaning c.args.self.now.test_enum_list.items) ∷ [] in
    let u = walk_start g.W.Sink g.met.W.Sink.took_both (object_head 4) (entry_text plain_bytes part_tree) fields (struct_tree fields) (struct_text fields) c.args.out.now c.put_map.new.self c.in_ok-put_map.ensures.put.0 in
    let v = walk_more g.W.Sink g.met.W.Sink.took_both (object_head 4) (entry_text plain_bytes part_tree) fields (struct_tree fields) (struct_text fields) c.put_field.new.out u c.in_ok-put_field.ensures.ok in
    let w = walk_more g.W.Sink g.met.W.Sink.took_both (object_head 4) (entry_text plain_bytes part_tree) fields (struct_tree fields) (struct_text fields) c.put_field-2.new.out v c.in_ok-put_field-2.ensures.ok in
    rw (same.1, same.2) (walk_stop g.W.Sink g.met.W.Sink.took_both (object_head 4) (entry_text plain_bytes part_tree) fields (struct_tree fields) (struct_text fields) c.put_field-3.new.out c.in_err-put_field-3.field-0.0 w c.in_err-put_field-3.ensures.err)

pub returns-clause-ok : goal.returns-clause-ok
returns-clause-ok g c =
    let fields : List (List ℕ × Result Tree Error) = (codes "test_list", array_tree (λ n. Ok (integer n)) c.args.self.now.test_list.items) ∷ (codes "test_tuple", tuple_tree (Ok (text c.args.self.now.test_tuple.0.now) ∷ option_tree (λ r. Ok (real r.0)) c.args.self.now.test_tuple.1 ∷ [])) ∷ (codes "test_enum", g.E.Serialize.meaning c.args.self.now.test_enum) ∷ (codes "test_enum_list", array_tree g.E.Serialize.meaning c.args.self.now.test_enum_list.items) ∷ [] in
    let u = walk_start g.W.Sink g.met.W.Sink.took_both (object_head 4) (entry_text plain_bytes part_tree) fields (struct_tree fields) (struct_text fields) c.args.out.now c.put_map.new.self c.in_ok-put_map.ensures.put.0 in
    let v = walk_more g.W.Sink g.met.W.Sink.took_both (object_head 4) (entry_text plain_bytes part_tree) fields (struct_tree fields) (struct_text fields) c.put_field.new.out u c.in_ok-put_field.ensures.ok in
    let w = walk_more g.W.Sink g.met.W.Sink.took_both (object_head 4) (entry_text plain_bytes part_tree) fields (struct_tree fields) (struct_text fields) c.put_field-2.new.out v c.in_ok-put_field-2.ensures.ok in
    let x = walk_more g.W.Sink g.met.W.Sink.took_both (object_head 4) (entry_text plain_bytes part_tree) fields (struct_tree fields) (struct_text fields) c.put_field-3.new.out w c.in_ok-put_field-3.ensures.ok in
    MatchResult-weaker c.put_field-4.result c.put_field-4.ensures.ok (λ _ t. walk_all g.W.Sink g.met.W.Sink.took_both (object_head 4) (entry_text plain_bytes part_tree) fields (struct_tree fields) (struct_text fields) (walk_more g.W.Sink g.met.W.Sink.took_both (object_head 4) (entry_text plain_bytes part_tree) fields (struct_tree fields) (struct_text fields) c.put_field-4.new.out x t)) (λ _ t. t)

pub returns-clause-err : goal.returns-clause-err
returns-clause-err g c =
    let fields : List (List ℕ × Result Tree Error) = (codes "test_list", array_tree (λ n. Ok (integer n)) c.args.self.now.test_list.items) ∷ (codes "test_tuple", tuple_tree (Ok (text c.args.self.now.test_tuple.0.now) ∷ option_tree (λ r. Ok (real r.0)) c.args.self.now.test_tuple.1 ∷ [])) ∷ (codes "test_enum", g.E.Serialize.meaning c.args.self.now.test_enum) ∷ (codes "test_enum_list", array_tree g.E.Serialize.meaning c.args.self.now.test_enum_list.items) ∷ [] in
    let u = walk_start g.W.Sink g.met.W.Sink.took_both (object_head 4) (entry_text plain_bytes part_tree) fields (struct_tree fields) (struct_text fields) c.args.out.now c.put_map.new.self c.in_ok-put_map.ensures.put.0 in
    let v = walk_more g.W.Sink g.met.W.Sink.took_both (object_head 4) (entry_text plain_bytes part_tree) fields (struct_tree fields) (struct_text fields) c.put_field.new.out u c.in_ok-put_field.ensures.ok in
    let w = walk_more g.W.Sink g.met.W.Sink.took_both (object_head 4) (entry_text plain_bytes part_tree) fields (struct_tree fields) (struct_text fields) c.put_field-2.new.out v c.in_ok-put_field-2.ensures.ok in
    let x = walk_more g.W.Sink g.met.W.Sink.took_both (object_head 4) (entry_text plain_bytes part_tree) fields (struct_tree fields) (struct_text fields) c.put_field-3.new.out w c.in_ok-put_field-3.ensures.ok in
    MatchResult-weaker c.put_field-4.result c.put_field-4.ensures.err (λ _ t. t) (λ e t. walk_stop g.W.Sink g.met.W.Sink.took_both (object_head 4) (entry_text plain_bytes part_tree) fields (struct_tree fields) (struct_text fields) c.put_field-4.new.out e x t)

pub returns-clause-writable : goal.returns-clause-writable
returns-clause-writable g c =
    let fields : List (List ℕ × Result Tree Error) = (codes "test_list", array_tree (λ n. Ok (integer n)) c.args.self.now.test_list.items) ∷ (codes "test_tuple", tuple_tree (Ok (text c.args.self.now.test_tuple.0.now) ∷ option_tree (λ r. Ok (real r.0)) c.args.self.now.test_tuple.1 ∷ [])) ∷ (codes "test_enum", g.E.Serialize.meaning c.args.self.now.test_enum) ∷ (codes "test_enum_list", array_tree g.E.Serialize.meaning c.args.self.now.test_enum_list.items) ∷ [] in
    MatchResult-weaker c.put_field-4.result c.put_field-4.ensures.writable
    (λ _ w. struct_writable fields (search rules) ((search rules, c.in_ok-put_field.ensures.writable), ((search rules, c.in_ok-put_field-2.ensures.writable), ((search rules, c.in_ok-put_field-3.ensures.writable), ((search rules, w), tt))))) (λ _ t. t)
