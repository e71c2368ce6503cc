use Rattle.std.proofs.Common.{rules, List, ℕ, [], ◌∷◌, Result, Ok, codes, encode_utf8}
use Rattle.std.proofs.lemmas.Result.{err_from_is_err_and, MatchResult-weaker}
use Rattle.bser_format.specs.declared.errors.Error.{Error}
use Rattle.bser_format.specs.Tree.{Tree, text, bytes, null, integer}
use Rattle.bser_format.specs.Pieces.{tuple_variant_head, struct_variant_head}
use Rattle.bser_format.specs.Written.{part_tree, plain_bytes, tuple_tree, struct_tree, variant_tree, unsigned_tree}
use Rattle.bser_ser.proofs.Structs.{payload_ends, payload_stops, tuple_variant_text, struct_variant_text, walk_start, walk_more, walk_all, walk_stop, field_ends, field_stops_at_key, field_stops}
use Rattle.bser_ser.proofs.Texts.{item_text, entry_text}
use Rattle.bser_ser.proofs.Writable.{tuple_writable, struct_writable, variant_writable}
use Rattle.test_values.proofs.tests.writing.types.WrittenEnumSerialize.serialize.Goals as goal

pub returns-in_err-serialize-in-TestTuple-clause-err : goal.returns-in_err-serialize-in-TestTuple-clause-err
returns-in_err-serialize-in-TestTuple-clause-err g c =
    let same = err_from_is_err_and c.from_residual-in_err-serialize-in-TestTuple.result c.from_residual-in_err-serialize-in-TestTuple.ensures.1 in
    let parts : List (Result Tree Error) = Ok (integer c.in-TestTuple.first) ∷ unsigned_tree c.in-TestTuple.second ∷ [] in
    let name : List ℕ = codes "TestTuple" in
    let u = walk_start g.W.Sink g.met.W.Sink.took_both (tuple_variant_head name 2) (item_text part_tree) parts (variant_tree name (tuple_tree parts)) (tuple_variant_text name parts) c.args.out.now c.put_tuple_variant.new.self c.in_ok-put_tuple_variant-in-TestTuple.ensures.put.0 in
    rw (c.in-TestTuple.is, same.1, same.2) (walk_stop g.W.Sink g.met.W.Sink.took_both (tuple_variant_head name 2) (item_text part_tree) parts (variant_tree name (tuple_tree parts)) (tuple_variant_text name parts) c.serialize-in-TestTuple.new.out c.in_err-serialize-in-TestTuple.field-0.0 u c.in_err-serialize-in-TestTuple.ensures.err)

pub returns-in_ok-serialize-in-TestTuple-clause-ok : goal.returns-in_ok-serialize-in-TestTuple-clause-ok
returns-in_ok-serialize-in-TestTuple-clause-ok g c =
    let parts : List (Result Tree Error) = Ok (integer c.in-TestTuple.first) ∷ unsigned_tree c.in-TestTuple.second ∷ [] in
    let name : List ℕ = codes "TestTuple" in
    let u = walk_start g.W.Sink g.met.W.Sink.took_both (tuple_variant_head name 2) (item_text part_tree) parts (variant_tree name (tuple_tree parts)) (tuple_variant_text name parts) c.args.out.now c.put_tuple_variant.new.self c.in_ok-put_tuple_variant-in-TestTuple.ensures.put.0 in
    let v = walk_more g.W.Sink g.met.W.Sink.took_both (tuple_variant_head name 2) (item_text part_tree) parts (variant_tree name (tuple_tree parts)) (tuple_variant_text name parts) c.serialize-in-TestTuple.new.out u c.in_ok-serialize-in-TestTuple.ensures.ok in
    rw c.in-TestTuple.is (MatchResult-weaker c.serialize-in-TestTuple-2.result c.serialize-in-TestTuple-2.ensures.ok (λ _ t. walk_all g.W.Sink g.met.W.Sink.took_both (tuple_variant_head name 2) (item_text part_tree) parts (variant_tree name (tuple_tree parts)) (tuple_variant_text name parts) (walk_more g.W.Sink g.met.W.Sink.took_both (tuple_variant_head name 2) (item_text part_tree) parts (variant_tree name (tuple_tree parts)) (tuple_variant_text name parts) c.serialize-in-TestTuple-2.new.out v t)) (λ _ t. t))

pub returns-in_ok-serialize-in-TestTuple-clause-err : goal.returns-in_ok-serialize-in-TestTuple-clause-err
returns-in_ok-serialize-in-TestTuple-clause-err g c =
    let parts : List (Result Tree Error) = Ok (integer c.in-TestTuple.first) ∷ unsigned_tree c.in-TestTuple.second ∷ [] in
    let name : List ℕ = codes "TestTuple" in
    let u = walk_start g.W.Sink g.met.W.Sink.took_both (tuple_variant_head name 2) (item_text part_tree) parts (variant_tree name (tuple_tree parts)) (tuple_variant_text name parts) c.args.out.now c.put_tuple_variant.new.self c.in_ok-put_tuple_variant-in-TestTuple.ensures.put.0 in
    let v = walk_more g.W.Sink g.met.W.Sink.took_both (tuple_variant_head name 2) (item_text part_tree) parts (variant_tree name (tuple_tree parts)) (tuple_variant_text name parts) c.serialize-in-TestTuple.new.out u c.in_ok-serialize-in-TestTuple.ensures.ok in
    rw c.in-TestTuple.is (MatchResult-weaker c.serialize-in-TestTuple-2.result c.serialize-in-TestTuple-2.ensures.err (λ _ t. t) (λ e t. walk_stop g.W.Sink g.met.W.Sink.took_both (tuple_variant_head name 2) (item_text part_tree) parts (variant_tree name (tuple_tree parts)) (tuple_variant_text name parts) c.serialize-in-TestTuple-2.new.out e v t))

pub returns-in_ok-put_newtype_variant-in-TestNewtype-clause-ok : goal.returns-in_ok-put_newtype_variant-in-TestNewtype-clause-ok
returns-in_ok-put_newtype_variant-in-TestNewtype-clause-ok g c =
    let name : List ℕ = codes "TestNewtype" in
    let m : Result Tree Error = Ok (bytes c.in-TestNewtype.payload) in
    rw c.in-TestNewtype.is (MatchResult-weaker c.serialize.result c.serialize.ensures.ok (λ _ t. payload_ends g.W.Sink g.met.W.Sink.took_both name m c.args.out.now c.put_newtype_variant.new.self c.serialize.new.out c.in_ok-put_newtype_variant-in-TestNewtype.ensures.0 t) (λ _ t. t))

pub returns-in_ok-put_newtype_variant-in-TestNewtype-clause-err : goal.returns-in_ok-put_newtype_variant-in-TestNewtype-clause-err
returns-in_ok-put_newtype_variant-in-TestNewtype-clause-err g c =
    let name : List ℕ = codes "TestNewtype" in
    let m : Result Tree Error = Ok (bytes c.in-TestNewtype.payload) in
    rw c.in-TestNewtype.is (MatchResult-weaker c.serialize.result c.serialize.ensures.err (λ _ t. t) (λ e t. payload_stops g.W.Sink g.met.W.Sink.took_both name m c.args.out.now c.put_newtype_variant.new.self c.serialize.new.out e c.in_ok-put_newtype_variant-in-TestNewtype.ensures.0 t))

pub returns-in_err-put_key-in-TestStruct-clause-err : goal.returns-in_err-put_key-in-TestStruct-clause-err
returns-in_err-put_key-in-TestStruct-clause-err g c =
    let same = err_from_is_err_and c.from_residual-in_err-put_key-in-TestStruct.result c.from_residual-in_err-put_key-in-TestStruct.ensures.1 in
    let fields : List (List ℕ × Result Tree Error) = (codes "abc", Ok null) ∷ (codes "def", Ok (text (encode_utf8 c.in-TestStruct.def))) ∷ [] in
    let name : List ℕ = codes "TestStruct" in
    let u = walk_start g.W.Sink g.met.W.Sink.took_both (struct_variant_head name 2) (entry_text plain_bytes part_tree) fields (variant_tree name (struct_tree fields)) (struct_variant_text name fields) c.args.out.now c.put_struct_variant.new.self c.in_ok-put_struct_variant-in-TestStruct.ensures.put.0 in
    rw (c.in-TestStruct.is, same.1, same.2) (walk_stop g.W.Sink g.met.W.Sink.took_both (struct_variant_head name 2) (entry_text plain_bytes part_tree) fields (variant_tree name (struct_tree fields)) (struct_variant_text name fields) c.put_key.new.self c.in_err-put_key-in-TestStruct.field-0.0 u (field_stops_at_key g.W.Sink g.met.W.Sink.took_both (codes "abc") (Ok null) c.put_struct_variant.new.self c.put_key.new.self c.in_err-put_key-in-TestStruct.field-0.0 c.in_err-put_key-in-TestStruct.ensures.0 c.in_err-put_key-in-TestStruct.ensures.1))

pub returns-in_err-serialize-in-TestStruct-clause-err : goal.returns-in_err-serialize-in-TestStruct-clause-err
returns-in_err-serialize-in-TestStruct-clause-err g c =
    let same = err_from_is_err_and c.from_residual-in_err-serialize-in-TestStruct.result c.from_residual-in_err-serialize-in-TestStruct.ensures.1 in
    let fields : List (List ℕ × Result Tree Error) = (codes "abc", Ok null) ∷ (codes "def", Ok (text (encode_utf8 c.in-TestStruct.def))) ∷ [] in
    let name : List ℕ = codes "TestStruct" in
    let u = walk_start g.W.Sink g.met.W.Sink.took_both (struct_variant_head name 2) (entry_text plain_bytes part_tree) fields (variant_tree name (struct_tree fields)) (struct_variant_text name fields) c.args.out.now c.put_struct_variant.new.self c.in_ok-put_struct_variant-in-TestStruct.ensures.put.0 in
    rw (c.in-TestStruct.is, same.1, same.2) (walk_stop g.W.Sink g.met.W.Sink.took_both (struct_variant_head name 2) (entry_text plain_bytes part_tree) fields (variant_tree name (struct_tree fields)) (struct_variant_text name fields) c.serialize-in-TestStruct.new.out c.in_err-serialize-in-TestStruct.field-0.0 u (field_stops g.W.Sink g.met.W.Sink.took_both (codes "abc") (Ok null) c.put_struct_variant.new.self c.put_key.new.self c.serialize-in-TestStruct.new.out c.in_err-serialize-in-TestStruct.field-0.0 c.in_ok-put_key-in-TestStruct.ensures.0 c.in_err-serialize-in-TestStruct.ensures.err))

pub returns-in_err-put_key-in-TestStruct-2-clause-err : goal.returns-in_err-put_key-in-TestStruct-2-clause-err
returns-in_err-put_key-in-TestStruct-2-clause-err g c =
    let same = err_from_is_err_and c.from_residual-in_err-put_key-in-TestStruct-2.result c.from_residual-in_err-put_key-in-TestStruct-2.ensures.1 in
    let fields : List (List ℕ × Result Tree Error) = (codes "abc", Ok null) ∷ (codes "def", Ok (text (encode_utf8 c.in-TestStruct.def))) ∷ [] in
    let name : List ℕ = codes "TestStruct" in
    let u = walk_start g.W.Sink g.met.W.Sink.took_both (struct_variant_head name 2) (entry_text plain_bytes part_tree) fields (variant_tree name (struct_tree fields)) (struct_variant_text name fields) c.args.out.now c.put_struct_variant.new.self c.in_ok-put_struct_variant-in-TestStruct.ensures.put.0 in
    let v = walk_more g.W.Sink g.met.W.Sink.took_both (struct_variant_head name 2) (entry_text plain_bytes part_tree) fields (variant_tree name (struct_tree fields)) (struct_variant_text name fields) c.serialize-in-TestStruct.new.out u (field_ends g.W.Sink g.met.W.Sink.took_both (codes "abc") (Ok null) c.put_struct_variant.new.self c.put_key.new.self c.serialize-in-TestStruct.new.out c.in_ok-put_key-in-TestStruct.ensures.0 c.in_ok-serialize-in-TestStruct.ensures.ok) in
    rw (c.in-TestStruct.is, same.1, same.2) (walk_stop g.W.Sink g.met.W.Sink.took_both (struct_variant_head name 2) (entry_text plain_bytes part_tree) fields (variant_tree name (struct_tree fields)) (struct_variant_text name fields) c.put_key-in-TestStruct.new.self c.in_err-put_key-in-TestStruct-2.field-0.0 v (field_stops_at_key g.W.Sink g.met.W.Sink.took_both (codes "def") (Ok (text (encode_utf8 c.in-TestStruct.def))) c.serialize-in-TestStruct.new.out c.put_key-in-TestStruct.new.self c.in_err-put_key-in-TestStruct-2.field-0.0 c.in_err-put_key-in-TestStruct-2.ensures.0 c.in_err-put_key-in-TestStruct-2.ensures.1))

pub returns-in_ok-put_key-in-TestStruct-2-clause-ok : goal.returns-in_ok-put_key-in-TestStruct-2-clause-ok
returns-in_ok-put_key-in-TestStruct-2-clause-ok g c =
    let fields : List (List ℕ × Result Tree Error) = (codes "abc", Ok null) ∷ (codes "def", Ok (text (encode_utf8 c.in-TestStruct.def))) ∷ [] in
    let name : List ℕ = codes "TestStruct" in
    let u = walk_start g.W.Sink g.met.W.Sink.took_both (struct_variant_head name 2) (entry_text plain_bytes part_tree) fields (variant_tree name (struct_tree fields)) (struct_variant_text name fields) c.args.out.now c.put_struct_variant.new.self c.in_ok-put_struct_variant-in-TestStruct.ensures.put.0 in
    let v = walk_more g.W.Sink g.met.W.Sink.took_both (struct_variant_head name 2) (entry_text plain_bytes part_tree) fields (variant_tree name (struct_tree fields)) (struct_variant_text name fields) c.serialize-in-TestStruct.new.out u (field_ends g.W.Sink g.met.W.Sink.took_both (codes "abc") (Ok null) c.put_struct_variant.new.self c.put_key.new.self c.serialize-in-TestStruct.new.out c.in_ok-put_key-in-TestStruct.ensures.0 c.in_ok-serialize-in-TestStruct.ensures.ok) in
    rw c.in-TestStruct.is (MatchResult-weaker c.serialize-in-TestStruct-2.result c.serialize-in-TestStruct-2.ensures.ok (λ _ t. walk_all g.W.Sink g.met.W.Sink.took_both (struct_variant_head name 2) (entry_text plain_bytes part_tree) fields (variant_tree name (struct_tree fields)) (struct_variant_text name fields) (walk_more g.W.Sink g.met.W.Sink.took_both (struct_variant_head name 2) (entry_text plain_bytes part_tree) fields (variant_tree name (struct_tree fields)) (struct_variant_text name fields) c.serialize-in-TestStruct-2.new.out v (field_ends g.W.Sink g.met.W.Sink.took_both (codes "def") (Ok (text (encode_utf8 c.in-TestStruct.def))) c.serialize-in-TestStruct.new.out c.put_key-in-TestStruct.new.self c.serialize-in-TestStruct-2.new.out c.in_ok-put_key-in-TestStruct-2.ensures.0 t))) (λ _ t. t))

pub returns-in_ok-put_key-in-TestStruct-2-clause-err : goal.returns-in_ok-put_key-in-TestStruct-2-clause-err
returns-in_ok-put_key-in-TestStruct-2-clause-err g c =
    let fields : List (List ℕ × Result Tree Error) = (codes "abc", Ok null) ∷ (codes "def", Ok (text (encode_utf8 c.in-TestStruct.def))) ∷ [] in
    let name : List ℕ = codes "TestStruct" in
    let u = walk_start g.W.Sink g.met.W.Sink.took_both (struct_variant_head name 2) (entry_text plain_bytes part_tree) fields (variant_tree name (struct_tree fields)) (struct_variant_text name fields) c.args.out.now c.put_struct_variant.new.self c.in_ok-put_struct_variant-in-TestStruct.ensures.put.0 in
    let v = walk_more g.W.Sink g.met.W.Sink.took_both (struct_variant_head name 2) (entry_text plain_bytes part_tree) fields (variant_tree name (struct_tree fields)) (struct_variant_text name fields) c.serialize-in-TestStruct.new.out u (field_ends g.W.Sink g.met.W.Sink.took_both (codes "abc") (Ok null) c.put_struct_variant.new.self c.put_key.new.self c.serialize-in-TestStruct.new.out c.in_ok-put_key-in-TestStruct.ensures.0 c.in_ok-serialize-in-TestStruct.ensures.ok) in
    rw c.in-TestStruct.is (MatchResult-weaker c.serialize-in-TestStruct-2.result c.serialize-in-TestStruct-2.ensures.err (λ _ t. t) (λ e t. walk_stop g.W.Sink g.met.W.Sink.took_both (struct_variant_head name 2) (entry_text plain_bytes part_tree) fields (variant_tree name (struct_tree fields)) (struct_variant_text name fields) c.serialize-in-TestStruct-2.new.out e v (field_stops g.W.Sink g.met.W.Sink.took_both (codes "def") (Ok (text (encode_utf8 c.in-TestStruct.def))) c.serialize-in-TestStruct.new.out c.put_key-in-TestStruct.new.self c.serialize-in-TestStruct-2.new.out e c.in_ok-put_key-in-TestStruct-2.ensures.0 t)))

pub returns-in_ok-put_newtype_variant-in-TestNewtype-clause-writable : goal.returns-in_ok-put_newtype_variant-in-TestNewtype-clause-writable
returns-in_ok-put_newtype_variant-in-TestNewtype-clause-writable g c =
    let name : List ℕ = codes "TestNewtype" in
    rw c.in-TestNewtype.is (MatchResult-weaker c.serialize.result c.serialize.ensures.writable (λ _ w. variant_writable name (Ok (bytes c.in-TestNewtype.payload)) (search rules) w) (λ _ t. t))

pub returns-in_ok-serialize-in-TestTuple-clause-writable : goal.returns-in_ok-serialize-in-TestTuple-clause-writable
returns-in_ok-serialize-in-TestTuple-clause-writable g c =
    let parts : List (Result Tree Error) = Ok (integer c.in-TestTuple.first) ∷ unsigned_tree c.in-TestTuple.second ∷ [] in
    let name : List ℕ = codes "TestTuple" in
    rw c.in-TestTuple.is (MatchResult-weaker c.serialize-in-TestTuple-2.result c.serialize-in-TestTuple-2.ensures.writable
    (λ _ w. variant_writable name (tuple_tree parts) (search rules) (tuple_writable parts (search rules) (c.in_ok-serialize-in-TestTuple.ensures.writable, (w, tt)))) (λ _ t. t))

pub returns-in_ok-put_key-in-TestStruct-2-clause-writable : goal.returns-in_ok-put_key-in-TestStruct-2-clause-writable
returns-in_ok-put_key-in-TestStruct-2-clause-writable g c =
    let fields : List (List ℕ × Result Tree Error) = (codes "abc", Ok null) ∷ (codes "def", Ok (text (encode_utf8 c.in-TestStruct.def))) ∷ [] in
    let name : List ℕ = codes "TestStruct" in
    rw c.in-TestStruct.is (MatchResult-weaker c.serialize-in-TestStruct-2.result c.serialize-in-TestStruct-2.ensures.writable
    (λ _ w. variant_writable name (struct_tree fields) (search rules) (struct_writable fields (search rules) ((search rules, tt), ((search rules, w), tt)))) (λ _ t. t))
