use Rattle.std.proofs.Common.{◌≡◌, List, ℕ, true, length, map, Option}
use Rattle.std.proofs.lemmas.Bool.{not-false}
use Rattle.std.proofs.lemmas.Result.{err_from_is_err_and}
use Rattle.bser_deserializer.specs.Reading.{Needs}
use Rattle.bser_deserializer.specs.State.{State}
use Rattle.bser_deserializer.specs.declared.frames.MapHead.{MapHead}
use Rattle.bser_types.specs.Slots.{StructField, struct_needs}
use Rattle.bser_structs.specs.Askings.{AllAsked, all_asked}
use Rattle.bser_structs.specs.Rows.{AllInTurn}
use Rattle.bser_deserializer.specs.Parts.{wanted_pairs, pairs_left}
use Rattle.bser_structs.specs.Rows.{AnyField}
use Rattle.bser_structs.proofs.Structs.{struct_refused, struct_start}
use Rattle.bser_structs.proofs.Rows.{in_turn_read, in_turn_refused, rest_over, struct_turns, struct_turn_refused}
use Rattle.bser_structs.proofs.Turns.{both_ok, both_err, row_over, struct_ended, struct_lacks}
use Rattle.bser_structs.proofs.struct_reader.DeserializerReadsFieldsLent.read_fields.Goals as goal

pub returns-in_err-head-clause-refused : goal.returns-in_err-head-clause-refused
returns-in_err-head-clause-refused g c =
    let names : List (List ℕ) = map (λ r. r.now) c.args.names.now in
    let tells : Option (AllAsked g.F.Slots.fields) = all_asked g.F.Slots.fields g.F.Slots.asks in
    let o : State = c.args.self.now.state in
    let z : State = c.open_pairs.new.self.state in
    let p = err_from_is_err_and c.from_residual.result c.from_residual.ensures.1 in
    rw p.1 (struct_refused names g.F.Slots.fields tells (struct_needs g.F.Slots.needs) c.open_pairs.new.self.refusal o z c.in_err-head.ensures.refused)

pub returns-in_err-values-clause-refused : goal.returns-in_err-values-clause-refused
returns-in_err-values-clause-refused g c =
    let names : List (List ℕ) = map (λ r. r.now) c.args.names.now in
    let start : List StructField = g.F.Slots.fields in
    let tells : Option (AllAsked start) = all_asked start g.F.Slots.asks in
    let needs : Needs = struct_needs g.F.Slots.needs in
    let h : MapHead = c.in_ok-head.head in
    let row : h.row ≡ true = not-false h.row c.if-not-head.false in
    let o : State = c.args.self.now.state in
    let s : State = c.open_pairs.new.self.state in
    let z : State = c.read_in_turn.new.from.state in
    let keys : AllInTurn names (length start) 0 s = c.are_in_turn.ensures c.if-are_in_turn.true in
    let p = err_from_is_err_and c.from_residual-in_err-values.result c.from_residual-in_err-values.ensures.1 in
    rw p.1 (in_turn_refused names start tells needs c.read_in_turn.new.from.refusal o z h s row (c.in_ok-head.ensures.first row) c.in_ok-head.ensures.found (c.in_err-values.ensures.refused names 0 keys.0))

pub returns-then-are_in_turn-clause-found : goal.returns-then-are_in_turn-clause-found
returns-then-are_in_turn-clause-found g c =
    let names : List (List ℕ) = map (λ r. r.now) c.args.names.now in
    let start : List StructField = g.F.Slots.fields in
    let tells : Option (AllAsked start) = all_asked start g.F.Slots.asks in
    let h : MapHead = c.in_ok-head.head in
    let row : h.row ≡ true = not-false h.row c.if-not-head.false in
    let o : State = c.args.self.now.state in
    let s : State = c.open_pairs.new.self.state in
    let m : State = c.read_in_turn.new.from.state in
    let z : State = c.close_pairs.new.self.state in
    let keys : AllInTurn names (length start) 0 s = c.are_in_turn.ensures c.if-are_in_turn.true in
    in_turn_read names start tells g.F.Slots.holds o m z h s c.in_ok-values.values row (c.in_ok-head.ensures.first row) c.in_ok-head.ensures.found keys (c.in_ok-values.ensures.found names 0 keys.0) c.close_pairs.ensures

pub read_rest-requires : goal.read_rest-requires
read_rest-requires g c = (g.F.Slots.fields, c.empty.ensures)

pub returns-in_err-fields-clause-refused : goal.returns-in_err-fields-clause-refused
returns-in_err-fields-clause-refused g c =
    let names : List (List ℕ) = map (λ r. r.now) c.args.names.now in
    let start : List StructField = g.F.Slots.fields in
    let tells : Option (AllAsked start) = all_asked start g.F.Slots.asks in
    let needs : Needs = struct_needs g.F.Slots.needs in
    let h : MapHead = c.in_ok-head.head in
    let row : h.row ≡ true = not-false h.row c.if-not-head.false in
    let o : State = c.args.self.now.state in
    let s : State = c.open_pairs.new.self.state in
    let z : State = c.read_rest.new.from.state in
    let p = err_from_is_err_and c.from_residual-in_err-fields.result c.from_residual-in_err-fields.ensures.1 in
    rw p.1 (struct_turn_refused names start tells AnyField needs c.read_rest.new.from.refusal o z start h s row (struct_start names start tells o _ c.in_ok-head.ensures.found) (c.in_err-fields.ensures.refused start c.empty.ensures))

pub returns-clause-found : goal.returns-clause-found
returns-clause-found g c =
    let names : List (List ℕ) = map (λ r. r.now) c.args.names.now in
    let start : List StructField = g.F.Slots.fields in
    let tells : Option (AllAsked start) = all_asked start g.F.Slots.asks in
    let h : MapHead = c.in_ok-head.head in
    let row : h.row ≡ true = not-false h.row c.if-not-head.false in
    let o : State = c.args.self.now.state in
    let s : State = c.open_pairs.new.self.state in
    let q : State = c.read_rest.new.from.state in
    let F : List StructField → Type 0 = g.F.Slots.keeps c.in_ok-fields.fields in
    let z : State = c.finish.new.from.state in
    let r = c.in_ok-fields.ensures.found start c.empty.ensures in
    let over : pairs_left (wanted_pairs q.keys h.row r.0) ≡ 0 = row_over q.keys h.row r.0 row (rest_over names F start h.at s q r) in
    let k = struct_turns names start tells AnyField F o q start h s r.0 row (struct_start names start tells o _ c.in_ok-head.ensures.found) r.2 in
    both_ok _ _ _ c.finish.result
    (λ v values closes. struct_ended names start tells g.F.Slots.holds o z k.fields (record h { at = r.0 }) q v k.at over closes (values k.fields k.kept))
    c.finish.ensures.values c.finish.ensures.closed

pub returns-clause-refused : goal.returns-clause-refused
returns-clause-refused g c =
    let names : List (List ℕ) = map (λ r. r.now) c.args.names.now in
    let start : List StructField = g.F.Slots.fields in
    let tells : Option (AllAsked start) = all_asked start g.F.Slots.asks in
    let needs : Needs = struct_needs g.F.Slots.needs in
    let h : MapHead = c.in_ok-head.head in
    let row : h.row ≡ true = not-false h.row c.if-not-head.false in
    let o : State = c.args.self.now.state in
    let s : State = c.open_pairs.new.self.state in
    let q : State = c.read_rest.new.from.state in
    let F : List StructField → Type 0 = g.F.Slots.keeps c.in_ok-fields.fields in
    let z : State = c.finish.new.from.state in
    let r = c.in_ok-fields.ensures.found start c.empty.ensures in
    let over : pairs_left (wanted_pairs q.keys h.row r.0) ≡ 0 = row_over q.keys h.row r.0 row (rest_over names F start h.at s q r) in
    let k = struct_turns names start tells AnyField F o q start h s r.0 row (struct_start names start tells o _ c.in_ok-head.ensures.found) r.2 in
    both_err _ _ _ c.finish.result
    (λ absent by. struct_lacks names start tells needs c.finish.new.from.refusal o z k.fields (record h { at = r.0 }) q k.at over (absent k.fields k.kept) by.reason by.state)
    c.finish.ensures.absent c.finish.ensures.refused
