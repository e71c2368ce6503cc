use Rattle.std.proofs.Common.{◌≡◌, ◌<◌, List, ℕ, map, Option, arith}
use Rattle.std.proofs.lemmas.Result.{err_from_is_err_and}
use Rattle.bser_deserializer.specs.Reading.{Needs}
use Rattle.bser_deserializer.specs.State.{State}
use Rattle.bser_deserializer.specs.declared.frames.MapHead.{MapHead}
use Rattle.bser_types.specs.Slots.{StructField, struct_needs}
use Rattle.bser_structs.specs.Askings.{AllAsked, all_asked}
use Rattle.bser_structs.proofs.Structs.{struct_start}
use Rattle.bser_deserializer.specs.Parts.{wanted_pairs, pairs_left}
use Rattle.bser_structs.proofs.Turns.{both_ok, both_err, object_over, object_step, object_refused, object_name_refused, struct_ended, struct_lacks}
use Rattle.bser_structs.proofs.entries.read_object.Goals as goal

pub loop-head-init : goal.loop-head-init
loop-head-init g c =
    let names : List (List ℕ) = map (λ r. r.now) c.args.names.now in
    let start : List StructField = g.F.Slots.fields in
    let tells : Option (AllAsked start) = all_asked start g.F.Slots.asks in
    record { row = c.requires; found = start; kept = c.empty-fields.ensures; at = λ o opens. struct_start names start tells o _ opens }

pub returns-in_err-field-clause-refused : goal.returns-in_err-field-clause-refused
returns-in_err-field-clause-refused g c =
    let names : List (List ℕ) = map (λ r. r.now) c.args.names.now in
    let start : List StructField = g.F.Slots.fields in
    let tells : Option (AllAsked start) = all_asked start g.F.Slots.asks in
    let needs : Needs = struct_needs g.F.Slots.needs in
    let i = c.loop-head.invariant in
    let h : MapHead = c.loop-head.head in
    let s : State = c.loop-head.from.state in
    let k : State = c.await_key.new.self.state in
    let z : State = c.read_name.new.from.state in
    let some : 0 < h.at = omega (arith, c.loop-head-test.true) in
    let p = err_from_is_err_and c.from_residual.result c.from_residual.ensures.1 in
    rw p.1 (λ o opens. object_name_refused names start tells needs c.read_name.new.from.refusal o z i.found h s k i.row some c.await_key.ensures (i.at o opens) c.in_err-field.ensures.refused)

pub returns-in_err-read_value-clause-refused : goal.returns-in_err-read_value-clause-refused
returns-in_err-read_value-clause-refused g c =
    let names : List (List ℕ) = map (λ r. r.now) c.args.names.now in
    let start : List StructField = g.F.Slots.fields in
    let tells : Option (AllAsked start) = all_asked start g.F.Slots.asks in
    let needs : Needs = struct_needs g.F.Slots.needs in
    let i = c.loop-head.invariant in
    let h : MapHead = c.loop-head.head in
    let s : State = c.loop-head.from.state in
    let k : State = c.await_key.new.self.state in
    let m : State = c.read_name.new.from.state in
    let q : State = c.await_node.new.self.state in
    let z : State = c.read_value.new.from.state in
    let some : 0 < h.at = omega (arith, c.loop-head-test.true) in
    let p = err_from_is_err_and c.from_residual-in_err-read_value.result c.from_residual-in_err-read_value.ensures.1 in
    rw p.1 (λ o opens. object_refused names start tells needs c.read_value.new.from.refusal o z i.found c.in_ok-field.field h s k m q i.row some c.await_key.ensures (i.at o opens) c.in_ok-field.ensures.found c.await_node.ensures (c.in_err-read_value.ensures.refused i.found i.kept))

pub loop-head-preserved : goal.loop-head-preserved
loop-head-preserved g c =
    let names : List (List ℕ) = map (λ r. r.now) c.args.names.now in
    let start : List StructField = g.F.Slots.fields in
    let tells : Option (AllAsked start) = all_asked start g.F.Slots.asks in
    let i = c.loop-head.invariant in
    let h : MapHead = c.loop-head.head in
    let s : State = c.loop-head.from.state in
    let k : State = c.await_key.new.self.state in
    let m : State = c.read_name.new.from.state in
    let q : State = c.await_node.new.self.state in
    let z : State = c.read_value.new.from.state in
    let some : 0 < h.at = omega (arith, c.loop-head-test.true) in
    let p = c.in_ok-read_value.ensures.found i.found i.kept in
    record {
      row = i.row;
      found = p.next;
      kept = p.kept;
      at = λ o opens. object_step names start tells o z i.found c.in_ok-field.field h s k m q (g.F.Slots.keeps c.read_value.new.fields) i.row some c.await_key.ensures (i.at o opens) c.in_ok-field.ensures.found c.await_node.ensures p;
    }

pub returns-clause-found : goal.returns-clause-found
returns-clause-found g c =
    let names : List (List ℕ) = map (λ r. r.now) c.args.names.now in
    let start : List StructField = g.F.Slots.fields in
    let tells : Option (AllAsked start) = all_asked start g.F.Slots.asks in
    let i = c.loop-head.invariant in
    let h : MapHead = c.loop-head.head in
    let s : State = c.loop-head.from.state in
    let z : State = c.finish.new.from.state in
    let over : pairs_left (wanted_pairs s.keys h.row h.at) ≡ 0 = object_over s.keys h.row h.at i.row c.loop-head-test.false in
    both_ok _ _ _ c.finish.result (λ v values closes o opens. struct_ended names start tells g.F.Slots.holds o z i.found h s v (i.at o opens) over closes (values i.found i.kept)) c.finish.ensures.values c.finish.ensures.closed

pub returns-clause-refused : goal.returns-clause-refused
returns-clause-refused g c =
    let names : List (List ℕ) = map (λ r. r.now) c.args.names.now in
    let start : List StructField = g.F.Slots.fields in
    let tells : Option (AllAsked start) = all_asked start g.F.Slots.asks in
    let needs : Needs = struct_needs g.F.Slots.needs in
    let i = c.loop-head.invariant in
    let h : MapHead = c.loop-head.head in
    let s : State = c.loop-head.from.state in
    let z : State = c.finish.new.from.state in
    let over : pairs_left (wanted_pairs s.keys h.row h.at) ≡ 0 = object_over s.keys h.row h.at i.row c.loop-head-test.false in
    both_err _ _ _ c.finish.result (λ absent by o opens. struct_lacks names start tells needs c.finish.new.from.refusal o z i.found h s (i.at o opens) over (absent i.found i.kept) by.reason by.state) c.finish.ensures.absent c.finish.ensures.refused
