use Rattle.std.proofs.Common.{List, length, Option, Some}
use Rattle.bser_deserializer.specs.State.{State}
use Rattle.bser_types.specs.Slots.{StructField, FinishesField, FinishesEach}
use Rattle.bser_structs.specs.Askings.{AllAsked, all_asked}
use Rattle.bser_structs.proofs.Places.{both_finished}
use Rattle.bser_structs.proofs.Rows.{turn_then, turn_refused, turn_then_refused}
use Rattle.bser_structs.proofs.slots.Tuple2Slots.read_in_turn.Goals as goal

pub returns-in-Err-clause-refused : goal.returns-in-Err-clause-refused
returns-in-Err-clause-refused g c =
    let rest : Option (AllAsked g.F.Slots.fields) = all_asked g.F.Slots.fields g.F.Slots.asks in
    let o : State = c.args.from.now.state in
    let q : State = c.await_field.new.self.state in
    let z : State = c.read.new.from.state in
    rw (c.note_field.ensures.reason, c.note_field.ensures.state) (turn_refused g.A.Slot.field g.F.Slots.fields g.A.Slot.asks rest g.A.Slot.needs g.F.Slots.needs c.read.new.from.refusal (length g.F.Slots.fields) o q z c.await_field.ensures c.in-Err.ensures.refused)

pub returns-in-Err-read_in_turn-clause-refused : goal.returns-in-Err-read_in_turn-clause-refused
returns-in-Err-read_in_turn-clause-refused g c =
    let rest : Option (AllAsked g.F.Slots.fields) = all_asked g.F.Slots.fields g.F.Slots.asks in
    let o : State = c.args.from.now.state in
    let q : State = c.await_field.new.self.state in
    let m : State = c.read.new.from.state in
    let z : State = c.read_in_turn.new.from.state in
    let P : StructField → Type 0 = λ s. FinishesField g.A.Slot.holds s (Some c.in-Ok.first) in
    turn_then_refused g.A.Slot.field g.F.Slots.fields g.A.Slot.asks rest P g.A.Slot.needs g.F.Slots.needs c.read_in_turn.new.from.refusal (length g.F.Slots.fields) o q m z c.await_field.ensures c.in-Ok.ensures.found c.in-Err-read_in_turn.ensures.refused

pub returns-in-Ok-read_in_turn-clause-found : goal.returns-in-Ok-read_in_turn-clause-found
returns-in-Ok-read_in_turn-clause-found g c =
    let o : State = c.args.from.now.state in
    let q : State = c.await_field.new.self.state in
    let m : State = c.read.new.from.state in
    let z : State = c.read_in_turn.new.from.state in
    let P : StructField → Type 0 = λ s. FinishesField g.A.Slot.holds s (Some c.in-Ok.first) in
    let F : List StructField → Type 0 = λ ss. FinishesEach g.F.Slots.holds ss (Some c.in-Ok-read_in_turn.others) in
    turn_then P F _ g.A.Slot.field g.F.Slots.fields (length g.F.Slots.fields) o q m z c.await_field.ensures c.in-Ok.ensures.found c.in-Ok-read_in_turn.ensures.found
    (both_finished P F g.A.Slot.holds g.F.Slots.holds c.in-Ok.first c.in-Ok-read_in_turn.others (λ s p. p) (λ ss p. p))
