use Rattle.std.proofs.Common.{◌≡◌, ◌-◌, suc, arith}
use Rattle.bser_deserializer.specs.State.{State}
use Rattle.bser_deserializer.proofs.Openings.{if_ok, if_err}
use Rattle.bser_structs.specs.Askings.{all_asked}
use Rattle.bser_structs.proofs.Places.{read_first, read_later, first_refused, later_refused}
use Rattle.bser_structs.proofs.slots.Tuple2Slots.fill_at.Goals as goal

pub returns-then-place-eq0-clause-found : goal.returns-then-place-eq0-clause-found
returns-then-place-eq0-clause-found g c =
    if_ok _ _ c.fill.result (λ v. read_first (g.A.Slot.keeps c.args.self.now.0) (g.A.Slot.keeps c.fill.new.self) (g.F.Slots.keeps c.args.self.now.1) _ _ c.args.place c.if-place-eq0.true) c.fill.ensures.found

pub returns-then-place-eq0-clause-refused : goal.returns-then-place-eq0-clause-refused
returns-then-place-eq0-clause-refused g c =
    let o : State = c.args.from.now.state in
    let z : State = c.fill.new.from.state in
    if_err _ _ c.fill.result (first_refused g.A.Slot.field g.F.Slots.fields g.A.Slot.asks (all_asked g.F.Slots.fields g.F.Slots.asks) (g.A.Slot.keeps c.args.self.now.0) (g.F.Slots.keeps c.args.self.now.1) g.A.Slot.needs g.F.Slots.needs _ o z c.args.place c.if-place-eq0.true) c.fill.ensures.refused

pub returns-else-place-eq0-clause-found : goal.returns-else-place-eq0-clause-found
returns-else-place-eq0-clause-found g c =
    let later : c.args.place ≡ suc (c.args.place - 1) = omega (arith, c.if-place-eq0.false) in
    if_ok _ _ c.fill_at.result (λ v. read_later (g.A.Slot.keeps c.args.self.now.0) (g.F.Slots.keeps c.args.self.now.1) (g.F.Slots.keeps c.fill_at.new.self) _ _ c.args.place (c.args.place - 1) later) c.fill_at.ensures.found

pub returns-else-place-eq0-clause-refused : goal.returns-else-place-eq0-clause-refused
returns-else-place-eq0-clause-refused g c =
    let o : State = c.args.from.now.state in
    let z : State = c.fill_at.new.from.state in
    let later : c.args.place ≡ suc (c.args.place - 1) = omega (arith, c.if-place-eq0.false) in
    if_err _ _ c.fill_at.result (later_refused g.A.Slot.field g.F.Slots.fields g.A.Slot.asks (all_asked g.F.Slots.fields g.F.Slots.asks) (g.A.Slot.keeps c.args.self.now.0) (g.F.Slots.keeps c.args.self.now.1) g.A.Slot.needs g.F.Slots.needs _ o z c.args.place (c.args.place - 1) later) c.fill_at.ensures.refused
