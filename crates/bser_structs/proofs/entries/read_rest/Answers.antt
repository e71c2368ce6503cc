use Rattle.std.proofs.Common.{◌≡◌, ◌≤◌, ◌∙◌, List, ℕ, length, map, Option, ap, arith}
use Rattle.std.proofs.lemmas.List.{length-map}
use Rattle.std.proofs.lemmas.Result.{err_from_is_err_and}
use Rattle.bser_deserializer.specs.Reading.{Needs}
use Rattle.bser_deserializer.specs.State.{State}
use Rattle.bser_types.specs.Slots.{struct_needs}
use Rattle.bser_structs.specs.Askings.{AllAsked, all_asked}
use Rattle.bser_structs.specs.Rows.{AnyField}
use Rattle.bser_structs.proofs.Rows.{no_turn, rest_step, rest_refused, rest_read}
use Rattle.bser_structs.proofs.entries.read_rest.Goals as goal

pub loop-place-init : goal.loop-place-init
loop-place-init g c =
    let names : List (List ℕ) = map (λ r. r.now) c.args.names.now in
    let s : State = c.args.from.now.state in
    record { some = c.requires; read = λ ss kept. no_turn AnyField names (g.F.Slots.keeps c.args.fields) ss c.args.at s kept }

pub loop-place-smaller : goal.loop-place-smaller
loop-place-smaller g c =
    let kept = g.R.Lent.Lending.kept in
    let s : State = c.loop-place.from.state in
    let q : State = c.await_field.new.self.state in
    let z : State = c.read_value.new.from.state in
    let i = c.loop-place.invariant.some in
    let m = c.in_ok-read_value.ensures.found i.0 i.1 in
    let same : z.keys ≡ s.keys = ap (λ (y : State). y.keys) m.state ∙ ap (λ (y : State). y.keys) c.await_field.ensures in
    let long : length z.keys ≡ length s.keys = ap length same in
    omega (arith, long, length-map c.keys_of.result.now.items kept, ap length c.keys_of.ensures, c.len.ensures, c.keys_of.result.now.ok, c.loop-place-test.true)

pub returns-in_err-read_value-clause-refused : goal.returns-in_err-read_value-clause-refused
returns-in_err-read_value-clause-refused g c =
    let names : List (List ℕ) = map (λ r. r.now) c.args.names.now in
    let tells : Option (AllAsked g.F.Slots.fields) = all_asked g.F.Slots.fields g.F.Slots.asks in
    let needs : Needs = struct_needs g.F.Slots.needs in
    let o : State = c.args.from.now.state in
    let s : State = c.loop-place.from.state in
    let q : State = c.await_field.new.self.state in
    let z : State = c.read_value.new.from.state in
    let p = err_from_is_err_and c.from_residual.result c.from_residual.ensures.1 in
    rw p.1 (λ ss kept. rest_refused names needs tells c.read_value.new.from.refusal (g.F.Slots.keeps c.loop-place.fields) c.row_field-field.result ss c.args.at c.loop-place.place o s q z (c.loop-place.invariant.read ss kept) c.row_field-field.ensures c.await_field.ensures c.in_err-read_value.ensures.refused)

pub loop-place-preserved : goal.loop-place-preserved
loop-place-preserved g c =
    let names : List (List ℕ) = map (λ r. r.now) c.args.names.now in
    let o : State = c.args.from.now.state in
    let s : State = c.loop-place.from.state in
    let q : State = c.await_field.new.self.state in
    let z : State = c.read_value.new.from.state in
    let i = c.loop-place.invariant.some in
    let m = c.in_ok-read_value.ensures.found i.0 i.1 in
    record {
      some = (m.next, m.kept);
      read = λ ss kept. rest_step names (g.F.Slots.keeps c.loop-place.fields) (g.F.Slots.keeps c.read_value.new.fields) c.row_field-field.result ss c.args.at c.loop-place.place o s q z (c.loop-place.invariant.read ss kept) c.row_field-field.ensures c.await_field.ensures c.in_ok-read_value.ensures.found;
    }

pub returns-clause-found : goal.returns-clause-found
returns-clause-found g c =
    let kept = g.R.Lent.Lending.kept in
    let names : List (List ℕ) = map (λ r. r.now) c.args.names.now in
    let o : State = c.args.from.now.state in
    let s : State = c.loop-place.from.state in
    let over : length s.keys ≤ c.loop-place.place = omega (arith, length-map c.keys_of.result.now.items kept, ap length c.keys_of.ensures, c.len.ensures, c.keys_of.result.now.ok, c.loop-place-test.false) in
    λ ss read. rest_read names (g.F.Slots.keeps c.loop-place.fields) ss c.args.at c.loop-place.place o s (c.loop-place.invariant.read ss read) over
