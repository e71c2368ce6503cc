-- What is due is a value, a field, a row or a key.
use Rattle.std.proofs.Common.{◌≡◌, ◌∙◌, sym, ap, map, subst}
use Rattle.bser_events.proofs.Outcomes.{each_ok, both_ok, both_err}
use Rattle.bser_format.specs.Expected.{node_due, field_due, row_due}
use Rattle.std.specs.Prelude.{OnErr, Some}
use Rattle.bser_format.specs.ReadsAny.{reads_ignored}
use Rattle.bser_events.specs.Places.{Placed, PlacedAs, AnyBytes}
use Rattle.bser_deserializer.specs.Any.{IsKeyDue}
use Rattle.bser_deserializer.specs.Calls.{spells_due}
use Rattle.bser_deserializer.specs.Askings.{asking_ignored}
use Rattle.bser_deserializer.specs.Reading.{Refuses, owned}
use Rattle.bser_deserializer.specs.State.{State, awaiting}
use Rattle.bser_deserializer.specs.Dues.{due_of}
use Rattle.bser_deserializer.proofs.Told.{key_is, key_spells, no_value_due, told_as, any_value, any_value_refused, any_field, any_field_refused}
use Rattle.bser_deserializer.proofs.deserializer.Deserializer.read_any.Goals as goal

pub returns-in-Node-clause-found : goal.returns-in-Node-clause-found
returns-in-Node-clause-found g c =
    let s : State = c.args.self.now.state in
    let z : State = c.tell_value.new.self.state in
    let due : s.due ≡ node_due = sym (ap (λ v. v.state.due) c.self.view_is) ∙ ap (due_of (map g.R.Lent.Lending.kept c.self.inside.keys.items) c.self.inside.place) c.in-Node.is in
    both_ok _ _ _ c.tell_value.result c.tell_value.ensures.found c.tell_value.ensures.state
    (λ v same. told_as _ _ g.B.Builder.takes _ _ s z (ap spells_due (sym due)) (any_value (Placed g.B.Builder.takes) s z (s.source, c.args.builder.now) (z.source, c.tell_value.new.builder) due v same))

pub returns-in-Node-clause-refused : goal.returns-in-Node-clause-refused
returns-in-Node-clause-refused g c =
    let s : State = c.args.self.now.state in
    let z : State = c.tell_value.new.self.state in
    let due : s.due ≡ node_due = sym (ap (λ v. v.state.due) c.self.view_is) ∙ ap (due_of (map g.R.Lent.Lending.kept c.self.inside.keys.items) c.self.inside.place) c.in-Node.is in
    both_err _ _ _ c.tell_value.result c.tell_value.ensures.err c.tell_value.ensures.names
    (λ fails said. any_value_refused _ s z due fails said)

pub returns-in-Field-clause-found : goal.returns-in-Field-clause-found
returns-in-Field-clause-found g c =
    let s : State = c.args.self.now.state in
    let z : State = c.tell_field.new.self.state in
    let due : s.due ≡ field_due = sym (ap (λ v. v.state.due) c.self.view_is) ∙ ap (due_of (map g.R.Lent.Lending.kept c.self.inside.keys.items) c.self.inside.place) c.in-Field.is in
    both_ok _ _ _ c.tell_field.result c.tell_field.ensures.found c.tell_field.ensures.state
    (λ f same. told_as _ _ g.B.Builder.takes _ _ s z (ap spells_due (sym due)) (any_field (PlacedAs AnyBytes g.B.Builder.takes) s z (s.source, c.args.builder.now) (z.source, c.tell_field.new.builder) due f same))

pub returns-in-Field-clause-refused : goal.returns-in-Field-clause-refused
returns-in-Field-clause-refused g c =
    let s : State = c.args.self.now.state in
    let z : State = c.tell_field.new.self.state in
    let due : s.due ≡ field_due = sym (ap (λ v. v.state.due) c.self.view_is) ∙ ap (due_of (map g.R.Lent.Lending.kept c.self.inside.keys.items) c.self.inside.place) c.in-Field.is in
    both_err _ _ _ c.tell_field.result c.tell_field.ensures.err c.tell_field.ensures.names
    (λ fails said. any_field_refused _ s z due fails said)

pub tell_key-requires : goal.tell_key-requires
tell_key-requires g c =
    rw (← c.self.view_is)
    (key_is (map g.R.Lent.Lending.kept c.self.inside.keys.items) c.self.inside.place c.self.inside.due c.in-Nothing.is)

pub returns-in-Row-clause-refused : goal.returns-in-Row-clause-refused
returns-in-Row-clause-refused g c =
    let s : State = c.args.self.now.state in
    let ks = map g.R.Lent.Lending.kept c.self.inside.keys.items in
    let due : s.due ≡ row_due s.keys = sym (ap (λ v. v.state.due) c.self.view_is) ∙ ap (due_of ks c.self.inside.place) c.in-Row.is ∙ ap (λ v. row_due v.state.keys) c.self.view_is in
    let same : awaiting (row_due s.keys) s ≡ s = ap (λ d. awaiting d s) (sym due) in
    subst (λ z. OnErr c.tell_row.result (Refuses reads_ignored (Some asking_ignored) owned c.tell_row.new.self.refusal z c.tell_row.new.self.state)) same c.tell_row.ensures.refused

pub returns-clause-found : goal.returns-clause-found
returns-clause-found g c =
    let s : State = c.args.self.now.state in
    let z : State = c.tell_key.new.self.state in
    let is : IsKeyDue s.due = subst IsKeyDue (ap (λ v. v.state.due) c.self.view_is) (key_is (map g.R.Lent.Lending.kept c.self.inside.keys.items) c.self.inside.place c.self.inside.due c.in-Nothing.is) in
    each_ok _ _ c.tell_key.result c.tell_key.ensures.found (λ f. told_as AnyBytes (spells_due s.due) g.B.Builder.takes _ _ s z (key_spells s.due is) f)

pub returns-clause-cut : goal.returns-clause-cut
returns-clause-cut g c =
    let s : State = c.args.self.now.state in
    let is : IsKeyDue s.due = subst IsKeyDue (ap (λ v. v.state.due) c.self.view_is) (key_is (map g.R.Lent.Lending.kept c.self.inside.keys.items) c.self.inside.place c.self.inside.due c.in-Nothing.is) in
    no_value_due _ c.tell_key.result s.due is
