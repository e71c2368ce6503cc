-- A row is told as the object of its keys and fields.
use Rattle.std.proofs.Common.{◌≡◌, ◌<◌, ◌∙◌, false, [], refl, sym, ap, subst, arith, length}
use Rattle.std.proofs.lemmas.List.{length-map}
use Rattle.std.proofs.lemmas.Result.{err_from_is_err_and}
use Rattle.bser_events.proofs.Outcomes.{both_ok, each_ok}
use Rattle.bser_format.specs.declared.errors.Error.{Error}
use Rattle.bser_format.specs.Named.{field_of, with_text_keys}
use Rattle.bser_bunser.specs.Refusal.{Fails}
use Rattle.bser_events.specs.Events as events
use Rattle.bser_events.specs.Places.{PlacedAs, AnyBytes, place_at, reading_at}
use Rattle.bser_events.proofs.Midways.{took_none}
use Rattle.bser_events.proofs.Placings.{stands_by}
use Rattle.bser_deserializer.specs.Calls.{Keeps}
use Rattle.bser_deserializer.specs.State.{State, past}
use Rattle.bser_deserializer.specs.Reading.{NamesBy, owned}
use Rattle.bser_deserializer.specs.Any.{TookField}
use Rattle.bser_deserializer.specs.Seen.{Seen}
use Rattle.bser_deserializer.specs.View.{seen_of}
use Rattle.bser_deserializer.proofs.Rows.{row_begins, row_goes_on, row_ends, next_refused}
use Rattle.bser_deserializer.proofs.deserializer.Deserializer.tell_row.Goals as goal

keeps_on : {a b c : Seen} → Keeps a b → Keeps b c → Keeps a c
keeps_on k h = record { refusal = h.refusal ∙ k.refusal; note = h.note ∙ k.note }

pub loop-place-init : goal.loop-place-init
loop-place-init g c =
    let s : State = (seen_of g.R.Lent.Lending.kept c.self.inside).state in
    let works = sym (rw (← c.self.view_is) at c.is_failed.ensures.value) ∙ c.if-is_failed.false in
    rw (← c.self.view_is)
    (record {
      row = row_begins (PlacedAs AnyBytes g.B.Builder.takes) (c.tell.new.self.state.source, c.tell.new.builder) s c.tell.new.self.state works c.in_ok-tell.ensures.same;
      kept = record { refusal = c.in_ok-tell.ensures.kept.refusal; note = c.in_ok-tell.ensures.kept.note };
    })

pub returns-in_err-tell_field-clause-refused : goal.returns-in_err-tell_field-clause-refused
returns-in_err-tell_field-clause-refused g c =
    let s : State = c.args.self.now.state in
    let m : State = c.loop-place.self.state in
    let z : State = c.tell_field.new.self.state in
    let p = err_from_is_err_and c.from_residual-in_err-tell_field.result c.from_residual-in_err-tell_field.ensures.1 in
    let inside : c.loop-place.place < length s.keys = omega (arith, c.loop-place-test.true, c.len-len.ensures, length-map c.self.inside.keys.items g.R.Lent.Lending.kept, ap (λ v. length v.state.keys) c.self.view_is) in
    let same : c.tell_name.new.self.state ≡ m = c.in_ok-tell_name.ensures.same in
    let e : Error = c.tell_field.new.self.refusal in
    rw p.1 (next_refused (PlacedAs AnyBytes g.B.Builder.takes) c.loop-place.place (c.tell.new.self.state.source, c.tell.new.builder) (m.source, c.loop-place.builder) e s m z c.loop-place.invariant.row inside
    (subst (λ (w : State). Fails e w.source z.source) same c.in_err-tell_field.ensures.err) (subst (λ (w : State). NamesBy owned (field_of (with_text_keys w.levels)) e w.source) same c.in_err-tell_field.ensures.names))

pub loop-place-preserved : goal.loop-place-preserved
loop-place-preserved g c =
    let s : State = c.args.self.now.state in
    let m : State = c.loop-place.self.state in
    let z : State = c.tell_field.new.self.state in
    let inside : c.loop-place.place < length s.keys = omega (arith, c.loop-place-test.true, c.len-len.ensures, length-map c.self.inside.keys.items g.R.Lent.Lending.kept, ap (λ v. length v.state.keys) c.self.view_is) in
    let same : c.tell_name.new.self.state ≡ m = c.in_ok-tell_name.ensures.same in
    record {
      row = row_goes_on (PlacedAs AnyBytes g.B.Builder.takes) c.loop-place.place (c.tell.new.self.state.source, c.tell.new.builder) (m.source, c.loop-place.builder) (c.tell_name.new.self.state.source, c.tell_name.new.builder) (z.source, c.tell_field.new.builder) s m z c.loop-place.invariant.row inside c.in_ok-tell_name.ensures.ok
          (subst (λ (w : State). TookField (PlacedAs AnyBytes g.B.Builder.takes) w.levels (c.tell_name.new.self.state.source, c.tell_name.new.builder) (z.source, c.tell_field.new.builder) w.source z.source) same c.in_ok-tell_field.ensures.found)
          (subst (λ (w : State). z ≡ past w z.source) same c.in_ok-tell_field.ensures.state);
      kept = keeps_on c.loop-place.invariant.kept (keeps_on c.in_ok-tell_name.ensures.kept c.in_ok-tell_field.ensures.kept);
    }

pub returns-clause-found : goal.returns-clause-found
returns-clause-found g c =
    let s : State = c.args.self.now.state in
    let m : State = c.loop-place.self.state in
    let z : State = c.tell-2.new.self.state in
    let count : c.len-len.result ≡ length s.keys = omega (arith, c.len-len.ensures, length-map c.self.inside.keys.items g.R.Lent.Lending.kept, ap (λ v. length v.state.keys) c.self.view_is) in
    let begun : c.taken-start.result ≡ reading_at s.source = c.taken-start.ensures ∙ ap (λ v. reading_at v.state.source) c.self.view_is in
    let ended : c.taken-end.result ≡ reading_at m.source = c.taken-end.ensures ∙ ap (λ v. reading_at v.state.source) c.self-2.view_is in
    let works : s.source.failed ≡ false = sym c.is_failed.ensures.value ∙ c.if-is_failed.false in
    let full : c.loop-place.place ≡ c.len-len.result = omega (arith, c.loop-place-test.false, c.loop-place.auto.place-end) in
    both_ok _ _ _ c.tell-2.result c.tell-2.ensures.ok c.tell-2.ensures.same
    (λ told same. row_ends (PlacedAs AnyBytes g.B.Builder.takes) c.loop-place.place c.len-len.result (s.source, c.args.builder.now) (c.tell.new.self.state.source, c.tell.new.builder) (m.source, c.loop-place.builder) (z.source, c.tell-2.new.builder) s m z full count c.loop-place.invariant.row
    (stands_by AnyBytes g.B.Builder.takes c.taken-start.result false (events.open_object c.len-len.result) [] s.source s.source c.tell.new.self.state.source c.args.builder.now c.tell.new.builder (took_none s.source works) begun refl tt
    (ap (λ (w : State). w.source) c.in_ok-tell.ensures.same ∙ ap (λ v. v.state.source) c.self.view_is)
    (subst (λ k. g.B.Builder.takes c.args.builder.now (events.open_object c.len-len.result) (place_at c.taken-start.result k false) c.tell.new.builder) (ap (λ v. reading_at v.state.source) c.self.view_is) c.in_ok-tell.ensures.ok))
    (stands_by AnyBytes g.B.Builder.takes c.taken-end.result false events.close [] m.source m.source z.source c.loop-place.builder c.tell-2.new.builder (took_none m.source c.loop-place.invariant.row.took.failed) ended refl tt (ap (λ (w : State). w.source) same) told)
    same)

pub returns-clause-kept : goal.returns-clause-kept
returns-clause-kept g c =
    each_ok _ _ c.tell-2.result c.tell-2.ensures.kept (λ k. keeps_on c.loop-place.invariant.kept k)
