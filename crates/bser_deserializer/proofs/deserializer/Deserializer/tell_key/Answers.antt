-- A key is told as a text where it is UTF-8, and else as bytes.
use Rattle.std.proofs.Common.{◌≡◌, ◌∙◌, true, false, refl, sym, ap}
use Rattle.std.proofs.lemmas.Result.{err_from_is_err_and}
use Rattle.bser_events.proofs.Outcomes.{both_ok}
use Rattle.bser_source.specs.Refs.{bytes_of}
use Rattle.bser_events.specs.Events as events
use Rattle.bser_events.specs.Places.{PlacedAs, AnyBytes, reading_at}
use Rattle.bser_events.proofs.Placings.{stands_by}
use Rattle.bser_deserializer.specs.State.{State}
use Rattle.bser_deserializer.proofs.Told.{any_key_refused, any_text_key, any_bytes_key}
use Rattle.bser_deserializer.proofs.deserializer.Deserializer.tell_key.Goals as goal

pub returns-in_err-bytes-clause-refused : goal.returns-in_err-bytes-clause-refused
returns-in_err-bytes-clause-refused g c =
    let s : State = c.args.self.now.state in
    let n : State = c.read_bytes.new.self.state in
    let p = err_from_is_err_and c.from_residual.result c.from_residual.ensures.1 in
    rw p.1 (any_key_refused _ s n c.requires c.in_err-bytes.ensures.refused)

pub returns-in-Some-clause-found : goal.returns-in-Some-clause-found
returns-in-Some-clause-found g c =
    let s : State = c.args.self.now.state in
    let m : State = c.read_bytes.new.self.state in
    let z : State = c.tell.new.self.state in
    let begun : c.taken-start.result ≡ reading_at s.source = c.taken-start.ensures ∙ ap (λ v. reading_at v.state.source) c.self.view_is in
    let same : c.in-Some.text.now ≡ bytes_of g.R.Lent.Lending.bytes c.in_ok-bytes.bytes = c.in-Some.ensures.0 ∙ c.get_ref.ensures in
    both_ok _ _ _ c.tell.result c.tell.ensures.ok c.tell.ensures.same
    (λ told kept. any_text_key (bytes_of g.R.Lent.Lending.bytes) (PlacedAs AnyBytes g.B.Builder.takes) s m z c.in_ok-bytes.bytes c.in-Some.text.now (s.source, c.args.builder.now) (z.source, c.tell.new.builder) c.requires
    c.in_ok-bytes.ensures.found same (rw c.in-Some.ensures.0 c.in-Some.ensures.1) kept (stands_by AnyBytes g.B.Builder.takes c.taken-start.result true (events.text c.in-Some.text.now) c.in_ok-bytes.ensures.found.text s.source m.source z.source _ _ c.in_ok-bytes.ensures.found.took begun refl tt (ap (λ (w : State). w.source) kept) told))

pub returns-in-None-clause-found : goal.returns-in-None-clause-found
returns-in-None-clause-found g c =
    let s : State = c.args.self.now.state in
    let m : State = c.read_bytes.new.self.state in
    let z : State = c.tell-in-None.new.self.state in
    let begun : c.taken-start.result ≡ reading_at s.source = c.taken-start.ensures ∙ ap (λ v. reading_at v.state.source) c.self.view_is in
    let same : c.get_ref-in-None.result.now ≡ c.get_ref.result.now = c.get_ref-in-None.ensures ∙ sym c.get_ref.ensures in
    both_ok _ _ _ c.tell-in-None.result c.tell-in-None.ensures.ok c.tell-in-None.ensures.same
    (λ told kept. any_bytes_key (bytes_of g.R.Lent.Lending.bytes) (PlacedAs AnyBytes g.B.Builder.takes) s m z c.in_ok-bytes.bytes c.get_ref-in-None.result.now (s.source, c.args.builder.now) (z.source, c.tell-in-None.new.builder) c.requires
    c.in_ok-bytes.ensures.found c.get_ref-in-None.ensures (rw same c.in-None.ensures) kept (stands_by AnyBytes g.B.Builder.takes c.taken-start.result false (events.bytes c.get_ref-in-None.result.now) c.in_ok-bytes.ensures.found.text s.source m.source z.source _ _ c.in_ok-bytes.ensures.found.took begun refl tt (ap (λ (w : State). w.source) kept) told))
