-- A builder to which some events were reported, and then no more.
use Rattle.std.specs.Prelude.{◌≡◌, ◌⊎◌, ℕ, ◌+◌, List, ◌++◌, length, Option, Some, None}
use Rattle.bser_source.specs.Window.{Window, Took}
use Rattle.bser_bunser.specs.declared.prefix.Token.{Token}
use Rattle.bser_events.specs.Events.{Event}
use Rattle.bser_events.specs.Found.{From}
use Rattle.bser_events.specs.Places.{Placed, TakesIn, SpellsEvent, place_at, counted, reading_at, mark_of}
use Rattle.bser_events.specs.declared.builder.Stop.{Stop}
use Rattle.bser_events.specs.declared.builder.Stop.TheVariants.{Memory, Asked}
use Rattle.bser_events.specs.declared.event.Place.{Place}

-- it took no more at this event, for one of the reasons
abbrev pub Stops : {B : Type 0} → (Stop → B → Event → Place → B → Type 0) → B → Event → Place → B → Type 0
Stops stopped before e place after = (s : Stop) × stopped s before e place after

-- it took some events, each once and in order, at their places, and then went no further, or took no
-- more at the next one, which has the bytes that were read since then
pub data Cut {B : Type 0} (takes : B → Event → Place → B → Type 0) (stopped : Stop → B → Event → Place → B → Type 0) : Window × B → B → Type 0 where
  nowhere : (v : Window) (x : B) → Cut takes stopped (v, x) x
  at_event : (v w : Window) (x y : B) (e : Event) (text : List ℕ) → Took v w text → SpellsEvent e text
      → Stops stopped x e (place_at (reading_at v) (reading_at w) (mark_of e text)) y → Cut takes stopped (v, x) y
  past : (a b : Window × B) (e : Event) (y : B) → Placed takes a e b → Cut takes stopped b y → Cut takes stopped a y

-- from a start on, of which the bytes up to here were taken, and are this token
abbrev pub CutFrom : {B : Type 0} → (B → Event → Place → B → Type 0) → (Stop → B → Event → Place → B → Type 0) → ℕ → Token → Window → B → B → Type 0
CutFrom takes stopped start t here before after = From start t here (λ v. Cut takes stopped (v, before) after)

-- what is noted where it takes no more at this place: the place, where it wanted no more
abbrev pub noted : Stop → Place → Option Place → Option Place
noted Memory place before = before
noted Asked place before = Some place

-- ---- by the bytes

-- `at` bytes being before these, it took the events that they begin with, each at its place, and
-- took no more at the next one, which the rest of them spell, and is at this place
pub record StoppedIn {B : Type 0} (takes : B → Event → Place → B → Type 0) (stopped : Stop → B → Event → Place → B → Type 0) (why : Stop) (at : ℕ) (bytes : List ℕ) (before : B) (place : Place) (after : B) : Type 0 where
  pub took : List Event
  pub next : Event
  pub front : List ℕ
  pub own : List ℕ
  pub mid : B
  pub whole : bytes ≡ front ++ own
  pub spelled : SpellsEvent next own
  pub told : TakesIn takes at front before took mid
  pub stands : place ≡ place_at (counted (at + length front)) (counted (at + length bytes)) (mark_of next own)
  pub stops : stopped why mid next place after

-- it took the events that these bytes spell, and went no further
abbrev pub EndsIn : {B : Type 0} → (B → Event → Place → B → Type 0) → ℕ → List ℕ → B → B → Type 0
EndsIn takes at bytes before after = (es : List Event) × TakesIn takes at bytes before es after

-- it wanted no more at an event of this place, or it never asked to stop: it went no further, or had no
-- memory for the next event
abbrev pub CutIn : {B : Type 0} → (B → Event → Place → B → Type 0) → (Stop → B → Event → Place → B → Type 0) → ℕ → List ℕ → B → B → Option Place → Type 0
CutIn takes stopped at bytes before after (Some place) = StoppedIn takes stopped Asked at bytes before place after
CutIn takes stopped at bytes before after None =
    EndsIn takes at bytes before after ⊎ ((place : Place) × StoppedIn takes stopped Memory at bytes before place after)
