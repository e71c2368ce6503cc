-- Events that are reported with their places.
use Rattle.std.specs.Prelude.{◌≡◌, ℕ, ◌+◌, ◌-◌, ◌^◌, ◌<◌, min, Bool, true, false, List, [], ◌∷◌, ◌++◌, length, ◌==◌}
use Rattle.std.specs.Int.{w64, to_le_bytes}
use Rattle.bser_format.specs.Grammar.{Format, Bytes, Given, Bool_tag, SpellsInteger, SpellsCount, SpellsBytes, SpellsText, SpellsKey}
use Rattle.bser_source.specs.Window.{Window, Took}
use Rattle.bser_bunser.specs.Tokens.{Headed}
use Rattle.bser_events.specs.Events as told
use Rattle.bser_events.specs.Events.{Event}
use Rattle.bser_events.specs.declared.event.Place.{Place}

-- so many bytes, as they are counted: at most the greatest usize
abbrev pub counted : ℕ → ℕ
counted n = min n (2 ^ 64 - 1)

-- how many bytes were taken, as they are counted
abbrev pub reading_at : Window → ℕ
reading_at w = counted w.count

-- the place from one count to another
abbrev pub place_at : ℕ → ℕ → Bool → Place
place_at start end is_text = record { start = start; end = end; is_text = is_text }

-- the bytes begin with the tag of a text
abbrev pub begins_as_text : List ℕ → Bool
begins_as_text [] = false
begins_as_text (tag ∷ rest) = tag == 0x0d

-- whether an event that has these bytes is a string or a key under the tag of a text
abbrev pub mark_of : Event → List ℕ → Bool
mark_of (told.text s) bytes = true
mark_of (told.key s) bytes = begins_as_text bytes
mark_of _ bytes = false

-- the bytes of an event: those of a scalar or a string, the head of a container, and none of its end
abbrev pub SpellsEvent : Event → Format
SpellsEvent told.null = Bytes (0x0a ∷ [])
SpellsEvent (told.boolean v) = Bytes (Bool_tag v ∷ [])
SpellsEvent (told.integer v) = SpellsInteger v
SpellsEvent (told.real r) = Given (r < 2 ^ 64) (Bytes (0x07 ∷ to_le_bytes w64 r))
SpellsEvent (told.bytes s) = SpellsBytes s
SpellsEvent (told.text s) = SpellsText s
SpellsEvent (told.open_array n) = Headed 0x00 (SpellsCount n)
SpellsEvent (told.open_object n) = Headed 0x01 (SpellsCount n)
SpellsEvent (told.key s) = SpellsKey s
SpellsEvent (told.open_template n) = Headed 0x0b (Headed 0x00 (SpellsCount n))
SpellsEvent (told.open_rows n) = SpellsCount n
SpellsEvent told.skip = Bytes (0x0c ∷ [])
SpellsEvent told.close = Bytes []

-- nothing is said of the bytes
abbrev pub AnyBytes : Event → Format
AnyBytes e bytes = Unit {0}

-- the bytes are the event's, and say whether it is a string or a key under the tag of a text
abbrev pub Marked : Bool → Event → List ℕ → Type 0
Marked is_text e text = (is_text ≡ mark_of e text) × SpellsEvent e text

-- of a builder, and what was read when the last event that it took ended: it took an event, which
-- has the bytes that were read since then, spelled so, and is at their place
pub record PlacedAs {B : Type 0} (spells : Event → Format) (takes : B → Event → Place → B → Type 0) (before : Window × B) (e : Event) (after : Window × B) : Type 0 where
  pub text : List ℕ
  pub took : Took before.0 after.0 text
  pub spelled : spells e text
  pub told : takes before.1 e (place_at (reading_at before.0) (reading_at after.0) (mark_of e text)) after.1

-- the same of the bytes of an event
abbrev pub Placed : {B : Type 0} → (B → Event → Place → B → Type 0) → Window × B → Event → Window × B → Type 0
Placed takes = PlacedAs SpellsEvent takes

-- the builder took these events one after the other, at their places: their bytes make up `text`,
-- the first one after `at` bytes, each right behind the one before it
pub data TakesIn {B : Type 0} (takes : B → Event → Place → B → Type 0) : ℕ → List ℕ → B → List Event → B → Type 0 where
  none : (at : ℕ) (b : B) → TakesIn takes at [] b [] b
  more : (at : ℕ) (text rest : List ℕ) (a b c : B) (e : Event) (es : List Event)
      → SpellsEvent e text → takes a e (place_at (counted at) (counted (at + length text)) (mark_of e text)) b
      → TakesIn takes (at + length text) rest b es c → TakesIn takes at (text ++ rest) a (e ∷ es) c
