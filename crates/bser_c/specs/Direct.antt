-- What is reported of bytes that are there whole, from one place to another.
use Rattle.std.specs.Prelude.{◌≡◌, ◌≤◌, ◌-◌, ℕ, List, [], ◌∷◌, length, take, drop}
use Rattle.bser_format.specs.Grammar.{Format}
use Rattle.bser_format.specs.Tree.{fields_of, rows_of}
use Rattle.bser_format.specs.Named.{Reader, reads, many, text_of, field_of, with_text_keys}
use Rattle.bser_format.specs.declared.errors.Kind.{Kind}
use Rattle.bser_events.specs.Events.{Event, events, key, key_events, part_events, field_events, row_events}
use Rattle.bser_events.specs.Found.{keys_at}
use Rattle.bser_events.specs.Places.{TakesIn}
use Rattle.bser_events.specs.declared.event.Place.{Place}

-- the bytes from one place to another
abbrev pub between : ℕ → ℕ → List ℕ → List ℕ
between at to bytes = take (to - at) (drop at bytes)

-- they are of the form F
pub record Stands (F : Format) (bytes : List ℕ) (at to : ℕ) : Type 0 where
  pub forwards : at ≤ to
  pub within : to ≤ length bytes
  pub spelled : F (between at to bytes)

-- r reads them, and the builder took the events of what they are, each at its place
pub record Tells {X B : Type 0} (takes : B → Event → Place → B → Type 0) (r : Reader X) (told_of : X → List Event) (bytes : List ℕ) (at to : ℕ) (before after : B) : Type 0 where
  pub forwards : at ≤ to
  pub within : to ≤ length bytes
  pub value : X
  pub read : r (drop at bytes) ≡ reads value (drop to bytes)
  pub told : TakesIn takes at (between at to bytes) before (told_of value) after

-- a value of at most so many levels
abbrev pub TellsValue : {B : Type 0} → (B → Event → Place → B → Type 0) → ℕ → List ℕ → ℕ → ℕ → B → B → Type 0
TellsValue takes levels bytes at to before after = Tells takes (with_text_keys levels) events bytes at to before after

-- a string, which has no level
abbrev pub TellsString : {B : Type 0} → (B → Event → Place → B → Type 0) → List ℕ → ℕ → ℕ → B → B → Type 0
TellsString takes bytes at to before after = (levels : ℕ) → TellsValue takes levels bytes at to before after

-- a key, of an object or of a template
abbrev pub TellsKey : {B : Type 0} → (B → Event → Place → B → Type 0) → List ℕ → ℕ → ℕ → B → B → Type 0
TellsKey takes bytes at to before after = (kind : Kind) → Tells takes (text_of kind) (λ s. key s ∷ []) bytes at to before after

-- so many keys of a template
abbrev pub TellsKeys : {B : Type 0} → (B → Event → Place → B → Type 0) → ℕ → List ℕ → ℕ → ℕ → B → B → Type 0
TellsKeys takes count bytes at to before after = Tells takes (keys_at count) key_events bytes at to before after

-- a field of a row
abbrev pub TellsField : {B : Type 0} → (B → Event → Place → B → Type 0) → ℕ → List ℕ → ℕ → ℕ → B → B → Type 0
TellsField takes levels bytes at to before after = Tells takes (field_of (with_text_keys levels)) part_events bytes at to before after

-- a row of so many fields
abbrev pub TellsRow : {B : Type 0} → (B → Event → Place → B → Type 0) → ℕ → ℕ → List ℕ → ℕ → ℕ → B → B → Type 0
TellsRow takes levels width bytes at to before after = Tells takes (many (field_of (with_text_keys levels)) width) (λ fs. field_events (fields_of fs)) bytes at to before after

-- so many rows
abbrev pub TellsRows : {B : Type 0} → (B → Event → Place → B → Type 0) → ℕ → ℕ → ℕ → List ℕ → ℕ → ℕ → B → B → Type 0
TellsRows takes levels width height bytes at to before after = Tells takes (many (many (field_of (with_text_keys levels)) width) height) (λ rs. row_events (rows_of rs)) bytes at to before after
