-- Pieces of a value that are at the start of some bytes: keys, scalars, strings and skips.
use Rattle.std.specs.Prelude.{◌≡◌, ◌⊎◌, ℕ, ◌≤◌, Bool, true, false, List, [], ◌∷◌, ◌++◌, length, take, IsUtf8}
use Rattle.bser_format.specs.declared.errors.Kind.TheVariants.{MapKey}
use Rattle.bser_format.specs.Named.{Reader, reads, text_of, field_of, with_text_keys}
use Rattle.bser_bunser.specs.declared.prefix.Token.{Token}
use Rattle.bser_bunser.specs.declared.prefix.Token.TheVariants as tokens
use Rattle.bser_events.specs.Events as told
use Rattle.bser_events.specs.Events.{Event, key, events, part_events}
use Rattle.bser_events.specs.declared.frame.Part.{Part}
use Rattle.bser_events.specs.declared.frame.Part.TheVariants.{Item, Entry, Field}

-- the first n bytes are what r reads, and of that this event is reported
pub record InFront {X : Type 0} (r : Reader X) (told_of : X → List Event) (bytes : List ℕ) (n : ℕ) (e : Event) : Type 0 where
  pub value : X
  pub within : n ≤ length bytes
  pub passes : (x : List ℕ) → r (take n bytes ++ x) ≡ reads value x
  pub one : told_of value ≡ e ∷ []

-- the first n bytes are what is expected, but for an entry its key alone, whatever levels are left
abbrev pub DueInFront : Part → List ℕ → ℕ → Event → Type 0
DueInFront Entry bytes n e = InFront (text_of MapKey) (λ s. key s ∷ []) bytes n e
DueInFront Item bytes n e = (levels : ℕ) → InFront (with_text_keys levels) events bytes n e
DueInFront Field bytes n e = (levels : ℕ) → InFront (field_of (with_text_keys levels)) part_events bytes n e

-- these are the first n bytes
pub record IsFirst (n : ℕ) (bytes s : List ℕ) : Type 0 where
  pub within : n ≤ length bytes
  pub first : s ≡ take n bytes

-- a scalar's event
abbrev pub IsScalar : Token → Event → Type 0
IsScalar tokens.Null e = e ≡ told.null
IsScalar (tokens.Bool v) e = e ≡ told.boolean v
IsScalar (tokens.Int v) e = e ≡ told.integer v
IsScalar (tokens.Real r) e = e ≡ told.real r
IsScalar _ e = ⊥

-- the token is no scalar
abbrev pub IsNoScalar : Token → Type 0
IsNoScalar t = (e : Event) → IsScalar t e → ⊥

-- the event of a scalar, or in a row of a skip, where this is expected
abbrev pub IsDueScalar : Part → Token → Event → Type 0
IsDueScalar Entry t e = ⊥
IsDueScalar Item t e = IsScalar t e
IsDueScalar Field t e = IsScalar t e ⊎ ((t ≡ tokens.Skip) × (e ≡ told.skip))

-- the event of a string, a text or not, where this is expected: a key is a text in any case
abbrev pub IsDueString : Part → Bool → List ℕ → Event → Type 0
IsDueString Entry b s e = IsUtf8 s × (e ≡ key s)
IsDueString _ true s e = IsUtf8 s × (e ≡ told.text s)
IsDueString _ false s e = e ≡ told.bytes s
