-- What values of the types that are read hold.
use Rattle.std.specs.Prelude.{◌≡◌, ℕ, ℤ, pos, Bool, Option, Some, None}
use Rattle.std.specs.Global.{Box}
use Rattle.bser_format.specs.Content.{Content, one, truth, number, nothing, just}

-- a truth value
abbrev pub HoldsTruth : Bool → Content → Type 0
HoldsTruth v c = c ≡ truth v

-- a signed integer
abbrev pub HoldsNumber : ℤ → Content → Type 0
HoldsNumber v c = c ≡ number v

-- an unsigned integer
abbrev pub HoldsSize : ℕ → Content → Type 0
HoldsSize v c = c ≡ number (pos v)

-- `()`
abbrev pub HoldsOne : Unit {0} → Content → Type 0
HoldsOne v c = c ≡ one

-- what the value in the box holds
abbrev pub HoldsBox : {A : Type 0} → (A → Content → Type 0) → Box A → Content → Type 0
HoldsBox holds b c = holds b.value c

-- nothing, or what the value inside holds
abbrev pub HoldsOption : {A : Type 0} → (A → Content → Type 0) → Option A → Content → Type 0
HoldsOption holds None c = c ≡ nothing
HoldsOption holds (Some v) c = (inner : Content) × (c ≡ just inner) × holds v inner
