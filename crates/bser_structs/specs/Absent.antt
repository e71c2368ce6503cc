-- Which field of a struct is required and absent.
use Rattle.std.specs.Prelude.{◌≡◌, ℕ, zero, suc, List, [], ◌∷◌, Option, Some, None, Result, Ok, Err}
use Rattle.bser_types.specs.Slots.{StructField, field_at_end}

-- the answer, if there is one
abbrev pub ok_of : {A E : Type 0} → Result A E → Option A
ok_of (Ok v) = Some v
ok_of (Err e) = None

-- there is a field at this place, which is required and absent
abbrev pub LacksAt : ℕ → List StructField → Type 0
LacksAt place [] = ⊥
LacksAt zero (s ∷ ss) = field_at_end s ≡ None
LacksAt (suc place) (s ∷ ss) = LacksAt place ss
