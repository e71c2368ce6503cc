-- Fields of a row that are read one after another.
use Rattle.std.specs.Prelude.{◌≡◌, ◌≤◌, ◌+◌, ℕ, zero, suc, true, List, ◌∷◌, length, Option}
use Rattle.std.specs.Str.{is_utf8}
use Rattle.bser_deserializer.specs.Reading.{Needs}
use Rattle.bser_format.specs.Expected.{field_due, name_due}
use Rattle.bser_format.specs.declared.errors.Error.{Error}
use Rattle.bser_deserializer.specs.Dues.{name_at}
use Rattle.bser_deserializer.specs.Fields.{field_of}
use Rattle.bser_deserializer.specs.State.{State, awaiting}
use Rattle.bser_deserializer.specs.declared.field.Field.{Field}
use Rattle.bser_deserializer.specs.declared.field.Field.TheVariants.{Known, Unknown}
use Rattle.bser_types.specs.Slots.{StructField, fill_field}
use Rattle.bser_structs.specs.Asked.{place_known}
use Rattle.bser_structs.specs.Askings.{AllAsked}
use Rattle.bser_structs.specs.FieldCalls.{MakesStep, RefusesStep, NamesFields, NamesKey}

-- the row's key at this place is the first of the names, and none of the others
pub record IsInTurn (names others : List (List ℕ)) (at : ℕ) (s : State) : Type 0 where
  pub name : List ℕ
  pub first : names ≡ name ∷ others
  pub due : name_at at s.keys ≡ name_due name
  pub utf8 : is_utf8 name ≡ true
  pub alone : field_of others name ≡ Unknown

-- so many of the row's keys from this place on are the names one after another, each of them once
abbrev pub KeysInTurn : List (List ℕ) → ℕ → ℕ → State → Type 0
KeysInTurn names zero at s = Unit {0}
KeysInTurn names (suc n) at s =
    (others : List (List ℕ)) × IsInTurn names others at s × KeysInTurn others n (at + 1) s

-- the row's keys from this place on are so many names one after another, and no key is left
abbrev pub AllInTurn : List (List ℕ) → ℕ → ℕ → State → Type 0
AllInTurn names n at s = KeysInTurn names n at s × (length s.keys ≡ at + n)

-- a field of the struct
abbrev pub IsKnown : Field → Type 0
IsKnown (Known place) = Unit {0}
IsKnown Unknown = ⊥

-- a field of the struct, or one that is passed over
abbrev pub AnyField : Field → Type 0
AnyField f = Unit {0}

-- so many fields of a row were read from this place on, and lead to what is kept
abbrev pub Turns : (Field → Type 0) → List (List ℕ) → ℕ → (List StructField → Type 0) → List StructField → ℕ → State → State → Type 0
Turns Q names zero keeps ss at old new = keeps ss × (new ≡ old)
Turns Q names (suc n) keeps ss at old new =
    (f : Field) × (mid : State) × Q f × NamesKey names at old f
    × MakesStep (λ b. fill_field b f) (λ next. Turns Q names n keeps next (at + 1) mid new) ss (awaiting field_due old) mid

-- so many were read, and the next gives an error
abbrev pub RefusesTurn : {all : List StructField} → (Field → Type 0) → List (List ℕ) → Needs → Option (AllAsked all) → Error → ℕ → List StructField → ℕ → State → State → Type 0
RefusesTurn Q names needs r e zero ss at old new =
    (f : Field) × Q f × NamesKey names at old f
    × RefusesStep (λ b. fill_field b f) needs (NamesFields needs r (place_known f) e ss (awaiting field_due old)) e ss (awaiting field_due old) new
RefusesTurn Q names needs r e (suc n) ss at old new =
    (f : Field) × (mid : State) × Q f × NamesKey names at old f
    × MakesStep (λ b. fill_field b f) (λ next. RefusesTurn Q names needs r e n next (at + 1) mid new) ss (awaiting field_due old) mid

-- the fields from one place up to another were read
pub record ReadsTurns (Q : Field → Type 0) (names : List (List ℕ)) (keeps : List StructField → Type 0) (ss : List StructField) (at end : ℕ) (old new : State) : Type 0 where
  pub count : ℕ
  pub ends : end ≡ at + count
  pub turns : Turns Q names count keeps ss at old new

-- a field at this place or later gives an error
pub record RefusesTurns {all : List StructField} (Q : Field → Type 0) (names : List (List ℕ)) (needs : Needs) (r : Option (AllAsked all)) (e : Error) (ss : List StructField) (at : ℕ) (old new : State) : Type 0 where
  pub count : ℕ
  pub turns : RefusesTurn Q names needs r e count ss at old new

-- all fields from this place on were read
abbrev pub ReadsRest : List (List ℕ) → (List StructField → Type 0) → List StructField → ℕ → State → State → Type 0
ReadsRest names keeps ss at old new =
    (end : ℕ) × (length old.keys ≤ end) × ReadsTurns AnyField names keeps ss at end old new
