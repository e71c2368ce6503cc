-- What the calls that read the fields of a struct answer.
use Rattle.std.specs.Prelude.{◌≡◌, ◌<◌, ◌-◌, ◌^◌, ℕ, List, length, Option, Some}
use Rattle.std.specs.Borrow.{Bor}
use Rattle.bser_format.specs.Tree.{Tree}
use Rattle.bser_format.specs.Content.{Content, Meaning}
use Rattle.bser_format.specs.ReadsScalars.{reads_string}
use Rattle.bser_deserializer.specs.Access.{OpensPairs, after_closing}
use Rattle.bser_deserializer.specs.Askings.{asking_string}
use Rattle.bser_deserializer.specs.Fields.{HoldsField, field_of}
use Rattle.bser_deserializer.specs.HoldsLists.{HoldsTuple}
use Rattle.bser_deserializer.specs.Reading.{Answers, Asking, Needs, Refuses, bare}
use Rattle.bser_deserializer.specs.Seen.{Seen}
use Rattle.bser_deserializer.specs.State.{State}
use Rattle.bser_deserializer.specs.View.{pairs_head}
use Rattle.bser_deserializer.specs.declared.field.Field.{Field}
use Rattle.bser_deserializer.specs.declared.field.Field.TheVariants.{Unknown}
use Rattle.bser_deserializer.specs.declared.frames.MapHead.{MapHead}
use Rattle.bser_types.specs.Accesses.{texts, RefusesDue}
use Rattle.bser_types.specs.Slots.{StructField, reads_struct, struct_needs, fill, fill_at, fill_field, FinishesField, FinishesEach}
use Rattle.bser_structs.specs.Absent.{LacksAt}
use Rattle.bser_structs.specs.Asked.{place_known}
use Rattle.bser_structs.specs.Askings.{FieldAskings, all_asked, asking_struct}
use Rattle.bser_structs.specs.FieldCalls.{MakesStep, NamesField, NamesFields, RefusesStep}
use Rattle.bser_structs.specs.Rows.{AllInTurn, AnyField, IsInTurn, IsKnown, KeysInTurn, ReadsRest, RefusesTurns, Turns}

-- the names of a struct's fields, as they are passed
abbrev pub Names : Type 0
Names = List (Bor (List ℕ))

-- ---- a struct

-- the object or row that is expected was read as fields of these names, and v holds what they do
abbrev pub ReadsFields : {A : Type 0} → Names → List StructField → (A → List (Content → Type 0)) → Seen → Seen → A → Type 0
ReadsFields names fields holds old new =
    Answers (reads_struct (texts names) fields) (λ v. HoldsTuple (holds v)) old.state new.state

-- what is expected gives an error, as the fields of these names say
abbrev pub RefusesFields : Names → (fields : List StructField) → FieldAskings fields → List Needs → Seen → Seen → Type 0
RefusesFields names fields asks needs old new =
    RefusesDue (reads_struct (texts names) fields) (asking_struct (texts names) fields asks) (struct_needs needs) old new

-- the object or row of this head was read so, from where it was opened
abbrev pub ReadsOpen : {A : Type 0} → Names → List StructField → (A → List (Content → Type 0)) → MapHead → Seen → Seen → A → Type 0
ReadsOpen names fields holds head old new v =
    (o : State) → OpensPairs o (pairs_head head old.state)
    → Answers (reads_struct (texts names) fields) (λ v. HoldsTuple (holds v)) o new.state v

-- it gives such an error, from where it was opened
abbrev pub RefusesOpen : Names → (fields : List StructField) → FieldAskings fields → List Needs → MapHead → Seen → Seen → Type 0
RefusesOpen names fields asks needs head old new =
    (o : State) → OpensPairs o (pairs_head head old.state)
    → Refuses (reads_struct (texts names) fields) (asking_struct (texts names) fields asks) (struct_needs needs) new.refusal o new.state

-- the object or row of this head was closed
abbrev pub Closes : MapHead → Seen → Seen → Type 0
Closes head old new = new.state ≡ after_closing head.levels head.opened old.state

-- ---- a name

-- the key that is expected was read, as its first place among these names
abbrev pub ReadsName : Names → Seen → Seen → Field → Type 0
ReadsName names old new = Answers reads_string (HoldsField (texts names)) old.state new.state

-- the key that is expected gives an error
abbrev pub RefusesName : Seen → Seen → Type 0
RefusesName = RefusesDue reads_string (Some asking_string) bare

-- the name is none of these
abbrev pub IsUnknown : Names → List ℕ → Type 0
IsUnknown names name = field_of (texts names) name ≡ Unknown

-- ---- a value

-- what is expected was read, and leads on from whatever the one variable keeps to what the other
-- does
abbrev pub Steps : {A B : Type 0} → (A → Tree → Option A) → (B → A → Type 0) → B → B → Seen → Seen → Type 0
Steps {A = A} step keeps before after old new = (a : A) → keeps before a → MakesStep step (keeps after) a old.state new.state

-- the field that is filled by its name, or by none
abbrev pub fill_by : Field → List StructField → Tree → Option (List StructField)
fill_by field fields t = fill_field fields field t

-- what is expected was read as this field, and v holds it
abbrev pub ReadsNew : {A : Type 0} → (A → Content → Type 0) → StructField → Seen → Seen → A → Type 0
ReadsNew holds s old new v = MakesStep fill (λ t. FinishesField holds t (Some v)) s old.state new.state

-- what is expected gives an error as this field
abbrev pub RefusesFill : {R : Meaning} → Option (Asking R) → Needs → StructField → Seen → Seen → Type 0
RefusesFill asks needs s old new =
    RefusesStep fill needs (NamesField needs asks new.refusal s old.state) new.refusal s old.state new.state

-- what is expected gives an error as whatever field is kept
abbrev pub RefusesKept : {R : Meaning} → Option (Asking R) → Needs → (StructField → Type 0) → Seen → Seen → Type 0
RefusesKept asks needs keeps old new = (s : StructField) → keeps s → RefusesFill asks needs s old new

-- what is expected gives an error as the field at this place, of whatever fields are kept
abbrev pub RefusesAt : ℕ → (fields : List StructField) → FieldAskings fields → List Needs → (List StructField → Type 0) → Seen → Seen → Type 0
RefusesAt place fields asks needs keeps old new =
    (ss : List StructField) → keeps ss
    → RefusesStep (fill_at place) (struct_needs needs) (NamesFields (struct_needs needs) (all_asked fields asks) (Some place) new.refusal ss old.state) new.refusal ss old.state new.state

-- what is expected gives an error as this field, or as none, of whatever fields are kept
abbrev pub RefusesBy : Field → (fields : List StructField) → FieldAskings fields → List Needs → (List StructField → Type 0) → Seen → Seen → Type 0
RefusesBy field fields asks needs keeps old new =
    (ss : List StructField) → keeps ss
    → RefusesStep (fill_by field) (struct_needs needs) (NamesFields (struct_needs needs) (all_asked fields asks) (place_known field) new.refusal ss old.state) new.refusal ss old.state new.state

-- ---- the values of a row

-- the row's fields from this place on were read, in any order
abbrev pub ReadsRow : {A : Type 0} → Names → (A → List StructField → Type 0) → A → ℕ → Seen → Seen → A → Type 0
ReadsRow names keeps before at old new after =
    (ss : List StructField) → keeps before ss → ReadsRest (texts names) (keeps after) ss at old.state new.state

-- one of them gives an error
abbrev pub RefusesRow : Names → (fields : List StructField) → FieldAskings fields → List Needs → (List StructField → Type 0) → ℕ → Seen → Seen → Type 0
RefusesRow names fields asks needs keeps at old new =
    (ss : List StructField) → keeps ss
    → RefusesTurns AnyField (texts names) (struct_needs needs) (all_asked fields asks) new.refusal ss at old.state new.state

-- the row's keys from this place on are these names one after another, each once, one for each field
abbrev pub AreInTurn : List StructField → Names → ℕ → Seen → Type 0
AreInTurn fields names place seen = AllInTurn (texts names) (length fields) place seen.state

-- the row's key at this place is the first of these names, and none of the others
abbrev pub IsNext : Names → ℕ → Seen → Bor Names → Type 0
IsNext names place seen others = IsInTurn (texts names) (texts others.now) place seen.state

-- where the row's keys are in turn, all its fields were read one after another, and v holds what they do
abbrev pub ReadsInTurn : {A : Type 0} → List StructField → (A → List (Content → Type 0)) → Seen → Seen → A → Type 0
ReadsInTurn fields holds old new v =
    (names : List (List ℕ)) → (place : ℕ) → KeysInTurn names (length fields) place old.state
    → Turns IsKnown names (length fields) (λ ss. FinishesEach holds ss (Some v)) fields place old.state new.state

-- where the row's keys are in turn, one of its fields gives an error
abbrev pub RefusesInTurn : (fields : List StructField) → FieldAskings fields → List Needs → Seen → Seen → Type 0
RefusesInTurn fields asks needs old new =
    (names : List (List ℕ)) → (place : ℕ) → KeysInTurn names (length fields) place old.state
    → RefusesTurns IsKnown names (struct_needs needs) (all_asked fields asks) new.refusal fields place old.state new.state

-- ---- the end

-- whatever field is kept ends as this value, or is required and absent
abbrev pub Ends : {A : Type 0} → (A → Content → Type 0) → (StructField → Type 0) → Option A → Type 0
Ends holds keeps v = (s : StructField) → keeps s → FinishesField holds s v

-- whatever fields are kept end as these values, or one of them is required and absent
abbrev pub EndAs : {A : Type 0} → (A → List (Content → Type 0)) → (List StructField → Type 0) → Option A → Type 0
EndAs holds keeps v = (ss : List StructField) → keeps ss → FinishesEach holds ss v

-- whatever fields are kept, the one at this place is required and absent, where a count holds the place
abbrev pub Lacks : (List StructField → Type 0) → ℕ → Type 0
Lacks keeps place = place < 2 ^ 64 - 1 → (ss : List StructField) → keeps ss → LacksAt place ss
