-- The value of a field that is expected, by which the fields that were read change.
use Rattle.std.specs.Prelude.{◌≡◌, ℕ, true, List, [], ◌∷◌, Option, Some, None}
use Rattle.std.specs.Str.{is_utf8}
use Rattle.bser_format.specs.Tree.{Tree}
use Rattle.bser_format.specs.Content.{Content, Meaning}
use Rattle.bser_format.specs.Expected.{Fills, name_due}
use Rattle.bser_format.specs.declared.errors.Error.{Error}
use Rattle.bser_format.specs.Asks.{value_at, value_by}
use Rattle.bser_format.specs.declared.errors.Complaint.{Complaint}
use Rattle.bser_format.specs.declared.errors.Complaint.TheVariants.{ItemsLeft}
use Rattle.bser_format.specs.Clauses.{after_a_refusal}
use Rattle.bser_format.specs.Named.{complain}
use Rattle.bser_source.specs.Window.{Took}
use Rattle.bser_deserializer.specs.Dues.{name_at}
use Rattle.bser_deserializer.specs.Fields.{field_of}
use Rattle.bser_deserializer.specs.Reading.{Answers, Asking, NamesBy, Refuses, RefusesFront, Needs}
use Rattle.bser_deserializer.specs.Seen.{Seen}
use Rattle.bser_deserializer.specs.State.{State, past, refused}
use Rattle.bser_deserializer.specs.declared.field.Field.{Field}
use Rattle.bser_types.specs.Slots.{StructField, FillsStep}
use Rattle.bser_structs.specs.Asked.{asked_field, asked_fields}
use Rattle.bser_structs.specs.Askings.{AllAsked}

-- ---- one value

-- what is expected gives this complaint, unless a call failed before
pub record Complains (complaint : Complaint) (old new : Seen) : Type 0 where
  pub reason : new.refusal ≡ after_a_refusal old.state.source.failed (complain complaint)
  pub state : new.state ≡ refused old.state

-- what is expected was read into a variable that had no value
pub record ReadsOnce {A : Type 0} (reads : Meaning) (holds : A → Content → Type 0) (before after : Option A) (old new : Seen) : Type 0 where
  pub none : before ≡ None
  pub value : A
  pub some : after ≡ Some value
  pub read : Answers reads holds old.state new.state value

-- what is expected gives an error, or there is a value already
abbrev pub RefusesOnce : {A : Type 0} → {reads : Meaning} → Option (Asking reads) → Needs → Option A → Seen → Seen → Type 0
RefusesOnce {reads = reads} asks needs None old new = Refuses reads asks needs new.refusal old.state new.state
RefusesOnce asks needs (Some v) old new = Complains ItemsLeft old new

-- ---- a step

-- by what was expected, which was taken, a step leads from a to what is kept
pub record MakesStep {A : Type 0} (step : A → Tree → Option A) (keeps : A → Type 0) (a : A) (old new : State) : Type 0 where
  pub tree : Tree
  pub next : A
  pub made : step a tree ≡ Some next
  pub kept : keeps next
  pub text : List ℕ
  pub filled : Fills old.levels old.due tree text
  pub took : Took old.source new.source text
  pub state : new ≡ past old new.source

-- what is expected gives an error: by no prefix of the bytes left the step leads on from a, or they
-- are not to blame; N says which error
abbrev pub RefusesStep : {A : Type 0} → (A → Tree → Option A) → Needs → Type 0 → Error → A → State → State → Type 0
RefusesStep step needs N e a old new =
    RefusesFront needs (FillsStep step a old) N e old.source new.source

-- ---- names

-- the error that a field gives of what is expected, where its type says one
abbrev pub NamesField : {R : Meaning} → Needs → Option (Asking R) → Error → StructField → State → Type 0
NamesField needs None e s p = Unit {0}
NamesField needs (Some a) e s p =
    NamesBy needs (value_at 0 (asked_field a.asks s ∷ []) p.opened p.levels p.due) e p.source

-- the same of the fields of which one is at this place, or of none of them, where all types tell
abbrev pub NamesFields : {all : List StructField} → Needs → Option (AllAsked all) → Option ℕ → Error → List StructField → State → Type 0
NamesFields needs None place e ss p = Unit {0}
NamesFields needs (Some r) place e ss p =
    NamesBy needs (value_by place (asked_fields r.asks ss) p.opened p.levels p.due) e p.source

-- the row's key at this place is the name of this field
pub record NamesKey (names : List (List ℕ)) (at : ℕ) (s : State) (f : Field) : Type 0 where
  pub name : List ℕ
  pub due : name_at at s.keys ≡ name_due name
  pub utf8 : is_utf8 name ≡ true
  pub found : f ≡ field_of names name
