-- Enums that are read: the name of a variant, and then its payload.
use Rattle.std.specs.Prelude.{◌≡◌, ℕ, pos, Bool, true, false, List, Option, Some, None, option_and_then, ◌⊎◌}
use Rattle.bser_format.specs.Grammar.{Format, ◌then◌}
use Rattle.bser_format.specs.Content.{Content, one, number, variant, Meaning}
use Rattle.bser_format.specs.Expected.{Due, node_due, field_due, WantedPairs}
use Rattle.bser_format.specs.ReadsScalars.{utf8_of, reads_unit}
use Rattle.bser_format.specs.declared.errors.Error.{Error}
use Rattle.bser_format.specs.Clauses.{after_a_refusal}
use Rattle.bser_format.specs.DueReaders.{wrong_type}
use Rattle.bser_deserializer.specs.Access.{OpenItems, OpensItems, RefusesItems, OpenPairs, OpensPairs, RefusesPairs, after_closing}
use Rattle.bser_deserializer.specs.Askings.{asking_unit}
use Rattle.bser_deserializer.specs.Fields.{field_of}
use Rattle.bser_deserializer.specs.Parts.{BeginsPairs, pairs_left, pair_key, pair_value}
use Rattle.bser_deserializer.specs.Reading.{Answers, Asking, Refuses, RefusesFront, FillsReadably, bare, Needs}
use Rattle.bser_deserializer.specs.State.{State, awaiting, refused}
use Rattle.bser_deserializer.specs.declared.field.Field.{Field}
use Rattle.bser_deserializer.specs.declared.field.Field.TheVariants.{Known, Unknown}
use Rattle.bser_structs.specs.VariantNames.{NamesVariant}

-- ---- names

abbrev pub known_place : Field → Option Content
known_place (Known place) = Some (number (pos place))
known_place Unknown = None

-- a text, or bytes that are UTF-8, read as its first place among the names
abbrev pub reads_place : List (List ℕ) → Meaning
reads_place names t = option_and_then (λ name. known_place (field_of names name)) (utf8_of t)

abbrev pub HoldsPlace : ℕ → Content → Type 0
HoldsPlace place c = c ≡ number (pos place)

-- the head of an object or a row with one entry, and the key of that entry, which is one of the
-- names
pub record BeginsEntry (names : List (List ℕ)) (s : State) (text : List ℕ) : Type 0 where
  pub wanted : WantedPairs
  pub single : pairs_left wanted ≡ 1
  pub spelled : (BeginsPairs s.levels s.due wanted then FillsReadably (reads_place names) (awaiting (pair_key wanted) s)) text

-- one of the names, as a string or as the key of the only entry
abbrev pub BeginsVariant : List (List ℕ) → State → Format
BeginsVariant names s text = FillsReadably (reads_place names) s text ⊎ BeginsEntry names s text

-- no variant of an enum of this name is read
abbrev pub RefusesVariant : List ℕ → List (List ℕ) → Error → State → State → Type 0
RefusesVariant name names e old new =
    RefusesFront bare (BeginsVariant names old) (NamesVariant name names e old) e old.source new.source

-- ---- a variant whose name was read

-- the only entry of an open object: what is expected as its value, and the levels and the number of
-- open containers outside
pub record OpenVariant : Type 0 where
  pub state : State
  pub payload : Due
  pub levels : ℕ
  pub opened : ℕ

-- a name alone, or an entry
pub data OpenEnum : Type 0 where
  name_alone : State → OpenEnum
  with_payload : OpenVariant → OpenEnum

-- the payload of an object's entry is a value, that of a row a field
abbrev pub payload_due : Bool → Due
payload_due false = node_due
payload_due true = field_due

-- the name at this place was read, in an object or a row of one entry
pub record OpensEntry (names : List (List ℕ)) (old : State) (new : OpenVariant) (place : ℕ) : Type 0 where
  pub inside : OpenPairs
  pub opens : OpensPairs old inside
  pub single : pairs_left inside.wanted ≡ 1
  pub key : Answers (reads_place names) HoldsPlace (awaiting (pair_key inside.wanted) inside.state) new.state place
  pub payload : new.payload ≡ pair_value inside.wanted
  pub levels : new.levels ≡ old.levels
  pub opened : new.opened ≡ old.opened

-- the name at this place was read
abbrev pub OpensVariant : List (List ℕ) → State → OpenEnum → ℕ → Type 0
OpensVariant names old (name_alone new) place = Answers (reads_place names) HoldsPlace old new place
OpensVariant names old (with_payload new) place = OpensEntry names old new place

-- ---- payloads

-- the state in which the payload is expected
abbrev pub before_payload : OpenVariant → State
before_payload u = awaiting u.payload u.state

-- the payload was read, and the object closed
pub record ReadsPayload {A : Type 0} (reads : Meaning) (holds : A → Content → Type 0) (old : OpenVariant) (new : State) (v : A) : Type 0 where
  pub inside : State
  pub answers : Answers reads holds (before_payload old) inside v
  pub state : new ≡ after_closing old.levels old.opened inside

-- a payload of this meaning was read; a name alone has none
abbrev pub IsPayload : {A : Type 0} → Meaning → (A → Content → Type 0) → OpenEnum → State → A → Type 0
IsPayload reads holds (name_alone old) new v = ⊥
IsPayload reads holds (with_payload old) new v = ReadsPayload reads holds old new v

-- the same of a unit variant, whose payload is null; a name alone needs none
abbrev pub IsUnitVariant : OpenEnum → State → Type 0
IsUnitVariant (name_alone old) new = new ≡ old
IsUnitVariant (with_payload old) new = ReadsPayload reads_unit (λ _ c. c ≡ one) old new (tt {0})

-- a name alone where a payload is wanted, or a call after an error
pub record LacksPayload (e : Error) (old new : State) : Type 0 where
  pub name : e ≡ after_a_refusal old.source.failed wrong_type
  pub state : new ≡ refused old

-- the payload gives an error, as its type says, or there is none
abbrev pub RefusesPayload : (reads : Meaning) → Option (Asking reads) → Needs → Error → OpenEnum → State → Type 0
RefusesPayload reads asks needs e (name_alone old) new = LacksPayload e old new
RefusesPayload reads asks needs e (with_payload old) new = Refuses reads asks needs e (before_payload old) new

-- the null that is the payload of a unit variant gives an error; a name alone does not
abbrev pub RefusesUnitVariant : Error → OpenEnum → State → Type 0
RefusesUnitVariant e (name_alone old) new = ⊥
RefusesUnitVariant e (with_payload old) new =
    Refuses reads_unit (Some asking_unit) bare e (before_payload old) new

-- ---- payloads that are read part by part

-- an access to a payload's items, which closes the variant's object too
pub record OpensPayloadItems (old : OpenVariant) (new : OpenItems) : Type 0 where
  pub inside : OpenItems
  pub opens : OpensItems (before_payload old) inside
  pub outside : new ≡ record inside { levels = old.levels; opened = old.opened }

-- the same of a payload's entries
pub record OpensPayloadPairs (old : OpenVariant) (new : OpenPairs) : Type 0 where
  pub inside : OpenPairs
  pub opens : OpensPairs (before_payload old) inside
  pub outside : new ≡ record inside { levels = old.levels; opened = old.opened }

abbrev pub IsTuplePayload : OpenEnum → OpenItems → Type 0
IsTuplePayload (name_alone old) new = ⊥
IsTuplePayload (with_payload old) new = OpensPayloadItems old new

abbrev pub IsStructPayload : OpenEnum → OpenPairs → Type 0
IsStructPayload (name_alone old) new = ⊥
IsStructPayload (with_payload old) new = OpensPayloadPairs old new

-- the payload is no array, or there is none
abbrev pub RefusesTuple : Error → OpenEnum → State → Type 0
RefusesTuple e (name_alone old) new = LacksPayload e old new
RefusesTuple e (with_payload old) new = RefusesItems e (before_payload old) new

-- the payload is no object, or there is none
abbrev pub RefusesStruct : Error → OpenEnum → State → Type 0
RefusesStruct e (name_alone old) new = LacksPayload e old new
RefusesStruct e (with_payload old) new = RefusesPairs e (before_payload old) new

-- a variant at this place, with such a payload
pub record HoldsVariant (place : ℕ) (holding : Content → Type 0) (c : Content) : Type 0 where
  pub payload : Content
  pub whole : c ≡ variant place payload
  pub held : holding payload
