-- What the calls on an enum do, by what callers see of the deserializer before and after.
use Rattle.std.specs.Prelude.{◌≡◌, ℕ, List, Option, Some}
use Rattle.std.specs.Borrow.{Bor}
use Rattle.bser_format.specs.Content.{Content, Meaning, one}
use Rattle.bser_format.specs.ReadsScalars.{reads_string, reads_unit}
use Rattle.bser_format.specs.declared.errors.Error.{Error}
use Rattle.bser_format.specs.declared.errors.Error.TheVariants.{DeInvalidStartByte, DeRecursionLimitExceeded}
use Rattle.bser_format.specs.declared.errors.Kind.TheVariants as kind
use Rattle.bser_format.specs.declared.errors.name.EnumName.{EnumName}
use Rattle.bser_format.specs.DueReaders.{variant_of_row}
use Rattle.bser_bunser.specs.Refusal.{Fails}
use Rattle.bser_deserializer.specs.Askings.{asking_unit}
use Rattle.bser_deserializer.specs.Fields.{HoldsField}
use Rattle.bser_deserializer.specs.Parts.{pairs_left, pair_key}
use Rattle.bser_deserializer.specs.Reading.{Answers, Asking, Needs, NamesBy, Refuses, bare}
use Rattle.bser_deserializer.specs.Seen.{Seen}
use Rattle.bser_deserializer.specs.State.{State, awaiting}
use Rattle.bser_deserializer.specs.View.{items_head, pairs_head}
use Rattle.bser_deserializer.specs.declared.field.Field.{Field}
use Rattle.bser_deserializer.specs.declared.frames.MapHead.{MapHead}
use Rattle.bser_deserializer.specs.declared.frames.SeqHead.{SeqHead}
use Rattle.bser_types.specs.Accesses.{texts, open_items, open_pairs}
use Rattle.bser_types.specs.declared.seq.SeqAccess.{SeqAccess}
use Rattle.bser_types.specs.declared.map.MapAccess.{MapAccess}
use Rattle.bser_structs.specs.EnumAccess.{variant_head, enum_head, unit_state, open_variant, open_enum, place_of, open_form, place_in}
use Rattle.bser_structs.specs.VariantNames.{KeepsName, NamesVariant, place_due, only_place}
use Rattle.bser_structs.specs.ReadVariants.{HoldsPlace, IsPayload, IsStructPayload, IsTuplePayload, IsUnitVariant, LacksPayload, OpensEntry, OpensPayloadItems, OpensPayloadPairs, OpensVariant, ReadsPayload, RefusesPayload, RefusesStruct, RefusesTuple, RefusesUnitVariant, RefusesVariant, before_payload, reads_place}
use Rattle.bser_structs.specs.declared.enum_access.EnumAccess.{EnumAccess}
use Rattle.bser_structs.specs.declared.variant_access.EnumForm.{EnumForm}
use Rattle.bser_structs.specs.declared.variant_access.UnitVariantAccess.{UnitVariantAccess}
use Rattle.bser_structs.specs.declared.variant_access.VariantAccess.{VariantAccess}

-- what holds after any error
abbrev pub HasFailed : Seen → Seen → Type 0
HasFailed old new = Fails new.refusal old.state.source new.state.source

-- ---- the head of an object or row of one entry

-- how many entries are left in it
abbrev pub entries_left : MapHead → Seen → ℕ
entries_left h s = pairs_left (pairs_head h s.state).wanted

-- the same state, and its first key is expected
abbrev pub awaiting_first_key : MapHead → Seen → State
awaiting_first_key h s = awaiting (pair_key (pairs_head h s.state).wanted) s.state

-- ---- names

module _ (variants : List (Bor (List ℕ))) where
  -- the name that is expected was read, as its first place among the variants
  abbrev pub Finds : Seen → Seen → ℕ → Type 0
  Finds old new = Answers (reads_place (texts variants)) HoldsPlace old.state new.state

  -- the name that is expected was read, and its place among the variants, if it has one
  abbrev pub FindsField : Seen → Seen → Field → Type 0
  FindsField old new = Answers reads_string (HoldsField (texts variants)) old.state new.state

  -- the name that is expected is no text, or none of the variants
  abbrev pub Misses : Seen → Seen → Type 0
  Misses old new = NamesBy bare (place_due old.state.opened (texts variants) old.state.due) new.refusal old.state.source

  -- the only key of the object or row was read, as its first place among the variants
  abbrev pub FindsKey : MapHead → Seen → Seen → ℕ → Type 0
  FindsKey h old new = Answers (reads_place (texts variants)) HoldsPlace (awaiting_first_key h old) new.state

  -- there is no only key, or it is none of the variants
  abbrev pub MissesKey : MapHead → Seen → Seen → Type 0
  MissesKey h old new = NamesBy bare (only_place (texts variants) (pairs_head h old.state).wanted) new.refusal old.state.source

  -- ---- variants

  -- a variant's name was read: its place, and the head of its object or row, unless it is alone
  abbrev pub Opens : Seen → Seen → ℕ × Option MapHead → Type 0
  Opens old new p = OpensVariant (texts variants) old.state (enum_head p.1 new.state) p.0

  -- the same in an object or row
  abbrev pub Enters : Seen → Seen → ℕ × MapHead → Type 0
  Enters old new p = OpensEntry (texts variants) old.state (variant_head p.1 new.state) p.0

  -- the same, as an access
  abbrev pub OpensEnum : {R L K : Type 0} → Seen → EnumAccess R L K → Type 0
  OpensEnum old a = OpensVariant (texts variants) old.state (open_enum a) (place_of a)

  -- the same, as an access of either form
  abbrev pub OpensForm : {R L K : Type 0} → Seen → EnumForm R L K → Type 0
  OpensForm old f = OpensVariant (texts variants) old.state (open_form f) (place_in f)

  -- the row that is expected is no variant
  abbrev pub MissesRow : Seen → Seen → Type 0
  MissesRow old new = NamesBy bare (variant_of_row (texts variants) old.state.keys) new.refusal old.state.source

module _ (name : List ℕ) (variants : List (Bor (List ℕ))) where
  -- what is expected is no variant of an enum of this name
  abbrev pub RefusesEnum : Seen → Seen → Type 0
  RefusesEnum old new = RefusesVariant name (texts variants) new.refusal old.state new.state

  -- the value that is expected gives an error as no variant of an enum of this name
  abbrev pub NamesValue : Seen → Seen → Type 0
  NamesValue old new = NamesVariant name (texts variants) new.refusal old.state

  -- the object that is expected gives an error as no variant of an enum of this name
  abbrev pub NamesObject : Seen → Seen → Type 0
  NamesObject = NamesValue

-- the byte begins no enum of this name
abbrev pub IsOtherKind : List ℕ → ℕ → Error → Type 0
IsOtherKind name byte e =
    (enum : EnumName) × KeepsName name enum × (e ≡ DeInvalidStartByte (kind.Enum enum) byte)

-- the object of an enum of this name nests too deep
abbrev pub IsTooDeep : List ℕ → Error → Type 0
IsTooDeep name e =
    (enum : EnumName) × KeepsName name enum × (e ≡ DeRecursionLimitExceeded (kind.ObjectLikeEnum enum))

-- ---- payloads, in an object or row of this head, or of a name alone

module _ (head : Option MapHead) (old new : Seen) where
  -- the payload was read, and the object closed; a name alone has none
  abbrev pub TakesPayload : {A : Type 0} → Meaning → (A → Content → Type 0) → A → Type 0
  TakesPayload reads holds = IsPayload reads holds (enum_head head old.state) new.state

  -- the payload gives an error, as its type says, or there is none
  abbrev pub RefusesHeld : (reads : Meaning) → Option (Asking reads) → Needs → Type 0
  RefusesHeld reads asks needs = RefusesPayload reads asks needs new.refusal (enum_head head old.state) new.state

  -- nothing is left to read, or null was read, and the object closed
  abbrev pub TakesNull : Type 0
  TakesNull = IsUnitVariant (enum_head head old.state) new.state

  -- the payload is not null
  abbrev pub RefusesNull : Type 0
  RefusesNull = RefusesUnitVariant new.refusal (enum_head head old.state) new.state

  -- the payload was opened as an array or a template
  abbrev pub OpensTupleHead : SeqHead → Type 0
  OpensTupleHead h = IsTuplePayload (enum_head head old.state) (items_head h new.state)

  -- the payload is no array or template, or there is none
  abbrev pub RefusesTupleHead : Type 0
  RefusesTupleHead = RefusesTuple new.refusal (enum_head head old.state) new.state

  -- the payload was opened as an object or a row
  abbrev pub OpensStructHead : MapHead → Type 0
  OpensStructHead h = IsStructPayload (enum_head head old.state) (pairs_head h new.state)

  -- the payload is no object or row, or there is none
  abbrev pub RefusesStructHead : Type 0
  RefusesStructHead = RefusesStruct new.refusal (enum_head head old.state) new.state

-- ---- accesses

module _ {R L K : Type 0} (u : UnitVariantAccess R L K) (new : Seen) where
  -- a name alone has no payload
  abbrev pub LacksAny : Type 0
  LacksAny = LacksPayload new.refusal (unit_state u) new.state

module _ {R L K : Type 0} (v : VariantAccess R L K) (new : Seen) where
  -- null was read, and the object closed
  abbrev pub GivesNull : Type 0
  GivesNull = ReadsPayload reads_unit (λ _ c. c ≡ one) (open_variant v) new.state (tt {0})

  -- the payload is not null
  abbrev pub RefusesOther : Type 0
  RefusesOther = Refuses reads_unit (Some asking_unit) bare new.refusal (before_payload (open_variant v)) new.state

  -- the payload gives an error, as its type says
  abbrev pub RefusesGiven : (reads : Meaning) → Option (Asking reads) → Needs → Type 0
  RefusesGiven reads asks needs = Refuses reads asks needs new.refusal (before_payload (open_variant v)) new.state

module _ {R L K A : Type 0} (reads : Meaning) (holds : A → Content → Type 0) where
  -- the payload was read, and the object closed
  abbrev pub GivesPayload : VariantAccess R L K → Seen → A → Type 0
  GivesPayload v new = ReadsPayload reads holds (open_variant v) new.state

  -- the same, where a name alone has none
  abbrev pub GivesNewtype : EnumAccess R L K → Seen → A → Type 0
  GivesNewtype a new = IsPayload reads holds (open_enum a) new.state

module _ {R L K : Type 0} (a : EnumAccess R L K) where
  -- nothing is left to read, or null was read, and the object closed
  abbrev pub GivesUnit : Seen → Type 0
  GivesUnit new = IsUnitVariant (open_enum a) new.state

  -- the payload is not null
  abbrev pub RefusesUnit : Seen → Type 0
  RefusesUnit new = RefusesUnitVariant new.refusal (open_enum a) new.state

  -- the payload gives an error, as its type says, or there is none
  abbrev pub RefusesNewtype : (reads : Meaning) → Option (Asking reads) → Needs → Seen → Type 0
  RefusesNewtype reads asks needs new = RefusesPayload reads asks needs new.refusal (open_enum a) new.state

  -- the payload was opened as an array or a template
  abbrev pub IsTupleOf : SeqAccess R L K → Type 0
  IsTupleOf items = IsTuplePayload (open_enum a) (open_items items)

  -- the payload was opened as an object or a row
  abbrev pub IsStructOf : MapAccess R L K → Type 0
  IsStructOf pairs = IsStructPayload (open_enum a) (open_pairs pairs)

module _ {R L K : Type 0} (v : VariantAccess R L K) where
  -- the array or template that is the payload was opened
  abbrev pub OpensTuple : SeqAccess R L K → Type 0
  OpensTuple items = OpensPayloadItems (open_variant v) (open_items items)

  -- the object or row that is the payload was opened
  abbrev pub OpensStruct : MapAccess R L K → Type 0
  OpensStruct pairs = OpensPayloadPairs (open_variant v) (open_pairs pairs)
