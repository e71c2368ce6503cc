-- What the payload of a variant is read as, in a list over the variants.
use Rattle.std.specs.Prelude.{◌<◌, ◌+◌, ℕ, zero, suc, List, [], ◌∷◌, length, Option}
use Rattle.bser_format.specs.Content.{Content, one, variant}
use Rattle.bser_deserializer.specs.Reading.{Answers, Asking, Needs}
use Rattle.bser_deserializer.specs.Seen.{Seen}
use Rattle.bser_deserializer.specs.declared.frames.MapHead.{MapHead}
use Rattle.bser_types.specs.Accesses.{texts, RefusesDue}
use Rattle.bser_types.specs.Slots.{struct_needs}
use Rattle.bser_structs.specs.Structs.{Names}
use Rattle.bser_structs.specs.EnumAccess.{enum_head}
use Rattle.bser_format.specs.Enums.{Payload, unit, holds, reads_enum}
use Rattle.bser_format.specs.declared.errors.Error.{Error}
use Rattle.bser_deserializer.specs.State.{State}
use Rattle.bser_structs.specs.VariantAskings.{PayloadAsking, VariantAskings, asking_enum}
use Rattle.bser_structs.specs.ReadVariants.{OpenEnum, HoldsVariant, IsPayload, IsUnitVariant, RefusesPayload, RefusesUnitVariant}
use Rattle.bser_structs.specs.declared.payloads.OneOf.{OneOf}
use Rattle.bser_structs.specs.declared.payloads.OneOf.TheVariants.{First, Others}

-- ---- one variant

-- the payload was read, and its content is one of these
abbrev pub IsPayloadOf : Payload → (Content → Type 0) → OpenEnum → State → Type 0
IsPayloadOf unit keeps old new = IsUnitVariant old new × keeps one
IsPayloadOf (holds T) keeps old new = IsPayload T (λ _. keeps) old new (tt {0})

-- the payload gives an error, the one that its type says
abbrev pub RefusesPayloadOf : (p : Payload) → PayloadAsking p → Needs → Error → OpenEnum → State
    → Type 0
RefusesPayloadOf unit asks needs e old new = RefusesUnitVariant e old new
RefusesPayloadOf (holds T) asks needs e old new = RefusesPayload T asks needs e old new

-- ---- the variant at a place

-- the payload of the variant at this place was read
abbrev pub IsPayloadAt : List Payload → ℕ → (Content → Type 0) → OpenEnum → State → Type 0
IsPayloadAt [] place keeps old new = ⊥
IsPayloadAt (p ∷ ps) zero keeps old new = IsPayloadOf p keeps old new
IsPayloadAt (p ∷ ps) (suc place) keeps old new = IsPayloadAt ps place keeps old new

-- what each payload asks for, where its type tells of names
abbrev pub PayloadAskings : List Payload → Type 0
PayloadAskings [] = Unit {0}
PayloadAskings (p ∷ ps) = PayloadAsking p × PayloadAskings ps

-- the payload of the variant at this place gives an error, as its type's needs allow
abbrev pub RefusesPayloadAt : (ps : List Payload) → PayloadAskings ps → List Needs → ℕ → Error
    → OpenEnum → State → Type 0
RefusesPayloadAt [] qs ns place e old new = ⊥
RefusesPayloadAt (p ∷ ps) qs [] place e old new = ⊥
RefusesPayloadAt (p ∷ ps) qs (n ∷ ns) zero e old new = RefusesPayloadOf p qs.0 n e old new
RefusesPayloadAt (p ∷ ps) qs (n ∷ ns) (suc place) e old new =
    RefusesPayloadAt ps qs.1 ns place e old new

-- the value of the variant at this place, or of one of the others, which come after it
abbrev pub HoldsOneOf : {A B : Type 0} → (A → Content → Type 0) → (ℕ → B → Content → Type 0)
    → ℕ → OneOf A B → Content → Type 0
HoldsOneOf first others place (First x) c = HoldsVariant place (first x) c
HoldsOneOf first others place (Others y) c = others (suc place) y c

-- each name with its payload, as many as there are of both
abbrev pub labelled : List (List ℕ) → List Payload → List (List ℕ × Payload)
labelled (n ∷ ns) (p ∷ ps) = (n, p) ∷ labelled ns ps
labelled _ _ = []

-- what the payload under each name asks for
abbrev pub labelled_askings : (ns : List (List ℕ)) → (ps : List Payload) → PayloadAskings ps
    → VariantAskings (labelled ns ps)
labelled_askings [] ps qs = tt
labelled_askings (n ∷ ns) [] qs = tt
labelled_askings (n ∷ ns) (p ∷ ps) qs = (qs.0, labelled_askings ns ps qs.1)

-- which reader gives the errors of an enum of this name, whose variants have these names and
-- payloads
abbrev pub asking_labelled : (name : List ℕ) → (ns : List (List ℕ)) → (ps : List Payload)
    → PayloadAskings ps → Option (Asking (reads_enum (labelled ns ps)))
asking_labelled name ns ps qs = asking_enum name (labelled ns ps) (labelled_askings ns ps qs)

-- ---- what the calls answer

-- the payload in the object or row of this head, or of a name alone, was read, and v holds it
abbrev pub GivesPayload : {A : Type 0} → Payload → (A → Content → Type 0) → Option MapHead → Seen → Seen → A → Type 0
GivesPayload p held head old new v = IsPayloadOf p (held v) (enum_head head old.state) new.state

-- it gives an error, as its type says
abbrev pub GivesNone : (p : Payload) → PayloadAsking p → Needs → Option MapHead → Seen → Seen → Type 0
GivesNone p asks needs head old new = RefusesPayloadOf p asks needs new.refusal (enum_head head old.state) new.state

-- the payload of the variant at this place was read, and v holds it, whatever place the first variant has
abbrev pub GivesAt : {A : Type 0} → ℕ → List Payload → (ℕ → A → Content → Type 0) → Option MapHead → Seen → Seen → A → Type 0
GivesAt place ps held head old new v =
    (first : ℕ) → IsPayloadAt ps place (λ c. held first v (variant (first + place) c)) (enum_head head old.state) new.state

-- where there is such a place, the payload gives an error, as its type says
abbrev pub GivesNoneAt : ℕ → (ps : List Payload) → PayloadAskings ps → List Needs → Option MapHead → Seen → Seen → Type 0
GivesNoneAt place ps asks needs head old new =
    place < length ps → RefusesPayloadAt ps asks needs place new.refusal (enum_head head old.state) new.state

-- an enum whose variants have these names and payloads was read, and v holds it
abbrev pub ReadsEnum : {A : Type 0} → Names → List Payload → (ℕ → A → Content → Type 0) → Seen → Seen → A → Type 0
ReadsEnum names ps held old new = Answers (reads_enum (labelled (texts names) ps)) (held 0) old.state new.state

-- what is expected gives an error as that enum, of this name
abbrev pub RefusesEnum : List ℕ → Names → (ps : List Payload) → PayloadAskings ps → List Needs → Seen → Seen → Type 0
RefusesEnum name names ps asks needs old new =
    RefusesDue (reads_enum (labelled (texts names) ps)) (asking_labelled name (texts names) ps asks) (struct_needs needs) old new
