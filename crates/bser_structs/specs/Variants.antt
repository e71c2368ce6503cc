-- The variants of an enum, in one list: its name, the part of the enum that it is, and its type.
use Rattle.std.specs.Prelude.{◌≡◌, ℕ, suc, Bool, true, false, List, [], ◌∷◌, map, Option, Some, None, Result, Ok, Err, if◌then◌else◌}
use Rattle.std.specs.Option.{is_some}
use Rattle.bser_format.specs.Tree.{Tree, text}
use Rattle.bser_format.specs.Written.{variant_tree}
use Rattle.bser_format.specs.Content.{Content, one, Meaning}
use Rattle.bser_format.specs.Enums.{Payload, holds, reads_enum}
use Rattle.bser_format.specs.Enums as enums
use Rattle.bser_format.specs.declared.errors.Complaint.TheVariants.{UnknownVariant}
use Rattle.bser_format.specs.declared.errors.Error.{Error}
use Rattle.bser_format.specs.declared.errors.Error.TheVariants.{SerCustom}
use Rattle.bser_format.specs.declared.errors.Message.TheVariants.{Fixed}
use Rattle.bser_deserializer.specs.Reading.{Asking, bare, Needs}
use Rattle.bser_types.specs.Meanings.{TypeMeaning}
use Rattle.bser_types.specs.Slots.{struct_needs}
use Rattle.bser_structs.specs.VariantAskings.{PayloadAsking, VariantAskings, asking_enum}
use Rattle.bser_structs.specs.ReadVariants.{HoldsVariant}
use Rattle.bser_structs.specs.Fields.{Coding, FieldOf, required, optional, nullable, reads_fields, HoldsFields, fields_needs, asking_fields, fields_tree}

-- ---- variants

-- a variant of an enum: its name, what its payload is read as and asks for, which values are of it, and what they hold and are written as
pub record VariantOf (A : Type 0) : Type 1 where
  pub name : List ℕ
  pub payload : Payload
  pub needs : Needs
  pub asks : PayloadAsking payload
  pub is : A → Bool
  pub holds : A → Content → Type 0
  pub tree : A → Result Tree Error

-- a variant without a payload
abbrev pub unit : {A : Type 0} → List ℕ → (A → Bool) → VariantOf A
unit name is =
    record {
      name = name;
      payload = enums.unit;
      needs = bare;
      asks = tt;
      is = is;
      holds = λ _ c. c ≡ one;
      tree = λ _. Ok (text name);
    }

-- what a payload holds, where there is one
abbrev pub HoldsPart : {B : Type 0} → (B → Content → Type 0) → Option B → Content → Type 0
HoldsPart held None c = ⊥
HoldsPart held (Some x) c = held x c

-- why a value of none of the variants is not written
abbrev pub no_variant : Error
no_variant = SerCustom (Fixed UnknownVariant)

-- the tree of a variant's payload under its name, where there is one
abbrev pub payload_tree : {B : Type 0} → List ℕ → (B → Result Tree Error) → Option B → Result Tree Error
payload_tree name tree None = Err no_variant
payload_tree name tree (Some x) = variant_tree name (tree x)

-- a variant with one value, or with several as a tuple
abbrev pub newtype : {A B : Type 0} → List ℕ → (A → Option B) → Coding B → VariantOf A
newtype name part type =
    record {
      name = name;
      payload = holds type.reads;
      needs = type.needs;
      asks = type.asks;
      is = λ v. is_some (part v);
      holds = λ v. HoldsPart type.holds (part v);
      tree = λ v. payload_tree name type.tree (part v);
    }

-- ---- the fields of a variant, whose values are pairs of one and the others

-- no field
abbrev pub no_fields : List (FieldOf (Unit {0}))
no_fields = []

-- a field of the others
abbrev pub of_others : {B C : Type 0} → FieldOf C → FieldOf (B × C)
of_others f =
    record {
      name = f.name;
      slot = f.slot;
      holds = λ t. f.holds t.1;
      needs = f.needs;
      asks = f.asks;
      entries = λ t. f.entries t.1;
    }

-- a field that has to be there, and the others
abbrev pub with_required : {B C : Type 0} → List ℕ → Coding B → List (FieldOf C)
    → List (FieldOf (B × C))
with_required name type others = required name (λ t. t.0) type ∷ map of_others others

-- a field that is None where it is null or absent and is left out where it is None, and the others
abbrev pub with_optional : {B C : Type 0} → List ℕ → Coding B → List (FieldOf C)
    → List (FieldOf (Option B × C))
with_optional name type others = optional name (λ t. t.0) type ∷ map of_others others

-- a field that is None where it is null or absent and is null where it is None, and the others
abbrev pub with_nullable : {B C : Type 0} → List ℕ → Coding B → List (FieldOf C)
    → List (FieldOf (Option B × C))
with_nullable name type others = nullable name (λ t. t.0) type ∷ map of_others others

-- what an object of these fields is read as and written as
abbrev pub fields_coding : {B : Type 0} → List (FieldOf B) → Coding B
fields_coding fs =
    record {
      reads = reads_fields fs;
      holds = HoldsFields fs;
      needs = fields_needs fs;
      asks = asking_fields fs;
      tree = fields_tree fs;
    }

-- a variant with fields
abbrev pub with_fields : {A B : Type 0} → List ℕ → List (FieldOf B) → (A → Option B) → VariantOf A
with_fields name fs part = newtype name part (fields_coding fs)

-- ---- enums

-- the names of the variants, each with its payload
abbrev pub payloads_of : {A : Type 0} → List (VariantOf A) → List (List ℕ × Payload)
payloads_of fs = map (λ f. (f.name, f.payload)) fs

-- the name of one of these variants, with its payload
abbrev pub reads_variants : {A : Type 0} → List (VariantOf A) → Meaning
reads_variants fs = reads_enum (payloads_of fs)

-- one of two
abbrev pub OneOrOther : Bool → (Content → Type 0) → (Content → Type 0) → Content → Type 0
OneOrOther true first others c = first c
OneOrOther false first others c = others c

-- a variant from this place on holds its place, and what its payload holds
abbrev pub HoldsFrom : {A : Type 0} → ℕ → List (VariantOf A) → A → Content → Type 0
HoldsFrom place [] v c = ⊥
HoldsFrom place (f ∷ fs) v c =
    OneOrOther (f.is v) (HoldsVariant place (f.holds v)) (HoldsFrom (suc place) fs v) c

-- a variant holds its place, and what its payload holds
abbrev pub HoldsVariants : {A : Type 0} → List (VariantOf A) → A → Content → Type 0
HoldsVariants fs v c = HoldsFrom 0 fs v c

-- what reading the variants needs
abbrev pub variants_needs : {A : Type 0} → List (VariantOf A) → Needs
variants_needs fs = struct_needs (map (λ f. f.needs) fs)

-- what each payload asks for, where its type tells of names
abbrev pub each_payload : {A : Type 0} → (fs : List (VariantOf A)) → VariantAskings (payloads_of fs)
each_payload [] = tt
each_payload (f ∷ fs) = (f.asks, each_payload fs)

-- which reader gives the errors of the enum of this name, where all its payloads say one and it has
-- at most 60 bytes
abbrev pub asking_variants : {A : Type 0} → List ℕ → (fs : List (VariantOf A))
    → Option (Asking (reads_variants fs))
asking_variants name fs = asking_enum name (payloads_of fs) (each_payload fs)

-- all that is said of an enum of this name with these variants
abbrev pub enum_meaning : {A : Type 0} → List ℕ → List (VariantOf A) → TypeMeaning A
enum_meaning name fs = record { reads = reads_variants fs; holds = HoldsVariants fs; needs = variants_needs fs; asks = asking_variants name fs; plain = None }

-- the tree that the enum is written as, or why it is none
abbrev pub variants_tree : {A : Type 0} → List (VariantOf A) → A → Result Tree Error
variants_tree [] v = Err no_variant
variants_tree (f ∷ fs) v = if f.is v then f.tree v else variants_tree fs v
