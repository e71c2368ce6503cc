-- The fields of a struct, in one list: its name, the part of the struct that it is, and its type.
use Rattle.std.specs.Prelude.{◌≡◌, refl, false, ◌||◌, Bool, ℕ, List, [], ◌∷◌, ◌++◌, map, Option, None, option_map, Result, Err}
use Rattle.bser_format.specs.Tree.{Tree}
use Rattle.bser_format.specs.Written.{option_tree}
use Rattle.bser_format.specs.Content.{Content, Meaning}
use Rattle.bser_format.specs.declared.errors.Complaint.TheVariants.{WrongType}
use Rattle.bser_format.specs.declared.errors.Error.{Error}
use Rattle.bser_format.specs.declared.errors.Error.TheVariants.{SerCustom}
use Rattle.bser_format.specs.declared.errors.Message.TheVariants.{Fixed}
use Rattle.bser_deserializer.specs.Holds.{HoldsOption}
use Rattle.bser_deserializer.specs.HoldsLists.{HoldsTuple}
use Rattle.bser_deserializer.specs.Reading.{Asking, bare, Needs}
use Rattle.bser_types.specs.Askings.{asking_option}
use Rattle.bser_types.specs.Slots.{StructField, reads_struct, struct_needs}
use Rattle.bser_types.specs.Meanings.{TypeMeaning}
use Rattle.bser_types.specs.Slots as slots
use Rattle.bser_structs.specs.Askings.{FieldAskings, asking_struct}
use Rattle.bser_structs.specs.Entries.{given_entry, entries_tree}

-- ---- types

-- what a type is read as, as its `Shape` says, and the tree that a value is written as, or why it is none
pub record Coding (B : Type 0) : Type 1 where
  pub reads : Meaning
  pub holds : B → Content → Type 0
  pub needs : Needs
  pub asks : Option (Asking reads)
  pub tree : B → Result Tree Error

-- why a value of a type that is read alone is not written
abbrev pub not_written : Error
not_written = SerCustom (Fixed WrongType)

-- a type that is read and not written
abbrev pub read_alone : {B : Type 0} → (reads : Meaning) → (B → Content → Type 0) → Needs
    → Option (Asking reads) → Coding B
read_alone reads holds needs asks =
    record { reads = reads; holds = holds; needs = needs; asks = asks; tree = λ _. Err not_written }

-- a type that is written and not read
abbrev pub written_alone : {B : Type 0} → (B → Result Tree Error) → Coding B
written_alone tree =
    record { reads = λ _. None; holds = λ _ _. ⊥; needs = bare; asks = None; tree = tree }

-- ---- fields

-- a field of a struct: its name, how it is read, what the struct's part holds, and the entries that it is written as
pub record FieldOf (A : Type 0) : Type 1 where
  pub name : List ℕ
  pub slot : StructField
  pub holds : A → Content → Type 0
  pub needs : Needs
  pub asks : Option (Asking slot.reads)
  pub entries : A → List (List ℕ × Result Tree Error)

-- a field that has to be there
abbrev pub required : {A B : Type 0} → List ℕ → (A → B) → Coding B → FieldOf A
required name part type =
    record {
      name = name;
      slot = slots.required type.reads;
      holds = λ v. type.holds (part v);
      needs = type.needs;
      asks = type.asks;
      entries = λ v. (name, type.tree (part v)) ∷ [];
    }

-- a field that may be null or absent, with these entries
abbrev pub optional_as : {A B : Type 0} → List ℕ → (A → Option B) → Coding B
    → (Option B → List (List ℕ × Result Tree Error)) → FieldOf A
optional_as name part type entries =
    record {
      name = name;
      slot = slots.optional type.reads;
      holds = λ v. HoldsOption type.holds (part v);
      needs = type.needs;
      asks = option_map asking_option type.asks;
      entries = λ v. entries (part v);
    }

-- a field that is None where it is null or absent, and is left out where it is None
abbrev pub optional : {A B : Type 0} → List ℕ → (A → Option B) → Coding B → FieldOf A
optional name part type = optional_as name part type (given_entry name type.tree)

-- a field that is None where it is null or absent, and is null where it is None
abbrev pub nullable : {A B : Type 0} → List ℕ → (A → Option B) → Coding B → FieldOf A
nullable name part type = optional_as name part type (λ x. (name, option_tree type.tree x) ∷ [])

-- ---- structs

abbrev pub names_of : {A : Type 0} → List (FieldOf A) → List (List ℕ)
names_of fs = map (λ f. f.name) fs

abbrev pub slots_of : {A : Type 0} → List (FieldOf A) → List StructField
slots_of fs = map (λ f. f.slot) fs

-- an object that has these fields
abbrev pub reads_fields : {A : Type 0} → List (FieldOf A) → Meaning
reads_fields fs = reads_struct (names_of fs) (slots_of fs)

-- what the fields hold
abbrev pub HoldsFields : {A : Type 0} → List (FieldOf A) → A → Content → Type 0
HoldsFields fs v c = HoldsTuple (map (λ f. f.holds v) fs) c

-- what reading the fields needs
abbrev pub fields_needs : {A : Type 0} → List (FieldOf A) → Needs
fields_needs fs = struct_needs (map (λ f. f.needs) fs)

-- what each field asks for, where its type tells of names
abbrev pub each_asking : {A : Type 0} → (fs : List (FieldOf A)) → FieldAskings (slots_of fs)
each_asking [] = tt
each_asking (f ∷ fs) = (f.asks, each_asking fs)

-- which reader gives the errors of the struct, where all types say one
abbrev pub asking_fields : {A : Type 0} → (fs : List (FieldOf A)) → Option (Asking (reads_fields fs))
asking_fields fs = asking_struct (names_of fs) (slots_of fs) (each_asking fs)

-- all that is said of a struct with these fields
abbrev pub struct_meaning : {A : Type 0} → List (FieldOf A) → TypeMeaning A
struct_meaning fs = record { reads = reads_fields fs; holds = HoldsFields fs; needs = fields_needs fs; asks = asking_fields fs; plain = None }

-- the entries of the fields, in their order
abbrev pub fields_entries : {A : Type 0} → List (FieldOf A) → A → List (List ℕ × Result Tree Error)
fields_entries [] v = []
fields_entries (f ∷ fs) v = f.entries v ++ fields_entries fs v

-- the tree that the struct is written as, or why it is none
abbrev pub fields_tree : {A : Type 0} → List (FieldOf A) → A → Result Tree Error
fields_tree fs v = entries_tree (fields_entries fs v)

-- ---- what is borrowed

-- where neither part may hold borrowed bytes, the whole holds none
pub none_lent : {a b : Bool} → a ≡ false → b ≡ false → (a || b) ≡ false
none_lent p q = rw (p, q) refl
