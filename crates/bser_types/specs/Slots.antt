-- Structs, of which each field is read at most once. What a field is and how it is read is said
-- with what a struct reads as.
use Rattle.std.specs.Prelude.{◌≡◌, ℕ, ◌||◌, Bool, false, true, List, [], ◌∷◌, Option, Some, None, option_map}
use Rattle.bser_format.specs.Tree.{Tree}
use Rattle.bser_format.specs.Content.{Content, Meaning, each_some}
use Rattle.bser_format.specs.ReadsAny.{reads_ignored}
use Rattle.bser_format.specs.Expected.{Fills}
use Rattle.bser_deserializer.specs.State.{State}
use Rattle.bser_deserializer.specs.Reading.{Needs}
pub use Rattle.bser_format.specs.Structs.{Slot as StructField, required, optional, fill, fill_at, or_absent, slot_at_end as field_at_end, all_at_end}
use Rattle.bser_types.specs.Fold.{struct_of}
use Rattle.bser_deserializer.specs.HoldsLists.{HoldsEach}
use Rattle.bser_deserializer.specs.declared.field.Field.{Field}
use Rattle.bser_deserializer.specs.declared.field.Field.TheVariants.{Known, Unknown}

-- ---- what a struct reads

-- the same field, of which this was read
abbrev pub with_found : StructField → Option Content → StructField
with_found s c = record s { found = c }

-- the field of this name is read; what no field is named is read, and not kept
abbrev pub fill_field : List StructField → Field → Tree → Option (List StructField)
fill_field ss (Known place) t = fill_at place ss t
fill_field ss Unknown t = option_map (λ c. ss) (reads_ignored t)

-- an object that has each of these fields at most once, in any order, and each that is required
abbrev pub reads_struct : List (List ℕ) → List StructField → Meaning
reads_struct names fields = struct_of names fill_field fields all_at_end

-- whether one of these types may hold borrowed bytes
abbrev pub any_lent : List Needs → Bool
any_lent [] = false
any_lent (n ∷ ns) = n.lent || any_lent ns

-- what these types need together, and memory for what is skipped; the names of fields are copied
abbrev pub struct_needs : List Needs → Needs
struct_needs ns = record { lent = any_lent ns; memory = true; keys = false; copied = true }

-- ---- what is kept of a field

-- what was read into a variable of a field, if anything was
abbrev pub Keeps : {A : Type 0} → (A → Content → Type 0) → Option A → Option Content → Type 0
Keeps holds None c = c ≡ None
Keeps holds (Some v) c = (d : Content) × (c ≡ Some d) × holds v d

-- a field with these trees and this in its absence, and what was read into its variable
abbrev pub KeepsField : {A : Type 0} → StructField → (A → Content → Type 0) → Option A → StructField → Type 0
KeepsField field holds v s = (c : Option Content) × (s ≡ with_found field c) × Keeps holds v c

-- the first field, and the others
abbrev pub KeepsBoth : (StructField → Type 0) → (List StructField → Type 0) → List StructField → Type 0
KeepsBoth first others [] = ⊥
KeepsBoth first others (s ∷ ss) = first s × others ss

-- what a field is at the end, or none where it is required and absent
abbrev pub FinishesField : {A : Type 0} → (A → Content → Type 0) → StructField → Option A → Type 0
FinishesField holds s None = field_at_end s ≡ None
FinishesField holds s (Some v) = (c : Content) × (field_at_end s ≡ Some c) × holds v c

-- what each field is at the end, or none where one is required and absent
abbrev pub FinishesEach : {A : Type 0} → (A → List (Content → Type 0)) → List StructField → Option A → Type 0
FinishesEach holds ss None = each_some field_at_end ss ≡ None
FinishesEach holds ss (Some v) = (cs : List Content) × (each_some field_at_end ss ≡ Some cs) × HoldsEach (holds v) cs

-- ---- the value of a field

-- what is expected, as a tree by which a step leads on from a
pub record FillsStep {A : Type 0} (step : A → Tree → Option A) (a : A) (s : State) (text : List ℕ) : Type 0 where
  pub tree : Tree
  pub next : A
  pub made : step a tree ≡ Some next
  pub filled : Fills s.levels s.due tree text
