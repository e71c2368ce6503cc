-- A struct reads as the plain reader's does, and what it reads is passed over.
use Rattle.std.proofs.Common.{◌≡◌, ℕ, zero, suc, Bool, true, false, cond, List, [], ◌∷◌, map, Option, Some, None, option_map, option_and_then, refl, sym, ap, ◌∙◌}
use Rattle.std.specs.Str.{is_utf8, bytes_eq}
use Rattle.bser_format.specs.Tree.{Tree, null, boolean, integer, real, bytes, text, array, object, template, entries}
use Rattle.bser_format.specs.Content.{Content, Meaning, each_some}
use Rattle.bser_format.specs.ReadsAny.{reads_ignored}
use Rattle.bser_format.specs.ReadsHolders.{list_of}
use Rattle.bser_format.specs.Asks.{Asks, asks_struct, place_of}
use Rattle.bser_format.specs.TypeLaws.{Passes, PassEach}
use Rattle.bser_format.specs.Structs as plain
use Rattle.bser_format.specs.Structs.{Slot, PassFields}
use Rattle.bser_format.proofs.Structs.{struct_passes}
use Rattle.bser_deserializer.specs.Fields.{field_from, field_of}
use Rattle.bser_deserializer.specs.declared.field.Field.{Field}
use Rattle.bser_deserializer.specs.declared.field.Field.TheVariants.{Known, Unknown}
use Rattle.bser_types.specs.Askings.{counted, counted_passes}
use Rattle.bser_types.specs.Fold.{folds, step_by_name, read_once}
use Rattle.bser_types.specs.Slots.{StructField, with_found, fill, fill_at, fill_field, field_at_end, all_at_end, reads_struct}
use Rattle.bser_structs.specs.Asked.{asked_fields, place_known}

-- ---- one field

-- a field as the plain reader has it
abbrev pub slot_of : StructField → Slot
slot_of s = record { reads = s.reads; absent = s.absent; found = s.found }

-- each field
abbrev pub slots_of : List StructField → List Slot
slots_of ss = map slot_of ss

-- ---- options

mapped_twice : {X Y Z : Type 0} (f : X → Y) (g : Y → Z) (h : X → Z) (o : Option X) → ((x : X) → g (f x) ≡ h x) → option_map g (option_map f o) ≡ option_map h o
mapped_twice f g h None same = refl
mapped_twice f g h (Some x) same = ap Some (same x)

mapped_after : {X Y Z W : Type 0} (h : X → Y) (g : Z → W) (f : X → Option Z) (k : Y → Option W) (o : Option X) → ((x : X) → option_map g (f x) ≡ k (h x)) → option_map g (option_and_then f o) ≡ option_and_then k (option_map h o)
mapped_after h g f k None same = refl
mapped_after h g f k (Some x) same = same x

mapped_if : {X Y : Type 0} (g : X → Y) (b : Bool) (o : Option X) → option_map g (cond b o None) ≡ cond b (option_map g o) None
mapped_if g true o = refl
mapped_if g false o = refl

ended_after : {X Y Z : Type 0} (h : X → Y) (f : X → Option Z) (k : Y → Option Z) (o : Option X) → ((x : X) → f x ≡ k (h x)) → option_and_then f o ≡ option_and_then k (option_map h o)
ended_after h f k None same = refl
ended_after h f k (Some x) same = same x

-- ---- steps

once_same : (T : Meaning) (was : Option Content) (t : Tree) → read_once T was t ≡ plain.read_once T was t
once_same T None t = refl
once_same T (Some c) t = refl

fill_same : (s : StructField) (t : Tree) → option_map slot_of (fill s t) ≡ plain.fill (slot_of s) t
fill_same s t =
    mapped_twice (with_found s) slot_of (λ c. slot_of (with_found s c)) (read_once s.reads s.found t) (λ c. refl)
    ∙ ap (option_map (λ c. slot_of (with_found s c))) (once_same s.reads s.found t)

at_same : (place : ℕ) (ss : List StructField) (t : Tree) → option_map slots_of (fill_at place ss t) ≡ plain.fill_at place (slots_of ss) t
at_same place [] t = mapped_twice (λ c. []) slots_of (λ c. []) (reads_ignored t) (λ c. refl)
at_same zero (s ∷ ss) t =
    mapped_twice (λ r. r ∷ ss) slots_of (λ r. slot_of r ∷ slots_of ss) (fill s t) (λ r. refl)
    ∙ sym (mapped_twice slot_of (λ r. r ∷ slots_of ss) (λ r. slot_of r ∷ slots_of ss) (fill s t) (λ r. refl))
    ∙ ap (option_map (λ r. r ∷ slots_of ss)) (fill_same s t)
at_same (suc place) (s ∷ ss) t =
    mapped_twice (λ rs. s ∷ rs) slots_of (λ rs. slot_of s ∷ slots_of rs) (fill_at place ss t) (λ rs. refl)
    ∙ sym (mapped_twice slots_of (λ rs. slot_of s ∷ rs) (λ rs. slot_of s ∷ slots_of rs) (fill_at place ss t) (λ rs. refl))
    ∙ ap (option_map (λ rs. slot_of s ∷ rs)) (at_same place ss t)

field_same : (f : Field) (ss : List StructField) (t : Tree) → option_map slots_of (fill_field ss f t) ≡ plain.fill_by (place_known f) (slots_of ss) t
field_same (Known place) ss t = at_same place ss t
field_same Unknown ss t = mapped_twice (λ c. ss) slots_of (λ c. slots_of ss) (reads_ignored t) (λ c. refl)

-- the first place of a name
pub place_same : (i : ℕ) (names : List (List ℕ)) (name : List ℕ) → place_known (field_from i names name) ≡ place_of i names name
place_same i [] name = refl
place_same i (known ∷ names) name = at (bytes_eq known name) (place_same (suc i) names name)
  where
    at : (b : Bool) → place_known (field_from (suc i) names name) ≡ place_of (suc i) names name
        → place_known (cond b (Known i) (field_from (suc i) names name)) ≡ cond b (Some i) (place_of (suc i) names name)
    at true later = refl
    at false later = later

entry_same : (names : List (List ℕ)) (ss : List StructField) (name : List ℕ) (t : Tree) → option_map slots_of (step_by_name names fill_field ss name t) ≡ plain.fill_entry names (slots_of ss) (name, t)
entry_same names ss name t =
    mapped_if slots_of (is_utf8 name) (fill_field ss (field_of names name) t)
    ∙ ap (λ o. cond (is_utf8 name) o None) (field_same (field_of names name) ss t ∙ ap (λ p. plain.fill_by p (slots_of ss) t) (place_same 0 names name))

all_same : (names : List (List ℕ)) (ss : List StructField) (es : List (List ℕ × Tree)) → option_map slots_of (folds (step_by_name names fill_field) ss es) ≡ plain.fill_all names (slots_of ss) es
all_same names ss [] = refl
all_same names ss (e ∷ es) =
    mapped_after slots_of slots_of (λ b. folds (step_by_name names fill_field) b es) (λ more. plain.fill_all names more es) (step_by_name names fill_field ss e.0 e.1) (λ b. all_same names b es)
    ∙ ap (option_and_then (λ more. plain.fill_all names more es)) (entry_same names ss e.0 e.1)

end_same : (s : StructField) → field_at_end s ≡ plain.slot_at_end (slot_of s)
end_same s = at s.found
  where
    at : (c : Option Content) → field_at_end (with_found s c) ≡ plain.slot_at_end (slot_of (with_found s c))
    at None = refl
    at (Some c) = refl

ends_same : (ss : List StructField) → each_some field_at_end ss ≡ each_some plain.slot_at_end (slots_of ss)
ends_same [] = refl
ends_same (s ∷ ss) =
    ap (λ o. option_and_then (λ y. option_map (λ ys. y ∷ ys) o) (field_at_end s)) (ends_same ss)
    ∙ ap (option_and_then (λ y. option_map (λ ys. y ∷ ys) (each_some plain.slot_at_end (slots_of ss)))) (end_same s)

-- the fields read as the plain reader's
pub struct_same : (names : List (List ℕ)) (ss : List StructField) (t : Tree) → reads_struct names ss t ≡ plain.reads_fields names (slots_of ss) t
struct_same names ss (object es) =
    ended_after slots_of all_at_end plain.all_at_end (folds (step_by_name names fill_field) ss (entries es)) (λ r. ap (option_map list_of) (ends_same r))
    ∙ ap (option_and_then plain.all_at_end) (all_same names ss (entries es))
struct_same names ss null = refl
struct_same names ss (boolean v) = refl
struct_same names ss (integer v) = refl
struct_same names ss (real v) = refl
struct_same names ss (bytes v) = refl
struct_same names ss (text v) = refl
struct_same names ss (array ts) = refl
struct_same names ss (template ks rs) = refl

-- ---- what is passed over

fields_pass : (As : List Asks) (ss : List StructField) → PassEach As (map (λ s. s.reads) ss) → PassFields (asked_fields (map counted As) ss) (slots_of ss)
fields_pass [] [] fit = tt
fields_pass [] (s ∷ ss) fit = absurd fit
fields_pass (A ∷ As) [] fit = absurd fit
fields_pass (A ∷ As) (s ∷ ss) fit = (record { passes = counted_passes A s.reads fit.0; optional = refl; found = refl }, fields_pass As ss fit.1)

-- a struct that is read is passed over, where its fields are
pub struct_passed : (names : List (List ℕ)) (As : List Asks) (ss : List StructField) → PassEach As (map (λ s. s.reads) ss) → Passes (asks_struct names (asked_fields (map counted As) ss)) (reads_struct names ss)
struct_passed names As ss fit o n d u c b x f r =
    struct_passes names (asked_fields (map counted As) ss) (slots_of ss) (fields_pass As ss fit) o n d u c b x f (sym (struct_same names ss u) ∙ r)
