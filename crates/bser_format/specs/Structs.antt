-- What a struct reads, whatever holds it.
use Rattle.std.specs.Prelude.{◌≡◌, ℕ, zero, suc, List, [], ◌∷◌, Option, Some, None, option_map, option_and_then, if◌then◌else◌}
use Rattle.std.specs.Option.{is_some}
use Rattle.std.specs.Str.{is_utf8}
use Rattle.bser_format.specs.Tree.{Tree, object, entries}
use Rattle.bser_format.specs.Content.{Content, nothing, Meaning, each_some}
use Rattle.bser_format.specs.ReadsHolders.{reads_option, list_of}
use Rattle.bser_format.specs.ReadsAny.{reads_ignored}
use Rattle.bser_format.specs.Asks.{Asks, Field, required_field, optional_field, place_of, asks_struct}
use Rattle.bser_format.specs.TypeLaws.{Passes}

-- a field: which trees it reads, what it is where it is absent, and what was read of it
pub record Slot : Type 0 where
  pub reads : Meaning
  pub absent : Option Content
  pub found : Option Content

-- a field that has to be there
abbrev pub required : Meaning → Slot
required T = record { reads = T; absent = None; found = None }

-- a field that is nothing where it is null or absent
abbrev pub optional : Meaning → Slot
optional T = record { reads = reads_option T; absent = Some nothing; found = None }

-- a field is read once
abbrev pub read_once : Meaning → Option Content → Tree → Option (Option Content)
read_once T None t = option_and_then (λ c. Some (Some c)) (T t)
read_once T (Some c) t = None

-- the field is read, which it was not before
abbrev pub fill : Slot → Tree → Option Slot
fill s t = option_map (λ c. record s { found = c }) (read_once s.reads s.found t)

-- the field at this place is read; what is at no place is read, and not kept
abbrev pub fill_at : ℕ → List Slot → Tree → Option (List Slot)
fill_at i [] t = option_map (λ c. []) (reads_ignored t)
fill_at zero (s ∷ ss) t = option_map (λ r. r ∷ ss) (fill s t)
fill_at (suc i) (s ∷ ss) t = option_map (λ rs. s ∷ rs) (fill_at i ss t)

-- the field of this name is read; what no field is named is read, and not kept
abbrev pub fill_by : Option ℕ → List Slot → Tree → Option (List Slot)
fill_by (Some i) ss t = fill_at i ss t
fill_by None ss t = option_map (λ c. ss) (reads_ignored t)

-- an entry by its name, which has to be UTF-8
abbrev pub fill_entry : List (List ℕ) → List Slot → List ℕ × Tree → Option (List Slot)
fill_entry names ss e = if is_utf8 e.0 then fill_by (place_of 0 names e.0) ss e.1 else None

-- one entry after the other
abbrev pub fill_all : List (List ℕ) → List Slot → List (List ℕ × Tree) → Option (List Slot)
fill_all names ss [] = Some ss
fill_all names ss (e ∷ es) = option_and_then (λ more. fill_all names more es) (fill_entry names ss e)

-- what was read of a field, or else what takes the place of an absent one
abbrev pub or_absent : Option Content → Option Content → Option Content
or_absent None absent = absent
or_absent (Some c) absent = Some c

-- what a field is at the end
abbrev pub slot_at_end : Slot → Option Content
slot_at_end s = or_absent s.found s.absent

-- a list of what each field is at the end
abbrev pub all_at_end : List Slot → Option Content
all_at_end ss = option_map list_of (each_some slot_at_end ss)

-- an object that has each field of these names at most once, in any order, and each that is required
abbrev pub reads_fields : List (List ℕ) → List Slot → Meaning
reads_fields names ss (object es) = option_and_then all_at_end (fill_all names ss (entries es))
reads_fields names ss _ = None

-- ---- with what asks for it

-- a field that passes over what its slot reads, absent and found where the slot is
pub record PassField (f : Field) (s : Slot) : Type 0 where
  pub passes : Passes f.type s.reads
  pub optional : f.optional ≡ is_some s.absent
  pub found : f.found ≡ is_some s.found

-- each field with its own slot, and as many of both
abbrev pub PassFields : List Field → List Slot → Type 0
PassFields [] [] = Unit {0}
PassFields (f ∷ fs) (s ∷ ss) = PassField f s × PassFields fs ss
PassFields _ _ = ⊥

-- a struct that is read is passed over, where its fields are
abbrev pub PassesStructs : Type 0
PassesStructs = (names : List (List ℕ)) (fs : List Field) (ss : List Slot) → PassFields fs ss → Passes (asks_struct names fs) (reads_fields names ss)

-- a field that has to be there is passed over, where its type is
abbrev pub PassesRequired : Type 0
PassesRequired = (A : Asks) (T : Meaning) → Passes A T → PassField (required_field A) (required T)

-- a field that may be absent is passed over, where its type is
abbrev pub PassesOptional : Type 0
PassesOptional = (A : Asks) (T : Meaning) → Passes A T → PassField (optional_field A) (optional T)
