-- Which reader gives the errors of a struct, by what its fields ask for.
use Rattle.std.specs.Prelude.{ℕ, List, [], ◌∷◌, map, Option, Some, None, option_map}
use Rattle.bser_format.specs.Asks.{Asks, asks_struct}
use Rattle.bser_format.specs.TypeLaws.{PassEach}
use Rattle.bser_deserializer.specs.Reading.{Asking}
use Rattle.bser_types.specs.Askings.{counted}
use Rattle.bser_types.specs.Slots.{StructField, reads_struct}
use Rattle.bser_structs.specs.Asked.{asked_fields}
use Rattle.bser_structs.specs.Passed.{struct_passed}

-- what each field asks for, where it tells of names
abbrev pub FieldAskings : List StructField → Type 0
FieldAskings [] = Unit {0}
FieldAskings (s ∷ ss) = Option (Asking s.reads) × FieldAskings ss

-- what the types of all fields ask for, each passing over what its field reads
pub record AllAsked (ss : List StructField) : Type 0 where
  pub asks : List Asks
  pub passes : PassEach asks (map (λ s. s.reads) ss)

-- the first field and the others, where they all tell
abbrev pub joined : {s : StructField} → {ss : List StructField} → Option (Asking s.reads)
    → Option (AllAsked ss) → Option (AllAsked (s ∷ ss))
joined (Some a) (Some r) = Some (record { asks = a.asks ∷ r.asks; passes = (a.passes, r.passes) })
joined _ _ = None

-- what all fields ask for, where they all tell
abbrev pub all_asked : (ss : List StructField) → FieldAskings ss → Option (AllAsked ss)
all_asked [] ps = Some (record { asks = []; passes = tt })
all_asked (s ∷ ss) ps = joined ps.0 (all_asked ss ps.1)

-- a struct of these names, whose fields ask for this inside it
abbrev pub asking_fields : (names : List (List ℕ)) → {ss : List StructField} → AllAsked ss
    → Asking (reads_struct names ss)
asking_fields names {ss = ss} r =
    record {
      asks = asks_struct names (asked_fields (map counted r.asks) ss);
      passes = struct_passed names r.asks ss r.passes;
    }

-- a struct of these names, where all its fields tell
abbrev pub asking_struct : (names : List (List ℕ)) → (ss : List StructField) → FieldAskings ss
    → Option (Asking (reads_struct names ss))
asking_struct names ss ps = option_map (asking_fields names) (all_asked ss ps)
