-- Which reader gives the errors of an enum, by what its payloads ask for.
use Rattle.std.specs.Prelude.{refl, ℕ, List, [], ◌∷◌, Option, Some, None}
use Rattle.bser_format.specs.EnumName.{kept_whole}
use Rattle.bser_format.specs.Enums.{Payload, unit, holds, reads_enum}
use Rattle.bser_format.specs.declared.errors.name.EnumName.{EnumName}
use Rattle.bser_format.specs.Asks.{Asks, Payloads, asks_enum}
use Rattle.bser_format.specs.TypeLaws.{PassPayload, PassVariants}
use Rattle.bser_format.proofs.Enums.{enum_passes}
use Rattle.bser_deserializer.specs.Reading.{Asking}
use Rattle.bser_types.specs.Askings.{counted, counted_passes}

-- ---- payloads

-- what a payload asks for, where its type tells of names; null is asked for in one way
abbrev pub PayloadAsking : Payload → Type 0
PayloadAsking unit = Unit {0}
PayloadAsking (holds T) = Option (Asking T)

-- the same of each variant's
abbrev pub VariantAskings : List (List ℕ × Payload) → Type 0
VariantAskings [] = Unit {0}
VariantAskings (w ∷ ws) = PayloadAsking w.1 × VariantAskings ws

-- what a payload asks for inside its object, passing over what it reads
pub record AskedInside (p : Payload) : Type 0 where
  pub asks : Option Asks
  pub passes : PassPayload asks p

-- the same, where its type tells
abbrev pub asked_inside : (p : Payload) → PayloadAsking p → Option (AskedInside p)
asked_inside unit a = Some (record { asks = None; passes = tt })
asked_inside (holds T) None = None
asked_inside (holds T) (Some a) =
    Some (record {
      asks = Some (counted a.asks);
      passes = counted_passes a.asks T a.passes;
    })

-- ---- all payloads

-- what the payloads of all variants ask for, each passing over what it reads
pub record AllAsked (ws : List (List ℕ × Payload)) : Type 0 where
  pub asks : Payloads
  pub passes : PassVariants asks ws

-- the first payload and the others, where they all tell
abbrev pub joined : {w : List ℕ × Payload} → {ws : List (List ℕ × Payload)}
    → Option (AskedInside w.1) → Option (AllAsked ws) → Option (AllAsked (w ∷ ws))
joined {w = w} (Some a) (Some r) =
    Some (record { asks = (w.0, a.asks) ∷ r.asks; passes = (refl, a.passes, r.passes) })
joined _ _ = None

-- what all payloads ask for, where they all tell
abbrev pub all_asked : (ws : List (List ℕ × Payload)) → VariantAskings ws → Option (AllAsked ws)
all_asked [] qs = Some (record { asks = []; passes = tt })
all_asked (w ∷ ws) qs = joined (asked_inside w.1 qs.0) (all_asked ws qs.1)

-- ---- enums

-- an enum whose name an error keeps so, and whose payloads ask for this
abbrev pub asking_payloads : {ws : List (List ℕ × Payload)} → EnumName → AllAsked ws
    → Asking (reads_enum ws)
asking_payloads {ws = ws} enum r =
    record { asks = asks_enum enum r.asks; passes = enum_passes enum r.asks ws r.passes }

-- the same, where the name is kept whole and all payloads tell
abbrev pub asking_kept : {ws : List (List ℕ × Payload)} → Option EnumName → Option (AllAsked ws)
    → Option (Asking (reads_enum ws))
asking_kept (Some enum) (Some r) = Some (asking_payloads enum r)
asking_kept _ _ = None

-- an enum of this name and these variants, where its name is kept whole and all payloads tell
abbrev pub asking_enum : (name : List ℕ) → (ws : List (List ℕ × Payload)) → VariantAskings ws
    → Option (Asking (reads_enum ws))
asking_enum name ws qs = asking_kept (kept_whole name) (all_asked ws qs)
