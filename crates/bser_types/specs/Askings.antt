-- The askings of types that hold others, by those of their parts.
use Rattle.std.specs.Prelude.{zero, suc, List, [], ◌∷◌, Option, Some, None, option_map}
use Rattle.bser_format.specs.Content.{Meaning}
use Rattle.bser_format.specs.ReadsScalars.{reads_byte_string}
use Rattle.bser_format.specs.ReadsHolders.{reads_option, reads_vec, reads_tuple, reads_map}
use Rattle.bser_source.specs.Device.{one_more}
use Rattle.bser_format.specs.Asks.{Asks, asks_option, asks_vec, asks_byte_string, asks_tuple, asks_map}
use Rattle.bser_format.specs.TypeLaws.{Passes, PassEach}
use Rattle.bser_format.proofs.Choices.{option_passes, byte_string_passes}
use Rattle.bser_format.proofs.Lists.{vec_passes, tuple_passes}
use Rattle.bser_format.proofs.Maps.{map_passes}
use Rattle.bser_deserializer.specs.Reading.{Asking}

-- ---- inside a container

-- the same inside open containers, of which no more are counted than a `usize` holds
abbrev pub counted : Asks → Asks
counted A zero n d = A zero n d
counted A (suc o) n d = A (one_more o) n d

-- what is passed over at any count is so at each that is counted
pub counted_passes : (A : Asks) (R : Meaning) → Passes A R → Passes (counted A) R
counted_passes A R pass zero n d u c b x f r = pass zero n d u c b x f r
counted_passes A R pass (suc o) n d u c b x f r = pass (one_more o) n d u c b x f r

-- ---- options, lists and byte strings

-- nothing at null or a skip, else what the value inside asks for
abbrev pub asking_option : {T : Meaning} → Asking T → Asking (reads_option T)
asking_option {T = T} a =
    record { asks = asks_option a.asks; passes = option_passes a.asks T a.passes }

-- a list, whose items ask for this
abbrev pub asking_vec : {T : Meaning} → Asking T → Asking (reads_vec T)
asking_vec {T = T} a =
    record {
      asks = asks_vec (counted a.asks);
      passes = vec_passes (counted a.asks) T (counted_passes a.asks T a.passes);
    }

-- a byte string
abbrev pub asking_byte_string : Asking reads_byte_string
asking_byte_string = record { asks = asks_byte_string; passes = byte_string_passes }

-- ---- tuples

-- what each part asks for, where it says a reader
abbrev pub PartAskings : List Meaning → Type 0
PartAskings [] = Unit {0}
PartAskings (T ∷ Ts) = Option (Asking T) × PartAskings Ts

-- what all parts ask for inside the tuple, each passing over what its type reads
pub record AllAsked (Ts : List Meaning) : Type 0 where
  pub asks : List Asks
  pub passes : PassEach asks Ts

-- the first part and the others, where they all say one
abbrev pub joined : {T : Meaning} → {Ts : List Meaning} → Option (Asking T) → Option (AllAsked Ts)
    → Option (AllAsked (T ∷ Ts))
joined {T = T} (Some a) (Some r) =
    Some (record {
      asks = counted a.asks ∷ r.asks;
      passes = (counted_passes a.asks T a.passes, r.passes);
    })
joined _ _ = None

-- what all parts ask for, where they all say one
abbrev pub all_asked : (Ts : List Meaning) → PartAskings Ts → Option (AllAsked Ts)
all_asked [] ps = Some (record { asks = []; passes = tt })
all_asked (T ∷ Ts) ps = joined ps.0 (all_asked Ts ps.1)

-- a tuple whose parts ask for this
abbrev pub asking_parts : {Ts : List Meaning} → AllAsked Ts → Asking (reads_tuple Ts)
asking_parts {Ts = Ts} r =
    record { asks = asks_tuple r.asks; passes = tuple_passes r.asks Ts r.passes }

-- a tuple, where all its parts say one
abbrev pub asking_tuple : (Ts : List Meaning) → PartAskings Ts → Option (Asking (reads_tuple Ts))
asking_tuple Ts ps = option_map asking_parts (all_asked Ts ps)

-- ---- maps

-- a map, where its keys and its values say one
abbrev pub asking_map : {K V : Meaning} → Option (Asking K) → Option (Asking V)
    → Option (Asking (reads_map K V))
asking_map {K = K} {V = V} (Some a) (Some b) =
    Some (record {
      asks = asks_map (counted a.asks) (counted b.asks);
      passes = map_passes (counted a.asks) (counted b.asks) K V
          (counted_passes a.asks K a.passes) (counted_passes b.asks V b.passes);
    })
asking_map _ _ = None
