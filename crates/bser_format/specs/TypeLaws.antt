-- What each type's asking has to do with its meaning.
use Rattle.std.specs.Prelude.{◌≡◌, ℕ, ℤ, Bool, List, [], ◌∷◌, ◌++◌, Option, Some, None}
use Rattle.bser_format.specs.Tree.{Tree}
use Rattle.bser_format.specs.Expand.{expand}
use Rattle.bser_format.specs.Message.{IsMessage}
use Rattle.bser_format.specs.Content.{Content, Meaning}
use Rattle.bser_format.specs.Expected.{Due, node_due, Fills}
use Rattle.bser_format.specs.ReadsScalars.{reads_bool, reads_real, reads_unit, reads_integer, reads_slice, reads_string, reads_byte_string, reads_char}
use Rattle.bser_format.specs.ReadsHolders.{reads_option, reads_vec, reads_tuple, reads_map}
use Rattle.bser_format.specs.ReadsAny.{reads_value, reads_ignored}
use Rattle.bser_format.specs.Enums.{Payload, unit, holds, reads_enum}
use Rattle.bser_format.specs.declared.errors.name.EnumName.{EnumName}
use Rattle.bser_format.specs.Named.{message, reads}
use Rattle.bser_format.specs.Asks.{Asks, asks_bool, asks_real, asks_unit, asks_integer, asks_bytes, asks_string, asks_char, asks_any, asks_option, asks_vec, asks_byte_string, asks_tuple, asks_map, Payloads, asks_enum}

-- bytes that are expected and that R reads, A passes over, whatever follows them
abbrev pub Passes : Asks → Meaning → Type 0
Passes A R = (o n : ℕ) (d : Due) (u : Tree) (c : Content) (b x : List ℕ) → Fills n d u b → R u ≡ Some c → A o n d (b ++ x) ≡ reads tt x

-- a truth value that is read is passed over
abbrev pub PassesTruths : Type 0
PassesTruths = Passes asks_bool reads_bool

-- a real that is read is passed over
abbrev pub PassesReals : Type 0
PassesReals = Passes asks_real reads_real

-- a unit that is read is passed over
abbrev pub PassesUnits : Type 0
PassesUnits = Passes asks_unit reads_unit

-- an integer that its type holds is passed over
abbrev pub PassesIntegers : Type 0
PassesIntegers = (fits : ℤ → Bool) → Passes (asks_integer fits) (reads_integer fits)

-- bytes that are read are passed over
abbrev pub PassesBytes : Type 0
PassesBytes = Passes asks_bytes reads_slice

-- a text that is read is passed over
abbrev pub PassesStrings : Type 0
PassesStrings = Passes asks_string reads_string

-- a character that is read is passed over
abbrev pub PassesChars : Type 0
PassesChars = Passes asks_char reads_char

-- ---- types that hold others

-- an option that is read is passed over, where what it holds is
abbrev pub PassesOptions : Type 0
PassesOptions = (A : Asks) (T : Meaning) → Passes A T → Passes (asks_option A) (reads_option T)

-- a byte string that is read is passed over
abbrev pub PassesByteStrings : Type 0
PassesByteStrings = Passes asks_byte_string reads_byte_string

-- a list that is read is passed over, where its items are
abbrev pub PassesVecs : Type 0
PassesVecs = (A : Asks) (T : Meaning) → Passes A T → Passes (asks_vec A) (reads_vec T)

-- each type with its own meaning, and as many of both
abbrev pub PassEach : List Asks → List Meaning → Type 0
PassEach [] [] = Unit {0}
PassEach (A ∷ As) (T ∷ Ts) = Passes A T × PassEach As Ts
PassEach _ _ = ⊥

-- a tuple that is read is passed over, where its parts are
abbrev pub PassesTuples : Type 0
PassesTuples = (As : List Asks) (Ts : List Meaning) → PassEach As Ts → Passes (asks_tuple As) (reads_tuple Ts)

-- a map that is read is passed over, where its keys and its values are
abbrev pub PassesMaps : Type 0
PassesMaps = (K V : Asks) (S T : Meaning) → Passes K S → Passes V T → Passes (asks_map K V) (reads_map S T)

-- ---- whatever is there

-- a `Value` that is read is passed over
abbrev pub PassesValues : Type 0
PassesValues = Passes asks_any reads_value

-- what is ignored is passed over
abbrev pub PassesIgnored : Type 0
PassesIgnored = Passes asks_any reads_ignored

-- ---- enums

-- no payload of both, or one whose type passes over what it reads
abbrev pub PassPayload : Option Asks → Payload → Type 0
PassPayload None unit = Unit {0}
PassPayload (Some A) (holds T) = Passes A T
PassPayload _ _ = ⊥

-- variants of the same names, each with its payload
abbrev pub PassVariants : Payloads → List (List ℕ × Payload) → Type 0
PassVariants [] [] = Unit {0}
PassVariants (v ∷ vs) (w ∷ ws) = (v.0 ≡ w.0) × PassPayload v.1 w.1 × PassVariants vs ws
PassVariants _ _ = ⊥

-- an enum that is read is passed over, where its payloads are
abbrev pub PassesEnums : Type 0
PassesEnums = (enum : EnumName) (vs : Payloads) (ws : List (List ℕ × Payload)) → PassVariants vs ws → Passes (asks_enum enum vs) (reads_enum ws)

-- ---- messages

-- a message whose value R reads is passed over as a whole, whatever follows it
abbrev pub PassesMessages : Type 0
PassesMessages = (A : Asks) (R : Meaning) → Passes A R → (n c : ℕ) (t : Tree) (k : Content) (a y : List ℕ) → IsMessage n c t a → R (expand t) ≡ Some k → message (A 0 n node_due) (a ++ y) ≡ reads (c, tt) y
