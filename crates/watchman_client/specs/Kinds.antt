-- Which messages are unsolicited, and which report an error.
use Rattle.std.specs.Prelude.{◌≡◌, ℕ, Bool, true, false, List, [], ◌∷◌, ◌++◌, codes}
use Rattle.bser_format.specs.Content.{Content, Meaning, truth, byte_list}
use Rattle.bser_format.specs.ReadsAny.{reads_ignored}
use Rattle.bser_format.specs.ReadsHolders.{list_of}
use Rattle.bser_format.specs.ReadsScalars.{reads_bool, reads_byte_string}
use Rattle.bser_types.specs.Slots.{optional, reads_struct, required}
use Rattle.bser_deserializer.specs.declared.deserializer.TheConstants.{LEVELS}
use Rattle.bser_messages.specs.Messages.{ReadsMessageAs}
use Rattle.bser_frames.specs.Headers.{IsFrame}

-- the bytes are one whole message: a header, and as many bytes as it announces
abbrev pub IsWhole : List ℕ → Type 0
IsWhole bytes = ∥ IsFrame bytes ∥₁

-- a front of the bytes is a message of at most 128 levels that reads as this
pub record ReadsAs (reads : Meaning) (c : Content) (bytes : List ℕ) : Type 0 where
  pub text : List ℕ
  pub rest : List ℕ
  pub front : bytes ≡ text ++ rest
  pub message : ReadsMessageAs LEVELS reads text c

-- an object with one entry `unilateral` that is a truth value reads as that
abbrev pub reads_mark : Meaning
reads_mark = reads_struct (codes "unilateral" ∷ []) (required reads_bool ∷ [])

-- an object with one entry `error` that is a text or bytes reads as that
abbrev pub reads_failure : Meaning
reads_failure = reads_struct (codes "error" ∷ []) (required reads_byte_string ∷ [])

-- an object with one entry `unilateral` that is a truth value, and at most one `error` of any kind
abbrev pub reads_signs : Meaning
reads_signs =
    reads_struct (codes "unilateral" ∷ codes "error" ∷ []) (required reads_bool ∷ optional reads_ignored ∷ [])

-- the message is an object whose `unilateral` is true
abbrev pub IsUnsolicited : List ℕ → Type 0
IsUnsolicited bytes = ReadsAs reads_mark (list_of (truth true ∷ [])) bytes

-- the message is an object whose `error` is this
abbrev pub TellsError : List ℕ → List ℕ → Type 0
TellsError error bytes = ReadsAs reads_failure (list_of (byte_list error ∷ [])) bytes

-- the message is no object that has an `error`
abbrev pub TellsNoError : List ℕ → Type 0
TellsNoError bytes = (error : List ℕ) → TellsError error bytes → ⊥

-- the message is unsolicited, or it is not
abbrev pub IsKind : Bool → List ℕ → Type 0
IsKind true bytes = IsUnsolicited bytes
IsKind false bytes = IsUnsolicited bytes → ⊥
