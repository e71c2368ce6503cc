-- What the writing of a whole message leaves.
use Rattle.std.specs.Prelude.{◌≡◌, ℕ, ℤ, pos, ◌<◌, ◌^◌, List, ◌∷◌, ◌++◌, length, Result, Ok, Err, MatchResult, ⊤, ◌⊎◌}
use Rattle.std.specs.Int.{w32, to_le_bytes}
use Rattle.bser_format.specs.Tree.{Tree}
use Rattle.bser_format.specs.Canonical.{least_integer, canonical_body, canonical_message, IsWritable}
use Rattle.bser_format.specs.declared.errors.Error.{Error}
use Rattle.bser_format.specs.declared.errors.Error.TheVariants.{OutOfMemory, Io}
use Rattle.bser_format.specs.Written.{map_ok}
use Rattle.bser_ser.specs.Ends.{Ends, Stops}
use Rattle.bser_ser.specs.Sent.{IsExcuse, IsFlushed, IsTooMany}
use Rattle.bser_ser.specs.Stopped.{Tells, Takes, Accounts}
use Rattle.bser_ser.specs.declared.serializer.Serializer.{Serializer}

-- the header of a body of this length
abbrev pub front_of : ℤ → List ℕ
front_of len = 0x00 ∷ 0x02 ∷ (to_le_bytes w32 0 ++ least_integer len)

-- the canonical message of a value's tree, or why it has none
abbrev pub message_of : Result Tree Error → Result (List ℕ) Error
message_of m = map_ok canonical_message m

-- there is a text, and these bytes are followed by it
abbrev pub FollowedBy : Result (List ℕ) Error → List ℕ → List ℕ → Type 0
FollowedBy (Err e) bytes all = ⊥
FollowedBy (Ok text) bytes all = all ≡ bytes ++ text

-- there is a tree, and its canonical body has this length, which an i64 holds
abbrev pub IsBodyLength : Result Tree Error → ℤ → Type 0
IsBodyLength (Err e) n = ⊥
IsBodyLength (Ok t) n = (n ≡ pos (length (canonical_body t))) × (length (canonical_body t) < 2 ^ 63)

-- the message of a value's tree was put, or a beginning of it
abbrev pub PutsMessage : {S A : Type 0} → Tells S → Result Tree Error → Serializer S → Serializer S → Result A Error → Type 0
PutsMessage sink m old new r = MatchResult r (λ _. Ends sink (message_of m) old new) (λ e. Stops sink (message_of m) old new e)

-- the message of a value's tree was put and nothing is pending, or a beginning of it was put
abbrev pub SendsMessage : {S A : Type 0} → Tells S → Result Tree Error → Serializer S → Serializer S → Result A Error → Type 0
SendsMessage sink m old new r = MatchResult r (λ _. Ends sink (message_of m) old new × IsFlushed new) (λ e. Stops sink (message_of m) old new e)

-- an error that is not the writer's
abbrev pub IsNoFault : Error → Type 0
IsNoFault (Io e) = ⊥
IsNoFault _ = ⊤

-- why a value has no length: the error that says why it has no tree, a body too long for an i64, or
-- out of memory
abbrev pub IsUnmeasured : Result Tree Error → Error → Type 0
IsUnmeasured (Err reason) e = IsNoFault e × ((e ≡ reason) ⊎ (e ≡ OutOfMemory))
IsUnmeasured (Ok t) e = (e ≡ OutOfMemory) ⊎ IsTooMany (length (canonical_body t)) e

-- there is a tree that can be written, its body is not too long, and the writer took its canonical message and nothing else, and counted no failure
abbrev pub Wrote : {S : Type 0} → Tells S → Result Tree Error → S → S → Type 0
Wrote sink (Err e) old new = ⊥
Wrote sink (Ok t) old new = Takes sink old new (canonical_message t) × (length (canonical_body t) < 2 ^ 63) × IsWritable t

-- the writer took a beginning of the message, more of it was pending, and there is an excuse
pub record Partly {S : Type 0} (sink : Tells S) (message : List ℕ) (old new : S) (e : Error) : Type 0 where
  pub front : List ℕ
  pub pending : List ℕ
  pub rest : List ℕ
  pub is : message ≡ front ++ (pending ++ rest)
  pub took_it : sink.took old new front
  pub why : Accounts sink old new (front ++ pending) e
  pub excuse : IsExcuse e

-- the writing of a message broke off
abbrev pub Broke : {S : Type 0} → Tells S → Result Tree Error → S → S → Error → Type 0
Broke sink (Err reason) old new e = ⊥
Broke sink (Ok t) old new e = Partly sink (canonical_message t) old new e

-- an error: of the measuring, with the writer as it was, or of a message that broke off
abbrev pub Missed : {S : Type 0} → Tells S → Result Tree Error → S → S → Error → Type 0
Missed sink m old new e = (IsUnmeasured m e × (new ≡ old)) ⊎ Broke sink m old new e
