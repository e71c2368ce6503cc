-- What a serializer's writer took, and what is still pending.
use Rattle.std.specs.Prelude.{◌≡◌, ℕ, ℤ, ◌+◌, ◌<◌, ◌≤◌, ◌^◌, List, [], ◌∷◌, ◌++◌, length, Option, Some, None, ⊤, Result, MatchResult, ◌⊎◌}
use Rattle.bser_format.specs.Canonical.{least_integer, least_count}
use Rattle.bser_format.specs.Pieces.{newtype_variant_head}
use Rattle.bser_format.specs.declared.errors.Collection.{Collection}
use Rattle.bser_format.specs.declared.errors.Complaint.TheVariants.{CountTooGreat}
use Rattle.bser_format.specs.declared.errors.Error.{Error}
use Rattle.bser_format.specs.declared.errors.Error.TheVariants.{OutOfMemory, Io, SerU64TooBig, SerNeedSize, SerCustom}
use Rattle.bser_format.specs.declared.errors.Message.TheVariants.{Fixed}
use Rattle.std.specs.declared.io.Error as io
use Rattle.bser_ser.specs.Stopped.{Tells, Takes, Accounts}
use Rattle.bser_ser.specs.declared.serializer.Serializer.{Serializer}
use Rattle.bser_ser.specs.declared.serializer.TheConstants.{MOST_PENDING}

-- the serializer's writer
abbrev pub writer_of : {S : Type 0} → Serializer S → S
writer_of s = s.writer

-- the bytes that the writer has still to take
abbrev pub pending_of : {S : Type 0} → Serializer S → List ℕ
pending_of s = s.pending.items

-- an error of the writer, or else out of memory
abbrev pub reason : Option io.Error → Error
reason None = OutOfMemory
reason (Some fault) = Io fault

-- the error of the last put that failed, and out of memory before the first
abbrev pub refusal_of : {S : Type 0} → Serializer S → Error
refusal_of s = reason s.fault

-- the kept reason stays
abbrev pub KeepsReason : {S : Type 0} → Serializer S → Serializer S → Type 0
KeepsReason old new = refusal_of new ≡ refusal_of old

-- what the writer took, followed by what is pending, grew by these bytes, the writer counted no failure, and the kept reason stays
pub record Sent {S : Type 0} (sink : Tells S) (old new : Serializer S) (bytes : List ℕ) : Type 0 where
  pub taken : List ℕ
  pub took_it : sink.took (writer_of old) (writer_of new) taken
  pub grew : pending_of old ++ bytes ≡ taken ++ pending_of new
  pub kept : sink.failures (writer_of new) ≡ sink.failures (writer_of old)
  pub reason_kept : KeepsReason old new

-- after these bytes a put failed, and where the error is the writer's, it is the writer's answer
pub record Refused {S : Type 0} (sink : Tells S) (old new : Serializer S) (bytes : List ℕ) (e : Error) : Type 0 where
  pub taken : List ℕ
  pub took_it : sink.took (writer_of old) (writer_of new) taken
  pub grew : pending_of old ++ bytes ≡ taken ++ pending_of new
  pub why : Accounts sink (writer_of old) (writer_of new) (pending_of old ++ bytes) e

-- nothing was put, for the reason that the serializer keeps
abbrev pub NotPut : {S : Type 0} → Tells S → Serializer S → Serializer S → Type 0
NotPut sink old new = Refused sink old new [] (refusal_of new)

-- out of memory, or an error of the writer
abbrev pub IsExcuse : Error → Type 0
IsExcuse OutOfMemory = ⊤
IsExcuse (Io e) = ⊤
IsExcuse _ = ⊥

-- over this writer, nothing is pending, and nothing failed
abbrev pub IsNew : {S : Type 0} → Serializer S → S → Type 0
IsNew s w = (writer_of s ≡ w) × (pending_of s ≡ []) × (refusal_of s ≡ OutOfMemory)

-- nothing is pending
abbrev pub IsFlushed : {S : Type 0} → Serializer S → Type 0
IsFlushed s = pending_of s ≡ []

-- the writer took all that was pending, and counted no failure
abbrev pub Finishes : {S : Type 0} → Tells S → Serializer S → S → Type 0
Finishes sink s writer = Takes sink (writer_of s) writer (pending_of s)

-- what is put for a field that a template's row does not have
abbrev pub skip_piece : List ℕ
skip_piece = 0x0c ∷ []

-- bytes under a tag, their count before them
abbrev pub string_piece : ℕ → List ℕ → List ℕ
string_piece tag bytes = tag ∷ (least_count (length bytes) ++ bytes)

-- the beginning of a variant, and its payload's tag and count
abbrev pub payload_head : List ℕ → ℕ → ℤ → List ℕ
payload_head name tag n = newtype_variant_head name ++ tag ∷ least_integer n

-- a piece is appended, or nothing
abbrev pub Appends : {A E : Type 0} → List ℕ → List ℕ → List ℕ → Result A E → Type 0
Appends old new piece r = MatchResult r (λ _. new ≡ old ++ piece) (λ _. new ≡ old)

-- at most MOST_PENDING bytes were pending before the piece was put
abbrev pub IsWithin : {S : Type 0} → Serializer S → List ℕ → Type 0
IsWithin s piece = length (pending_of s) ≤ MOST_PENDING + length piece

-- a put appends its piece, or, for a reason of its own or with an excuse, nothing
abbrev pub PutsOr : {S A : Type 0} → (Error → Type 0) → Tells S → Serializer S → Serializer S → List ℕ → Result A Error → Type 0
PutsOr Reason sink old new piece r = MatchResult r
    (λ _. Sent sink old new piece × IsWithin new piece)
    (λ e. Refused sink old new [] e × (IsExcuse e ⊎ Reason e))

-- a put appends its piece or, with an excuse, nothing
abbrev pub Puts : {S A : Type 0} → Tells S → Serializer S → Serializer S → List ℕ → Result A Error → Type 0
Puts sink old new piece r = MatchResult r
    (λ _. Sent sink old new piece × IsWithin new piece)
    (λ e. Refused sink old new [] e × IsExcuse e)

-- a put appends its piece or, with an excuse that the serializer keeps, nothing
abbrev pub Adds : {S A E : Type 0} → Tells S → Serializer S → Serializer S → List ℕ → Result A E → Type 0
Adds sink old new piece r = MatchResult r
    (λ _. Sent sink old new piece × IsWithin new piece)
    (λ _. NotPut sink old new × IsExcuse (refusal_of new))

-- an integer above the greatest i64
abbrev pub IsTooBig : ℕ → Error → Type 0
IsTooBig v e = (e ≡ SerU64TooBig v) × (2 ^ 63 ≤ v)

-- a count above the greatest i64
abbrev pub IsTooMany : ℕ → Error → Type 0
IsTooMany n e = (e ≡ SerCustom (Fixed CountTooGreat)) × (2 ^ 63 ≤ n)

-- a count that is missing, or above the greatest i64
abbrev pub IsMiscounted : Collection → Option ℕ → Error → Type 0
IsMiscounted kind None e = e ≡ SerNeedSize kind
IsMiscounted kind (Some n) e = IsTooMany n e

-- a count that is there, and not above the greatest i64
abbrev pub IsCounted : Option ℕ → Type 0
IsCounted None = ⊥
IsCounted (Some n) = n < 2 ^ 63

-- the count, where it is there
abbrev pub count_or_zero : Option ℕ → ℕ
count_or_zero None = 0
count_or_zero (Some n) = n

-- a put appends the tag and count of so many items or entries, or, where they are miscounted or
-- with an excuse, nothing
abbrev pub PutsHead : {S A : Type 0} → Collection → (ℕ → List ℕ) → Tells S → Serializer S → Serializer S → Option ℕ → Result A Error → Type 0
PutsHead kind head sink old new count r = PutsOr (IsMiscounted kind count) sink old new (head (count_or_zero count)) r
