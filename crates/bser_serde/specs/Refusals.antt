-- Why no value was read.
use Rattle.std.specs.Prelude.{◌≡◌, ◌≢◌, ℕ, List, length, Some}
use Rattle.bser_format.specs.ReadsAny.{reads_ignored}
use Rattle.bser_format.specs.declared.errors.Error.{Error}
use Rattle.bser_format.specs.declared.errors.Error.TheVariants as errors
use Rattle.bser_source.specs.declared.device.Source as source
use Rattle.bser_deserializer.specs.Askings.{asking_ignored}
use Rattle.bser_deserializer.specs.Reading.{owned}
use Rattle.bser_messages.specs.Descriptions.{LiesWithin, cause_of}
use Rattle.bser_messages.specs.Limited.{RefusesSliceWithin}
use Rattle.bser_messages.specs.Streams.{StaysAtEnd, RefusesNextOf}
use Rattle.bser_messages.specs.declared.limits.Limits.{Limits}
use Rattle.bser_messages.specs.declared.told.Reason.TheVariants as reasons
use Rattle.bser_messages.specs.declared.told.TellError.{TellError}
use Rattle.bser_serde.specs.Messages.{BeginsWithMessage, BeginsWithMessageOf, TookMessage}
use Rattle.bser_serde.specs.declared.read_error.ReadError.{ReadError}
use Rattle.bser_serde.specs.declared.read_error.ReadError.TheVariants.{Malformed, Misfit, BytesLeft, Ended, OutOfMemory}

-- an error that names a fault of the bytes or of the reader
abbrev pub IsFault : Error → Type 0
IsFault e = e ≢ errors.OutOfMemory

-- the slice is refused as a message that is passed over, by the name of its first fault
abbrev pub PassesNoSlice : Limits → List ℕ → Error → Type 0
PassesNoSlice limits bytes e = RefusesSliceWithin limits.levels limits.bytes reads_ignored (Some asking_ignored) owned e bytes

-- a reader's next message is refused as one that is passed over, by the name of its first fault, or
-- of the reader's
abbrev pub PassesNoNext : {S : Type 0} → Limits → source.Ghosts S → S → S → Error → Type 0
PassesNoNext limits told old new e =
    RefusesNextOf limits.levels limits.bytes reads_ignored (Some asking_ignored) told.remaining told.failures old new e

-- a slice is not read: no message begins it, by the name of its first fault and with its place; or
-- one does, which is a misfit; or memory ran out
abbrev pub SliceUnread : Limits → List ℕ → ReadError → Type 0
SliceUnread limits bytes (Malformed d) =
    PassesNoSlice limits bytes (cause_of d) × IsFault (cause_of d) × LiesWithin (length bytes) d
SliceUnread limits bytes (Misfit m) = BeginsWithMessage limits bytes
SliceUnread limits bytes (BytesLeft n) = ⊥
SliceUnread limits bytes Ended = ⊥
SliceUnread limits bytes OutOfMemory = Unit {0}

-- a frame is not read: for one of these reasons, or bytes are left behind its message of n bytes
abbrev pub FrameUnread : Limits → List ℕ → ReadError → Type 0
FrameUnread limits bytes (BytesLeft n) = BeginsWithMessageOf limits bytes n × (n ≢ length bytes)
FrameUnread limits bytes e = SliceUnread limits bytes e

-- a reader's next message is not read: it is malformed or the reader failed; or just it was taken,
-- and is a misfit; or no byte was left; or memory ran out
abbrev pub NextUnread : {S : Type 0} → Limits → source.Ghosts S → S → S → ReadError → Type 0
NextUnread limits told old new (Malformed d) = PassesNoNext limits told old new (cause_of d) × IsFault (cause_of d)
NextUnread limits told old new (Misfit m) = TookMessage limits (told.remaining old) (told.remaining new)
NextUnread limits told old new (BytesLeft n) = ⊥
NextUnread limits told old new Ended = StaysAtEnd (told.remaining old) (told.remaining new)
NextUnread limits told old new OutOfMemory = Unit {0}

-- the message is well-formed: it is a misfit, or memory ran out
abbrev pub IsUnfit : ReadError → Type 0
IsUnfit (Misfit m) = Unit {0}
IsUnfit OutOfMemory = Unit {0}
IsUnfit _ = ⊥

-- why a message was not told is why it is not read
abbrev pub IsUntold : TellError → ReadError → Type 0
IsUntold u (Malformed d) = (u.reason ≡ reasons.Failed d) × IsFault (cause_of d)
IsUntold u OutOfMemory = Unit {0}
IsUntold u _ = ⊥
