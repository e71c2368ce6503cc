-- When each error of a client comes.
use Rattle.std.specs.Prelude.{◌≡◌, ⊤, ℕ, Bool, true, false, List, Option, Result}
use Rattle.std.specs.Io.KnownBytes.{IsAtEnd}
use Rattle.bser_frames.specs.declared.error.FrameError.{FrameError}
use Rattle.bser_frames.specs.declared.error.FrameError.TheVariants as frame_errors
use Rattle.watchman_client.specs.declared.errors.ClientError.{ClientError}
use Rattle.watchman_client.specs.declared.errors.ClientError.TheVariants.{Outstanding, NoRequest, Failed, Ended, AnswerDue, Unwanted, Full, Memory, Frame, Request, Server, Answer}
use Rattle.watchman_client.specs.Kinds.{TellsError}
use Rattle.watchman_client.specs.Steps.{IsNextKind, IsNextFull}
use Rattle.watchman_client.specs.Views.{Connection, Hand, StopsHere, left_of, view_of}
use Rattle.bser_format.specs.Tree.{Tree}
use Rattle.bser_format.specs.declared.errors.Error.{Error}
use Rattle.bser_format.specs.declared.errors.Error.TheVariants.{OutOfMemory, Io}
use Rattle.bser_deserializer.specs.declared.deserializer.TheConstants.{LEVELS}
use Rattle.bser_messages.specs.Descriptions.{cause_of}
use Rattle.bser_messages.specs.Messages.{SliceRefused}
use Rattle.bser_types.specs.declared.deserialize.Shape as shape
use Rattle.bser_ser.specs.Message.{Missed}
use Rattle.bser_ser.specs.Stopped.{Tells}

-- nothing more comes of the stream
abbrev pub ends_stream : FrameError → Bool
ends_stream (frame_errors.Reader e) = false
ends_stream frame_errors.OutOfMemory = false
ends_stream _ = true

-- the error itself makes the client fail for good
abbrev pub fails : ClientError → Bool
fails (Frame e) = ends_stream e
fails Unwanted = true
fails _ = false

-- no message comes behind the error: the client fails for good, or has failed
abbrev pub ends : ClientError → Bool
ends Failed = true
ends e = fails e

-- a beginning of a message may have been sent before this error
abbrev pub may_be_sent : Error → Bool
may_be_sent (Io e) = true
may_be_sent OutOfMemory = true
may_be_sent _ = false

-- why the next message is not given
abbrev pub IsHindered : {S : Type 0} → (S → Option (List ℕ)) → ClientError → Hand S → Type 0
IsHindered remaining (Frame e) s = StopsHere remaining s e
IsHindered remaining Memory s = ⊤
IsHindered remaining _ s = ⊥

-- why the next message is not given
abbrev pub Hinders : {S W : Type 0} → (S → Option (List ℕ)) → ClientError → Connection S W → Type 0
Hinders remaining NoRequest c = (c.waiting ≡ false) × (c.failed ≡ false)
Hinders remaining Failed c = c.failed ≡ true
Hinders remaining Ended c = IsAtEnd (left_of remaining c.incoming)
Hinders remaining AnswerDue c = (c.waiting ≡ true) × IsNextKind false (left_of remaining c.incoming)
Hinders remaining Unwanted c = (c.waiting ≡ false) × IsNextKind false (left_of remaining c.incoming)
Hinders remaining Full c = IsNextFull c.bounds (view_of remaining c)
Hinders remaining e c = IsHindered remaining e c.incoming

-- all is as it was
pub record Unchanged {S W : Type 0} (remaining : S → Option (List ℕ)) (old new : Connection S W) : Type 0 where
  pub view : view_of remaining new ≡ view_of remaining old
  pub writer : new.writer ≡ old.writer

-- why a request was not sent, or not whole
abbrev pub Unsent : {S W : Type 0} → (S → Option (List ℕ)) → Tells W → Result Tree Error → Connection S W → Connection S W → ClientError → Type 0
Unsent remaining sink m old new Failed = (old.failed ≡ true) × Unchanged remaining old new
Unsent remaining sink m old new Outstanding = (old.waiting ≡ true) × Unchanged remaining old new
Unsent remaining sink m old new (Request e) =
    (old.failed ≡ false) × (old.waiting ≡ false) × (view_of remaining new ≡ record (view_of remaining old) { failed = may_be_sent e }) × Missed sink m old.writer new.writer e × (may_be_sent e ≡ false → new.writer ≡ old.writer)
Unsent remaining sink m old new _ = ⊥

-- ---- what an answer is not read as

-- the message is an object whose `error` this is, or memory ran out
abbrev pub IsToldError : ClientError → List ℕ → Type 0
IsToldError (Server error) message = TellsError error message
IsToldError Memory message = ⊤
IsToldError _ message = ⊥

-- the message reports an error, or is refused as one of the type
abbrev pub Unread : {A : Type 0} → shape.Ghosts A → List ℕ → ClientError → Type 0
Unread type message (Answer e) = SliceRefused LEVELS type message (cause_of e.description)
Unread type message e = IsToldError e message
