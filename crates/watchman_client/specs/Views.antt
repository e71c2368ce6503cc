-- What callers see of a client.
use Rattle.std.specs.Prelude.{◌≡◌, ℕ, ◌-◌, Bool, true, false, if◌then◌else◌, List, [], length, Option}
use Rattle.std.specs.Io.KnownBytes.{IsAtEnd, prepend_known}
use Rattle.bser_frames.specs.Stops.{Stops}
use Rattle.bser_frames.specs.Stream.{Stream, left}
use Rattle.bser_frames.specs.declared.error.FrameError.{FrameError}
use Rattle.watchman_client.specs.Kept.{IsWithin}
use Rattle.watchman_client.specs.Kinds.{IsKind, IsWhole, TellsNoError}
use Rattle.watchman_client.specs.declared.bounds.Bounds.{Bounds}
use Rattle.watchman_client.specs.declared.next.NextMessage.{NextMessage}
use Rattle.watchman_client.specs.declared.next.NextMessage.TheVariants.{End, Unsolicited, Answer}

-- ---- the messages that come

-- the stream, and whether its last frame is in hand: it was read, and is not taken yet
pub record Hand (S : Type 0) : Type 0 where
  pub stream : Stream S
  pub held : Bool

-- what is left: the message in hand, and the stream behind it
abbrev pub left_of : {S : Type 0} → (S → Option (List ℕ)) → Hand S → Option (List ℕ)
left_of remaining h = prepend_known (if h.held then h.stream.frame else []) (left remaining h.stream)

-- why no message is in hand, by what came of the next one and what the reader has
abbrev pub StopsHere : {S : Type 0} → (S → Option (List ℕ)) → Hand S → FrameError → Type 0
StopsHere remaining h e = Stops h.stream.limits.bytes e h.stream.frame (remaining h.stream.reader)

-- the message in hand is unsolicited, or is not
pub record HasNext {S : Type 0} (unsolicited : Bool) (h : Hand S) : Type 0 where
  pub hand : h.held ≡ true
  pub frame : IsWhole h.stream.frame
  pub kind : IsKind unsolicited h.stream.frame

-- what comes next; an unsolicited message may be known to report no error
abbrev pub IsNext : {S : Type 0} → (S → Option (List ℕ)) → Hand S → NextMessage → Type 0
IsNext remaining h End = IsAtEnd (left_of remaining h)
IsNext remaining h (Unsolicited errorless) = HasNext true h × (errorless ≡ true → TellsNoError h.stream.frame)
IsNext remaining h Answer = HasNext false h

-- ---- a client

-- the messages that come, those that are kept and within which bounds, the writer, whether a request
-- is outstanding, whether a call failed for good, and the message that was given last
pub record Connection (S W : Type 0) : Type 0 where
  pub incoming : Hand S
  pub kept : List (List ℕ)
  pub bounds : Bounds
  pub writer : W
  pub waiting : Bool
  pub failed : Bool
  pub message : List ℕ

-- what is left of the stream, the unsolicited messages that are kept, whether a request is
-- outstanding, whether a call failed for good, and the message that was given last
pub record View : Type 0 where
  pub left : Option (List ℕ)
  pub kept : List (List ℕ)
  pub waiting : Bool
  pub failed : Bool
  pub message : List ℕ

abbrev pub view_of : {S W : Type 0} → (S → Option (List ℕ)) → Connection S W → View
view_of remaining c = record {
  left = left_of remaining c.incoming;
  kept = c.kept;
  waiting = c.waiting;
  failed = c.failed;
  message = c.message;
}

-- the bounds are as they were, how long a message may be too, and what is kept is within them
pub record StaysWithin {S W : Type 0} (old new : Connection S W) : Type 0 where
  pub bounds : new.bounds ≡ old.bounds
  pub limits : new.incoming.stream.limits ≡ old.incoming.stream.limits
  pub within : IsWithin new.bounds new.kept

-- how many messages more may be kept
abbrev pub room_of : {S W : Type 0} → Connection S W → ℕ
room_of c = c.bounds.kept_messages - length c.kept
