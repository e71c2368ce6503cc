-- What a message is read as under limits: of n levels, and of m bytes of its body.
use Rattle.std.specs.Prelude.{◌≡◌, ◌⊎◌, ◌≤◌, ◌<◌, ◌^◌, ◌-◌, ℕ, List, ◌++◌, length, Option, Some}
use Rattle.std.specs.Io.KnownBytes.{Consumes}
use Rattle.bser_format.specs.Content.{Content, Meaning}
use Rattle.bser_format.specs.Message.{Head}
use Rattle.bser_format.specs.declared.errors.Error.{Error}
use Rattle.bser_format.specs.declared.errors.Error.TheVariants.{DeTooLong}
use Rattle.bser_source.specs.declared.device.Source as source
use Rattle.bser_source.specs.Window.{Window, Took, closed, left, with_limit}
use Rattle.bser_deserializer.specs.Reading.{Asking, ExcusedBy, bare, Needs}
use Rattle.bser_deserializer.specs.Seen.{Seen}
use Rattle.bser_deserializer.specs.State.{State}
use Rattle.bser_deserializer.specs.declared.deserializer.TheConstants.{LEVELS}
use Rattle.bser_types.specs.declared.deserialize.Shape as shape
use Rattle.bser_messages.specs.declared.limits.Limits.{Limits}
use Rattle.bser_messages.specs.Messages.{BeginsWith, TookMessage, ReadsMessage, ReadsBody, RefusesBody, RefusesMessage, RefusesSlice, RefusesReader, IsReaderFault}

-- a limit of bytes that no body exceeds
abbrev pub any_length : ℕ
any_length = 2 ^ 64 - 1

-- the limits where none are given
abbrev pub usual_limits : Limits
usual_limits = record { levels = LEVELS; bytes = any_length }

-- ---- what is read

-- a prefix of the bytes is a message that reads as what v holds, and its body has at most m bytes
pub record BeginsWithin {A : Type 0} (n m : ℕ) (reads : Meaning) (holds : A → Content → Type 0) (bytes : List ℕ) (v : A) : Type 0 where
  pub whole : BeginsWith n reads holds bytes v
  pub short : length whole.message.message.body ≤ m

-- exactly one message was taken, which reads as what v holds, and its body has at most m bytes
pub record TookWithin {A : Type 0} (n m : ℕ) (reads : Meaning) (holds : A → Content → Type 0) (old new : Option (List ℕ)) (v : A) : Type 0 where
  pub whole : TookMessage n reads holds old new v
  pub short : length whole.message.message.body ≤ m

-- a source took exactly one message, whose body has at most m bytes
pub record ReadsWithin {A : Type 0} (n m : ℕ) (reads : Meaning) (holds : A → Content → Type 0) (old new : Window) (v : A) : Type 0 where
  pub whole : ReadsMessage n reads holds old new v
  pub short : length whole.message.message.body ≤ m

-- a header that announces at most m bytes was taken, and then its value
pub record ReadsBodyWithin {A : Type 0} (n m : ℕ) (reads : Meaning) (holds : A → Content → Type 0) (old : Window) (new : State) (v : A) : Type 0 where
  pub whole : ReadsBody n reads holds old new v
  pub short : whole.begins.took.size ≤ m

-- ---- a body that is too long

-- exactly a header was taken, which announces more than m bytes, and e has both numbers
pub record TooLong (m : ℕ) (e : Error) (old new : Option (List ℕ)) : Type 0 where
  pub capabilities : ℕ
  pub announced : ℕ
  pub text : List ℕ
  pub head : Head capabilities announced text
  pub bytes : Consumes old new text
  pub more : m < announced
  pub name : e ≡ DeTooLong announced m

-- exactly such a header was taken from a source, which was closed
pub record StopsAt (m : ℕ) (e : Error) (old new : Window) : Type 0 where
  pub capabilities : ℕ
  pub announced : ℕ
  pub text : List ℕ
  pub head : Head capabilities announced text
  pub at : Window
  pub took : Took old (with_limit old.limit at) text
  pub end : new ≡ closed at
  pub more : m < announced
  pub name : e ≡ DeTooLong announced m

-- the bytes begin with a header that announces more than m bytes
abbrev pub TooLongSlice : ℕ → Error → List ℕ → Type 0
TooLongSlice m e bytes = (rest : List ℕ) × TooLong m e (Some bytes) (Some rest)

-- ---- its errors

-- a header at the start announces at most m bytes, or there is a reason outside the bytes
abbrev pub AnnouncesShort : ℕ → Error → Window → Type 0
AnnouncesShort m e s =
    (c k : ℕ) (text rest : List ℕ)
    → Head c k text → left s ≡ Some (text ++ rest) → (k ≤ m) ⊎ ExcusedBy bare (length text) e s

-- the error of a header or a value, not for the limit of bytes
pub record RefusesShortBody (n m : ℕ) (reads : Meaning) (asks : Option (Asking reads)) (needs : Needs) (e : Error) (old new : Window) : Type 0 where
  pub announced : AnnouncesShort m e old
  pub refused : RefusesBody n reads asks needs e old new

-- the error of a header or a value
abbrev pub RefusesBodyWithin : ℕ → ℕ → (reads : Meaning) → Option (Asking reads) → Needs → Error → Window → Window → Type 0
RefusesBodyWithin n m reads asks needs e old new =
    StopsAt m e old new ⊎ RefusesShortBody n m reads asks needs e old new

-- the error of a message, not for the limit of bytes
pub record RefusesShort (n m : ℕ) (reads : Meaning) (asks : Option (Asking reads)) (needs : Needs) (e : Error) (old new : Window) : Type 0 where
  pub announced : AnnouncesShort m e old
  pub refused : RefusesMessage n reads asks needs e old new

-- the error of a message
abbrev pub RefusesWithin : ℕ → ℕ → (reads : Meaning) → Option (Asking reads) → Needs → Error → Window → Window → Type 0
RefusesWithin n m reads asks needs e old new =
    StopsAt m e old new ⊎ RefusesShort n m reads asks needs e old new

-- ---- slices

-- where a header is at the start, it announces at most m bytes
abbrev pub AnnouncesAtMost : ℕ → List ℕ → Type 0
AnnouncesAtMost m bytes = (c k : ℕ) (text rest : List ℕ) → Head c k text → bytes ≡ text ++ rest → k ≤ m

-- the error of a slice, not for the limit of bytes
pub record RefusesShortSlice (n m : ℕ) (reads : Meaning) (asks : Option (Asking reads)) (needs : Needs) (e : Error) (bytes : List ℕ) : Type 0 where
  pub announced : AnnouncesAtMost m bytes
  pub refused : RefusesSlice n reads asks needs e bytes

-- the error of a slice: of its header, which announces too much, or else as without a limit of
-- bytes
abbrev pub RefusesSliceWithin : ℕ → ℕ → (reads : Meaning) → Option (Asking reads) → Needs → Error → List ℕ → Type 0
RefusesSliceWithin n m reads asks needs e bytes =
    TooLongSlice m e bytes ⊎ RefusesShortSlice n m reads asks needs e bytes

-- ---- readers

-- the error of a reader, not for the limit of bytes: a header at the start announces at most m
-- bytes, or memory ran out or the reader failed
pub record RefusesShortReader (n m : ℕ) (reads : Meaning) (asks : Option (Asking reads)) (e : Error) (left : Option (List ℕ)) (before after : ℕ) : Type 0 where
  pub announced : (c k : ℕ) (text rest : List ℕ) → Head c k text → left ≡ Some (text ++ rest) → (k ≤ m) ⊎ IsReaderFault before after e
  pub refused : RefusesReader n reads asks e left before after

-- the header that announces too much was taken, and no failure counted
pub record TooLongReader (m : ℕ) (e : Error) (old new : Option (List ℕ)) (before after : ℕ) : Type 0 where
  pub head : TooLong m e old new
  pub failures : after ≡ before

-- the error of a reader: after its header, which announces too much, or else as without a limit of
-- bytes
abbrev pub RefusesReaderWithin : ℕ → ℕ → (reads : Meaning) → Option (Asking reads) → Error → Option (List ℕ) → Option (List ℕ) → ℕ → ℕ → Type 0
RefusesReaderWithin n m reads asks e old new before after =
    TooLongReader m e old new before after ⊎ RefusesShortReader n m reads asks e old before after

-- the same of a reader before and after the call, by what its contract shows
abbrev pub RefusesReadingWithin : {S : Type 0} → ℕ → ℕ → (reads : Meaning) → Option (Asking reads) → (S → Option (List ℕ)) → (S → ℕ) → S → S → Error → Type 0
RefusesReadingWithin n m reads asks remaining failures old new e =
    RefusesReaderWithin n m reads asks e (remaining old) (remaining new) (failures old) (failures new)

-- ---- what the calls answer, by a type's meaning

-- within these limits
module _ {A : Type 0} (limits : Limits) (type : shape.Ghosts A) where
  -- a front of the bytes is a message that reads as what v holds
  abbrev pub BeginsInLimits : List ℕ → A → Type 0
  BeginsInLimits bytes v = BeginsWithin limits.levels limits.bytes type.reads type.holds bytes v

  -- a slice is refused as a message of the type
  abbrev pub FrontFails : List ℕ → Error → Type 0
  FrontFails bytes e =
      RefusesSliceWithin limits.levels limits.bytes type.reads type.asks type.needs e bytes

  -- exactly one message of a deserializer was read, as what v holds
  abbrev pub LimitedRead : Seen → Seen → A → Type 0
  LimitedRead old new v =
      ReadsWithin limits.levels limits.bytes type.reads type.holds old.state.source new.state.source v

  -- a deserializer's message is refused as one of the type
  abbrev pub LimitedRefused : Seen → Seen → Error → Type 0
  LimitedRefused old new e =
      RefusesWithin limits.levels limits.bytes type.reads type.asks type.needs e old.state.source new.state.source

  -- the head of a deserializer's message and its value were read, as what v holds
  abbrev pub LimitedBodyRead : Seen → Seen → A → Type 0
  LimitedBodyRead old new v =
      ReadsBodyWithin limits.levels limits.bytes type.reads type.holds old.state.source new.state v

  -- the head or the value of a deserializer's message is refused
  abbrev pub LimitedBodyRefused : Seen → Seen → Type 0
  LimitedBodyRefused old new =
      RefusesBodyWithin limits.levels limits.bytes type.reads type.asks type.needs new.refusal old.state.source new.state.source

  -- exactly the next message of a reader was taken, which reads as what v holds
  abbrev pub LimitedReaderRead : {S : Type 0} → source.Ghosts S → S → S → A → Type 0
  LimitedReaderRead told old new v =
      TookWithin limits.levels limits.bytes type.reads type.holds (told.remaining old) (told.remaining new) v

  -- a reader's next message is refused as one of the type
  abbrev pub LimitedReaderRefused : {S : Type 0} → source.Ghosts S → S → S → Error → Type 0
  LimitedReaderRefused told old new e =
      RefusesReadingWithin limits.levels limits.bytes type.reads type.asks told.remaining told.failures old new e
