-- Messages that follow each other.
use Rattle.std.specs.Prelude.{◌≡◌, ℕ, ◌+◌, ◌-◌, ◌^◌, drop, min, false, List, [], Option, Some, None}
use Rattle.std.specs.Io.KnownBytes.{IsAtEnd, Keeps}
use Rattle.bser_format.specs.Content.{Content, Meaning}
use Rattle.bser_format.specs.declared.errors.Error.{Error}
use Rattle.bser_source.specs.Window.{Window}
use Rattle.bser_source.specs.declared.device.Source as source
use Rattle.bser_deserializer.specs.Reading.{Asking}
use Rattle.bser_deserializer.specs.Seen.{Seen}
use Rattle.bser_types.specs.declared.deserialize.Shape as shape
use Rattle.bser_messages.specs.Messages.{IsReaderFault}
use Rattle.bser_messages.specs.Limited.{TookWithin, RefusesReaderWithin}
use Rattle.bser_messages.specs.declared.limits.Limits.{Limits}

-- nothing was left, and nothing is
abbrev pub StaysAtEnd : Option (List ℕ) → Option (List ℕ) → Type 0
StaysAtEnd old new = IsAtEnd old × Keeps old new × IsAtEnd new

-- the next message was taken, or nothing was left
abbrev pub IsNext : {A : Type 0} → ℕ → ℕ → Meaning → (A → Content → Type 0) → Option (List ℕ) → Option (List ℕ) → Option A → Type 0
IsNext n m reads holds old new None = StaysAtEnd old new
IsNext n m reads holds old new (Some v) = TookWithin n m reads holds old new v

-- the error of the next message; where nothing is left, only that memory ran out or the reader
-- failed
pub record RefusesNext (n m : ℕ) (reads : Meaning) (asks : Option (Asking reads)) (e : Error) (old new : Option (List ℕ)) (before after : ℕ) : Type 0 where
  pub refused : RefusesReaderWithin n m reads asks e old new before after
  pub some : old ≡ Some [] → IsReaderFault before after e

-- the same of a reader before and after the call, by what its contract shows
abbrev pub RefusesNextOf : {S : Type 0} → ℕ → ℕ → (reads : Meaning) → Option (Asking reads) → (S → Option (List ℕ)) → (S → ℕ) → S → S → Error → Type 0
RefusesNextOf n m reads asks remaining failures old new e =
    RefusesNext n m reads asks e (remaining old) (remaining new) (failures old) (failures new)

-- nothing was taken of a source that copies, and nothing is buffered or announced
abbrev pub IsFresh : Window → Type 0
IsFresh s = s ≡ record s { buffered = []; count = 0; limit = 0; lends = false; failed = false }

-- ---- what the calls answer, by a type's meaning

-- within these limits
module _ {A : Type 0} (limits : Limits) (type : shape.Ghosts A) where
  -- the message at the front of a slice was read, as what the first part holds, and the second is its length
  abbrev pub FrontRead : List ℕ → A × ℕ → Type 0
  FrontRead bytes p =
      TookWithin limits.levels limits.bytes type.reads type.holds (Some bytes) (Some (drop p.1 bytes)) p.0

  -- the next message of a reader was taken, or nothing was left
  abbrev pub NextRead : {S : Type 0} → source.Ghosts S → S → S → Option A → Type 0
  NextRead told old new answer =
      IsNext limits.levels limits.bytes type.reads type.holds (told.remaining old) (told.remaining new) answer

  -- the next message of a reader is refused as one of the type
  abbrev pub NextRefused : {S : Type 0} → source.Ghosts S → S → S → Error → Type 0
  NextRefused told old new e =
      RefusesNextOf limits.levels limits.bytes type.reads type.asks told.remaining told.failures old new e

  -- the next message of a deserializer's source was taken, or nothing was left
  abbrev pub SourceRead : Seen → Seen → Option A → Type 0
  SourceRead old new answer =
      IsNext limits.levels limits.bytes type.reads type.holds old.state.source.beyond new.state.source.beyond answer

  -- the next message of a deserializer's source is refused as one of the type
  abbrev pub SourceRefused : Seen → Seen → Error → Type 0
  SourceRefused old new e =
      let a = old.state.source in
      let t = new.state.source in
      RefusesNext limits.levels limits.bytes type.reads type.asks e a.beyond t.beyond a.failures t.failures

-- ---- counts

-- one message more, up to the greatest u64
abbrev pub counts_message : {A : Type 0} → Option A → ℕ → ℕ
counts_message None n = n
counts_message (Some v) n = min (n + 1) (2 ^ 64 - 1)
