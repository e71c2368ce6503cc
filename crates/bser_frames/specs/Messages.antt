-- The messages of a reader, read as values.
use Rattle.std.specs.Prelude.{◌≡◌, ℕ, Bool, true, false, List, Option, Some, None, Result, Ok, Err}
use Rattle.std.specs.Io.KnownBytes.{Keeps}
use Rattle.bser_format.specs.declared.errors.Error.{Error}
use Rattle.bser_source.specs.declared.device.Source as source
use Rattle.bser_types.specs.declared.deserialize.Shape as shape
use Rattle.bser_messages.specs.Messages.{BeginsWith, RefusesReader}
use Rattle.bser_messages.specs.Descriptions.{cause_of}
use Rattle.bser_frames.specs.Stream.{Stream, IsNextFrame, left}
use Rattle.bser_frames.specs.Stops.{Stops, failures_after}
use Rattle.bser_frames.specs.declared.error.MessageError.{MessageError}
use Rattle.bser_frames.specs.declared.error.MessageError.TheVariants.{Frame, Message}

-- the frame is refused as a message of the type, as by a reader that never fails
abbrev pub FrameRefused : {A : Type 0} → ℕ → shape.Ghosts A → List ℕ → Error → Type 0
FrameRefused n type frame e = RefusesReader n type.reads type.asks e (Some frame) 0 0

-- what reading a frame as a value answered, and nothing where there is no frame
abbrev pub read_answer : {A : Type 0} → Result (Option A) MessageError → Result (Option A) Error
read_answer (Ok v) = Ok v
read_answer (Err (Frame e)) = Ok None
read_answer (Err (Message d)) = Err (cause_of d)

module _ {A S : Type 0} (type : shape.Ghosts A) (told : source.Ghosts S) where
  -- the next frame was taken, or nothing was left
  abbrev pub TakesFrame : Stream S → Stream S → Bool → Type 0
  TakesFrame old new whole =
      IsNextFrame old.limits.bytes whole (left told.remaining old) (left told.remaining new) new.frame

  -- the next frame was taken and read, or nothing was left
  abbrev pub GivesMessage : Stream S → Stream S → Option A → Type 0
  GivesMessage old new None = TakesFrame old new false
  GivesMessage old new (Some v) =
      TakesFrame old new true × BeginsWith old.limits.levels type.reads type.holds new.frame v

  -- no frame was taken, or it is refused as a message of the type
  abbrev pub RefusesMessage : Stream S → Stream S → MessageError → Type 0
  RefusesMessage old new (Frame e) =
      Stops old.limits.bytes e new.frame (told.remaining new.reader)
      × Keeps (left told.remaining old) (left told.remaining new)
      × (told.failures new.reader ≡ failures_after e (told.failures old.reader))
  RefusesMessage old new (Message d) =
      TakesFrame old new true × FrameRefused old.limits.levels type new.frame (cause_of d)
