-- Why there is no next frame.
use Rattle.std.specs.Prelude.{◌≡◌, ℕ, ◌<◌, List, length, Option}
use Rattle.std.specs.Io.KnownBytes.{IsAtEnd}
use Rattle.bser_source.specs.Device.{one_more}
use Rattle.bser_messages.specs.Lengths.{HasLength, RefusesLength}
use Rattle.bser_frames.specs.Headers.{Announces, AtLeast}
use Rattle.bser_frames.specs.declared.error.FrameError.{FrameError}
use Rattle.bser_frames.specs.declared.error.FrameError.TheVariants.{Cut, Header, TooLong, Reader, OutOfMemory}

-- some bytes of a message came and fewer than it has, as far as they show that, and the reader is at its end
pub record IsCut (have want : ℕ) (came : List ℕ) (left : Option (List ℕ)) : Type 0 where
  pub count : length came ≡ have
  pub some : 0 < have
  pub fewer : have < want
  pub least : AtLeast came want
  pub exact : (n : ℕ) → HasLength came n → want ≡ n
  pub end : IsAtEnd left

-- exactly a header came, which announces more than is taken
pub record IsTooLong (limit announced most : ℕ) (came : List ℕ) : Type 0 where
  pub header : Announces came announced
  pub limited : most ≡ limit
  pub more : most < announced

-- why there is no frame, by what came of it and what the reader has left
abbrev pub Stops : ℕ → FrameError → List ℕ → Option (List ℕ) → Type 0
Stops limit (Cut have want) came left = IsCut have want came left
Stops limit (Header e) came left = RefusesLength came e
Stops limit (TooLong announced most) came left = IsTooLong limit announced most came
Stops limit (Reader e) came left = Unit {0}
Stops limit OutOfMemory came left = Unit {0}

-- the reader's failures after an error: an error of its own is one more
abbrev pub failures_after : FrameError → ℕ → ℕ
failures_after (Cut have want) n = n
failures_after (Header e) n = n
failures_after (TooLong announced most) n = n
failures_after (Reader e) n = one_more n
failures_after OutOfMemory n = n

-- the reader failed, or memory ran out
abbrev pub IsFault : FrameError → Type 0
IsFault (Cut have want) = ⊥
IsFault (Header e) = ⊥
IsFault (TooLong announced most) = ⊥
IsFault (Reader e) = Unit {0}
IsFault OutOfMemory = Unit {0}
