-- What callers see of what gives the messages of a reader as bytes.
use Rattle.std.specs.Prelude.{◌≡◌, ◌≤◌, ℕ, ◌+◌, ◌-◌, ◌^◌, min, Bool, true, false, if◌then◌else◌, List, [], length, Option}
use Rattle.std.specs.Io.KnownBytes.{Consumes, prepend_known}
use Rattle.bser_messages.specs.Streams.{StaysAtEnd}
use Rattle.bser_messages.specs.declared.limits.Limits.{Limits}
use Rattle.bser_frames.specs.Headers.{IsFrame}

-- the reader, the limits, the frame, whether it was taken or is what came of the one that is due,
-- how many bytes of the stream lie before it, and how many bytes there is room for
pub record Stream (S : Type 0) : Type 0 where
  pub reader : S
  pub limits : Limits
  pub frame : List ℕ
  pub taken : Bool
  pub position : ℕ
  pub room : ℕ

-- what came of the message that is due
abbrev pub due_of : {S : Type 0} → Stream S → List ℕ
due_of s = if s.taken then [] else s.frame

-- what is left: what came of the message that is due, and what the reader has
abbrev pub left : {S : Type 0} → (S → Option (List ℕ)) → Stream S → Option (List ℕ)
left remaining s = prepend_known (due_of s) (remaining s.reader)

-- where the message that is due begins, up to the greatest u64
abbrev pub next_position : {S : Type 0} → Stream S → ℕ
next_position s = if s.taken then min (s.position + length s.frame) (2 ^ 64 - 1) else s.position

-- the bytes are a header and as many more as it announces, which are at most so many
pub record IsFrameWithin (most : ℕ) (bytes : List ℕ) : Type 0 where
  pub whole : IsFrame bytes
  pub short : whole.announced ≤ most

-- exactly the next frame was taken, or nothing was left and there is none
abbrev pub IsNextFrame : ℕ → Bool → Option (List ℕ) → Option (List ℕ) → List ℕ → Type 0
IsNextFrame most true old new frame = IsFrameWithin most frame × Consumes old new frame
IsNextFrame most false old new frame = StaysAtEnd old new × (frame ≡ [])
