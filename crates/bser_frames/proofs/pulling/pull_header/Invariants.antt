use Rattle.std.proofs.Common.{◌≡◌, ◌≤◌, ◌+◌, ◌-◌, max, ℕ, List, length}
use Rattle.bser_source.specs.Pull.{Reads}
use Rattle.bser_frames.specs.Headers.{IsDue}
use Rattle.bser_frames.specs.declared.buffer.TheConstants.{STEP}
use Rattle.bser_frames.proofs.pulling.pull_header.Given as goal

-- the buffer is what it held and what the reader gave, and no more than came of the message
pub record Heading (most room : ℕ) (bytes : List ℕ) (reads kept : Type 0) (before : ℕ) : Type 0 where
  pub due : IsDue most bytes
  pub added : reads
  pub failures : kept
  pub ahead : room ≤ max before (length bytes + STEP)

abbrev pub invariant-loop-length : goal.invariant-loop-length
invariant-loop-length g l = Heading l.most l.buffer.room l.buffer.bytes
    (Reads (g.S.Source.remaining l.initial.reader) (g.S.Source.remaining l.reader) l.fn.buffer.bytes l.buffer.bytes)
    (g.S.Source.failures l.reader ≡ g.S.Source.failures l.initial.reader)
    l.fn.buffer.room

-- a header has at most 15 bytes
abbrev pub decreases-loop-length : goal.decreases-loop-length
decreases-loop-length g l = 16 - length l.buffer.bytes
