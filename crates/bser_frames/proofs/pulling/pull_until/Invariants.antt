use Rattle.std.proofs.Common.{◌≡◌, ◌≤◌, ◌+◌, ◌-◌, max, ℕ, List, length}
use Rattle.bser_source.specs.Pull.{Reads}
use Rattle.bser_frames.specs.declared.buffer.TheConstants.{STEP}
use Rattle.bser_frames.proofs.pulling.pull_until.Given as goal

-- the buffer is what it held and what the reader gave, with room for one step more at most
pub record Filling (len room : ℕ) (bytes : List ℕ) (reads kept : Type 0) (before : ℕ) : Type 0 where
  pub short : length bytes ≤ len
  pub added : reads
  pub failures : kept
  pub ahead : room ≤ max before (length bytes + STEP)

abbrev pub invariant-loop-buffer : goal.invariant-loop-buffer
invariant-loop-buffer g l = Filling l.len l.buffer.room l.buffer.bytes
    (Reads (g.S.Source.remaining l.initial.reader) (g.S.Source.remaining l.reader) l.fn.buffer.bytes l.buffer.bytes)
    (g.S.Source.failures l.reader ≡ g.S.Source.failures l.initial.reader)
    l.fn.buffer.room

abbrev pub decreases-loop-buffer : goal.decreases-loop-buffer
decreases-loop-buffer g l = l.len - length l.buffer.bytes
