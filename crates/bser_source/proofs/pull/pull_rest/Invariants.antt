use Rattle.std.proofs.Common.{◌≡◌, ◌≤◌, ◌-◌, ℕ, List, length, take}
use Rattle.bser_source.specs.Pull.{Reads}
use Rattle.bser_source.proofs.pull.pull_rest.Given as goal

-- the front of the scratch is what it held and what the reader gave
pub record Filling (filled len : ℕ) (scratch : List ℕ) (reads kept same : Type 0) : Type 0 where
  pub within : filled ≤ length scratch
  pub fits : length scratch ≤ len
  pub added : reads
  pub failures : kept
  pub through : same

abbrev pub invariant-loop-filled : goal.invariant-loop-filled
invariant-loop-filled g l = Filling l.filled l.len l.scratch.items
    (Reads (g.S.Source.remaining l.initial.reader) (g.S.Source.remaining l.reader) l.fn.scratch.items (take l.filled l.scratch.items))
    (g.S.Source.failures l.reader ≡ g.S.Source.failures l.initial.reader) (g.S.Source.through l.reader ≡ g.S.Source.through l.initial.reader)

abbrev pub decreases-loop-filled : goal.decreases-loop-filled
decreases-loop-filled g l = l.len - l.filled
