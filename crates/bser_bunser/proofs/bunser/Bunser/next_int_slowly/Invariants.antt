use Rattle.std.proofs.Common.{◌≡◌, ◌-◌, length}
use Rattle.bser_format.specs.Named.{int}
use Rattle.bser_bunser.proofs.Looks.{Looking}
use Rattle.bser_bunser.proofs.bunser.Bunser.next_int_slowly.Given as goal

abbrev pub invariant-loop-value : goal.invariant-loop-value
invariant-loop-value g l = record {
  looking : Looking int l.initial.self.window l.self.window;
  kept : l.self.refusal ≡ l.initial.self.refusal;
}

abbrev pub decreases-loop-value : goal.decreases-loop-value
decreases-loop-value g l = 10 - length l.self.window.buffered
