use Rattle.std.proofs.Common.{◌≡◌}
use Rattle.bser_bunser.proofs.Counted.{Passing}
use Rattle.bser_bunser.proofs.bunser.Bunser.pass_slowly.Given as goal

abbrev pub invariant-loop-left : goal.invariant-loop-left
invariant-loop-left g l = record {
  passing : Passing l.len l.left l.fn.self.window l.self.window;
  kept : l.self.refusal ≡ l.fn.self.refusal;
}

abbrev pub decreases-loop-left : goal.decreases-loop-left
decreases-loop-left g l = l.left
