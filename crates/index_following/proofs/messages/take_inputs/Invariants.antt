use Rattle.std.proofs.Common.{◌≡◌}
use Rattle.index_following.proofs.messages.take_inputs.Given as goal

abbrev pub invariant-loop-name : goal.invariant-loop-name
invariant-loop-name g l = l.taking.totals.refused ≡ 0
