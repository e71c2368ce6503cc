use Rattle.std.proofs.Common.{◌≡◌}
use Rattle.index_following.proofs.messages.Taking.take_stream.Given as goal

abbrev pub invariant-loop : goal.invariant-loop
invariant-loop g l = l.self.totals.refused ≡ l.fn.self.totals.refused
