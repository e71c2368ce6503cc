-- The items up to here are read.
use Rattle.std.proofs.Common.{◌-◌}
use Rattle.bser_value.proofs.Joins.{ItemsOn}
use Rattle.bser_value.proofs.direct.items.Given as goal

abbrev pub invariant-loop : goal.invariant-loop
invariant-loop g l = ItemsOn l.levels l.count l.bytes (l.count - l.counter) l.rest l.items.items
