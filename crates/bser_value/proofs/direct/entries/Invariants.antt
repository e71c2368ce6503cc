-- The entries up to here are read.
use Rattle.std.proofs.Common.{◌-◌}
use Rattle.bser_value.specs.ValueView.{entry_trees}
use Rattle.bser_value.proofs.Joins.{EntriesOn}
use Rattle.bser_value.proofs.direct.entries.Given as goal

abbrev pub invariant-loop : goal.invariant-loop
invariant-loop g l = EntriesOn l.levels l.count l.bytes (l.count - l.counter) l.rest (entry_trees l.entries.entries)
