-- The fields up to here are read.
use Rattle.std.proofs.Common.{◌-◌}
use Rattle.bser_value.specs.ValueView.{entry_trees}
use Rattle.bser_value.proofs.Tables.{FieldsOn}
use Rattle.bser_value.proofs.direct.row.Given as goal

abbrev pub invariant-loop : goal.invariant-loop
invariant-loop g l = FieldsOn l.levels l.width l.names l.bytes (l.width - l.counter) l.left l.rest (entry_trees l.entries.entries)
