-- The rows up to here are read.
use Rattle.std.proofs.Common.{◌-◌}
use Rattle.bser_value.proofs.Tables.{RowsOn}
use Rattle.bser_value.proofs.direct.rows.Given as goal

abbrev pub invariant-loop : goal.invariant-loop
invariant-loop g l = RowsOn l.levels l.width l.names l.height l.bytes (l.height - l.counter) l.rest l.objects.items
