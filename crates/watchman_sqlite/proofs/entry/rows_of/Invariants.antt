use Rattle.std.proofs.Common.{◌≡◌, ◌++◌, map}
use Rattle.watchman_sqlite.specs.Entries.{listed_record, listed_records}
use Rattle.watchman_sqlite.proofs.entry.rows_of.Given as goal

abbrev pub invariant-loop-name : goal.invariant-loop-name
invariant-loop-name l = l.rows.items ++ map (listed_record l.number) l.name-iterator ≡ l.fn.gone.items ++ listed_records l.number l.fn.listed
