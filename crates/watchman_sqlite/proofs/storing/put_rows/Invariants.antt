use Rattle.std.proofs.Common.{◌≡◌, take}
use Rattle.watchman_sqlite.proofs.Stored.{StoresRows}
use Rattle.watchman_sqlite.proofs.storing.put_rows.Given as goal

abbrev pub invariant-loop-row : goal.invariant-loop-row
invariant-loop-row g l =
    (l.transaction.conn.ghost_name ≡ l.fn.transaction.conn.ghost_name)
    × StoresRows g.S.Store l.put.text (take l.row-index l.rows) l.fn.transaction.conn.now l.transaction.conn.now
