use Rattle.std.proofs.Common.{arith}
use Rattle.sqlite.specs.Held.{state}
use Rattle.sqlite.specs.State.{HasCleanDisk}
use Rattle.watchman_sqlite.proofs.Stored.{parts_put}
use Rattle.watchman_sqlite.proofs.storing.put_parts.Goals as goal

pub returns-clause-put : goal.returns-clause-put
returns-clause-put g c clean inside =
    let clean2 : HasCleanDisk (state g.S.Store c.put_clock.new.transaction.conn.now) = omega (arith, clean, c.put_source.ensures.survives.clean) in
    let clean1 : HasCleanDisk (state g.S.Store c.put_rows.new.transaction.conn.now) = omega (arith, clean2, c.put_clock.ensures.survives.clean) in
    let inside1 = c.in_ok-put_rows.ensures.inside clean1 inside in
    let inside2 = c.in_ok-put_clock.ensures.inside clean2 inside1 in
    parts_put g.S.Store c.args.by.now c.args.entry.now c.args.transaction.now.conn.now c.put_rows.new.transaction.conn.now c.put_clock.new.transaction.conn.now c.put_source.new.transaction.conn.now (c.put_rows.ensures.kept clean1 inside) (rw c.deref.ensures.value at (c.in_ok-put_rows.ensures.put clean1 inside))
    (c.in_ok-put_clock.ensures.put clean2 inside1) (c.in_ok-put_source.ensures.put clean inside2)
