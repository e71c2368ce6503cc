use Rattle.std.proofs.Common.{arith}
use Rattle.sqlite.specs.Held.{state}
use Rattle.sqlite.specs.State.{HasCleanDisk}
use Rattle.watchman_sqlite.proofs.storing.store.Goals as goal

pub returns-clause-stored : goal.returns-clause-stored
returns-clause-stored g c clean plain =
    let late : HasCleanDisk (state g.S.Store c.of.new.conn) = omega (arith, clean, c.put_entry.ensures.crash.clean) in
    (c.of.new.conn, c.in_ok-entry.ensures.rows late plain, c.in_ok-put_entry.ensures.stored clean)
