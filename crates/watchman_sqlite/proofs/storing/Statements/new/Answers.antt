use Rattle.std.proofs.Common.{arith}
use Rattle.sqlite.specs.Held.{state}
use Rattle.sqlite.specs.State.{HasCleanDisk}
use Rattle.watchman_sqlite.proofs.storing.Statements.new.Goals as goal

pub returns-clause-texts : goal.returns-clause-texts
returns-clause-texts g c clean =
    let clean2 : HasCleanDisk (state g.S.Store c.prepare-2.new.self) = omega (arith, c.prepare-3.ensures.survives.clean) in
    let clean1 : HasCleanDisk (state g.S.Store c.prepare.new.self) = omega (arith, c.prepare-2.ensures.survives.clean) in
    record { put = (c.in_ok-put.ensures.ok clean1).0; clock = (c.in_ok-clock.ensures.ok clean2).0; source = (c.in_ok-source.ensures.ok clean).0 }
