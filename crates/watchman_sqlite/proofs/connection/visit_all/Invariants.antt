use Rattle.std.proofs.Common.{◌≡◌}
use Rattle.sqlite.specs.Given.{IsPlain}
use Rattle.sqlite.specs.Held.{state}
use Rattle.sqlite.specs.Listing.{understood}
use Rattle.sqlite.specs.State.{HasCleanDisk}
use Rattle.sqlite.specs.Values.{bound}
use Rattle.watchman_sqlite.proofs.Visits.{HasVisited}
use Rattle.watchman_sqlite.proofs.connection.visit_all.Given as goal

abbrev pub invariant-rows : goal.invariant-rows
invariant-rows g l =
    (l.rows.conn.ghost_name ≡ l.initial.rows.conn.ghost_name)
    × (HasCleanDisk (state g.S.Store l.rows.conn.now) → HasCleanDisk (state g.S.Store l.fn.conn))
    × (HasCleanDisk (state g.S.Store l.rows.conn.now) → IsPlain (understood l.fn.conn.schema l.question)
    → HasVisited g.S.Store g.V.Visitor.visits l.question (bound l.params) l.fn.conn l.rows.conn.now l.fn.visitor l.visitor l._row)
