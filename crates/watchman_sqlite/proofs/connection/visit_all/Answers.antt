use Rattle.std.proofs.Common.{◌∙◌, arith, rules}
use Rattle.sqlite.specs.Held.{state}
use Rattle.sqlite.specs.State.{HasCleanDisk}
use Rattle.sqlite.specs.Values.{bound}
use Rattle.watchman_sqlite.proofs.Visits.{visited_all, visited_more}
use Rattle.watchman_sqlite.proofs.connection.visit_all.Goals as goal

pub rows-preserved : goal.rows-preserved
rows-preserved g c =
    let moved = c.next.follows.holds-at-none in (
      moved.same_reference ∙ c.rows.invariant.0,
      λ clean. c.rows.invariant.1 (omega (arith, moved.survives.clean)),
      λ clean plain.
          let was = c.rows.invariant.2 (omega (arith, moved.survives.clean)) plain in
          let shown = rw (c.in_ok-row.was, c.in-Some.is) at (moved.ok clean) in
          let same = rw c.in_ok-row.was at (moved.same clean) in
          visited_more g.S.Store g.V.Visitor.visits c.args.question.now (bound c.args.params.now) c.args.conn.now c.args.visitor.now _ _ _ _ _ _ was shown same
          (c.in_ok-read.field-0, c.in_ok-read.ensures.found, c.in_ok-visit.ensures.ok),
    )

pub returns-in_default-clause-visited : goal.returns-in_default-clause-visited
returns-in_default-clause-visited g c clean plain =
    let moved = c.next.follows.holds-at-none in
    let now = c.next.follows.lender-at-none.conn.now in
    let late : HasCleanDisk (state g.S.Store now) = search rules in
    let was = c.rows.invariant.2 (omega (arith, moved.survives.clean)) plain in
    let shown = rw (c.in_ok-row.was, c.in_default.is) at (moved.ok late) in
    let same = rw c.in_ok-row.was at (moved.same late) in
    let all = visited_all g.S.Store g.V.Visitor.visits c.args.question.now (bound c.args.params.now) c.args.conn.now c.args.visitor.now _ now c.rows.visitor _ plain was shown same in
    search rules
