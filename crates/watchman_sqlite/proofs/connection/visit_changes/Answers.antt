use Rattle.std.proofs.Common.{refl, sym}
use Rattle.watchman_sqlite.proofs.Since.{since_visited}
use Rattle.watchman_sqlite.proofs.connection.visit_changes.Goals as goal

pub returns-clause-changed : goal.returns-clause-changed
returns-clause-changed g c clean plain =
    let visited = c.in_ok-visit_all.ensures.visited clean plain in
    let it = since_visited g.V.Visitor.visits g.S.Store c.args.number _ _ _ _ _ _ _ (refl, refl) visited in
    rw (c.visitor-1.given.1 (sym it.1.1)) it.0
