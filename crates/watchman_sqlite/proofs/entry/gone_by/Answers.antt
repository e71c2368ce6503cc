use Rattle.std.proofs.Common.{refl}
use Rattle.watchman_sqlite.proofs.Gone.{gone_visited}
use Rattle.watchman_sqlite.proofs.entry.gone_by.Goals as goal

pub returns-clause-gone : goal.returns-clause-gone
returns-clause-gone g c clean plain =
    let visited = c.in_ok-visit_all.ensures.visited clean plain in
    rw c.if-not-changes.false (gone_visited g.S.Store c.args.number c.args.changes.now.files _ _ _ _ _ _ (refl, refl) c.new.ensures.items visited)
