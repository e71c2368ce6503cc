use Rattle.std.proofs.Common.{rules, inr, ◌≢◌, []}
use Rattle.watchman_sqlite.proofs.Tables.{other_tables}
use Rattle.watchman_sqlite.proofs.connection.has_tables.Goals as goal

pub returns-in_err-check_layout-clause-refused : goal.returns-in_err-check_layout-clause-refused
returns-in_err-check_layout-clause-refused g c clean =
    let shown = c.in_ok-rows.ensures.ok (c.check_layout.ensures.clean clean) in
    let named = rw (c.if-branch.true, c.deref.ensures.value) at c.in_ok-has_all.ensures.found in
    let other = c.in_err-check_layout.ensures.refused clean in
    let from = c.from_residual-in_err-check_layout.ensures in
    let it = other_tables g.S.Store c.args.conn.now c.query_all.new.self c.check_layout.new.conn _ (_, shown, named) other in
    search rules

pub returns-then-branch-clause-found : goal.returns-then-branch-clause-found
returns-then-branch-clause-found g c clean =
    let shown = c.in_ok-rows.ensures.ok (c.check_layout.ensures.clean clean) in
    let named = rw (c.if-branch.true, c.deref.ensures.value) at c.in_ok-has_all.ensures.found in
    (c.query_all.new.self, (_, shown, named), c.in_ok-check_layout.ensures.ok clean)

pub returns-then-branch-2-clause-refused : goal.returns-then-branch-2-clause-refused
returns-then-branch-2-clause-refused g c clean =
    let shown = c.in_ok-rows.ensures.ok clean in
    let named = rw (c.if-branch-2.true, c.deref-2.ensures.value) at c.in_ok-has_all-2.ensures.found in
    let unnamed = rw (c.if-branch.false, c.deref.ensures.value) at c.in_ok-has_all.ensures.found in
    inr (_, shown, (named, unnamed))

pub returns-clause-refused : goal.returns-clause-refused
returns-clause-refused g c clean =
    let shown = c.in_ok-rows.ensures.ok clean in
    let unnamed = rw (c.if-branch.false, c.deref.ensures.value) at c.in_ok-has_all.ensures.found in
    let other = rw (c.if-branch-2.false, c.deref-2.ensures.value) at c.in_ok-has_all-2.ensures.found in
    let some : c.in_ok-rows.rows.items ≢ [] = search rules in
    (_, shown, (some, unnamed, other))
