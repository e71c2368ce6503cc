use Rattle.std.proofs.Common.{◌∙◌, sym, refl, arith, rules}
use Rattle.sqlite.specs.Held.{state}
use Rattle.sqlite.specs.State.{HasCleanDisk}
use Rattle.watchman_sqlite.proofs.Made.{entry_as_before, entry_survives}
use Rattle.watchman_sqlite.proofs.storing.put_entry.Goals as goal

pub returns-in_err-commit-clause-neither : goal.returns-in_err-commit-clause-neither
returns-in_err-commit-clause-neither g c clean is_open =
    let same = c.conn-2-1.given.1 (sym (c.put_parts.ensures.same_reference ∙ c.transaction-transaction.ensures.same_reference)) in
    let last = rw same at clean in
    let late : HasCleanDisk (state g.S.Store c.put_parts.new.transaction.conn.now) = omega (arith, c.commit.ensures.survives.clean) in
    let put = rw c.transaction-transaction.ensures.begun at (c.in_ok-put_parts.ensures.put late) in
    let before = entry_as_before g.S.Store _ _ c.args.conn.now c.put_parts.new.transaction.conn.now (state g.S.Store c.commit.new.self.0) _ (put refl) (c.if-not-is_autocommit.ensures.settled refl) (c.in_err-commit.ensures.err last) (rw same at is_open) in
    search rules

pub returns-in_err-commit-clause-crash : goal.returns-in_err-commit-clause-crash
returns-in_err-commit-clause-crash g c =
    let begun = c.transaction-transaction.ensures.begun in
    rw (c.conn-2-1.given.1 (sym (c.put_parts.ensures.same_reference ∙ c.transaction-transaction.ensures.same_reference)))
    (entry_survives g.S.Store _ _ c.args.conn.now c.put_parts.new.transaction.conn.now (state g.S.Store c.commit.new.self.0) (rw begun at c.put_parts.ensures.survives) (λ clean. (rw begun at (c.in_ok-put_parts.ensures.put clean)) refl) c.in_err-commit.ensures.survives)

pub returns-clause-stored : goal.returns-clause-stored
returns-clause-stored g c clean =
    let same = c.conn-2-1.given.1 (sym (c.put_parts.ensures.same_reference ∙ c.transaction-transaction.ensures.same_reference)) in
    let last = rw same at clean in
    let late : HasCleanDisk (state g.S.Store c.put_parts.new.transaction.conn.now) = omega (arith, c.commit.ensures.survives.clean) in
    let put = rw c.transaction-transaction.ensures.begun at (c.in_ok-put_parts.ensures.put late) in
    let shows = (c.in_ok-commit.ensures.ok last).1 in
    rw same (record { last = c.put_parts.new.transaction.conn.now; put = put refl; is = shows.committed_is })

pub returns-clause-crash : goal.returns-clause-crash
returns-clause-crash g c =
    let begun = c.transaction-transaction.ensures.begun in
    rw (c.conn-2-1.given.1 (sym (c.put_parts.ensures.same_reference ∙ c.transaction-transaction.ensures.same_reference)))
    (entry_survives g.S.Store _ _ c.args.conn.now c.put_parts.new.transaction.conn.now (state g.S.Store c.commit.new.self.0) (rw begun at c.put_parts.ensures.survives) (λ clean. (rw begun at (c.in_ok-put_parts.ensures.put clean)) refl) c.in_ok-commit.ensures.survives)
