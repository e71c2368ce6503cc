use Rattle.std.proofs.Common.{false, Ok, Err}
use Rattle.sqlite.specs.Held.{state}
use Rattle.sqlite.specs.Values.{bound}
use Rattle.sqlite.proofs.InsideLemmas.{inside_keeps}
use Rattle.watchman_sqlite.proofs.storing.run.Goals as goal

pub returns-clause-put : goal.returns-clause-put
returns-clause-put g c clean inside = (_, c.in_ok-execute_prepared.ensures.runs clean inside)

pub returns-clause-kept : goal.returns-clause-kept
returns-clause-kept g c clean inside =
    inside_keeps (state g.S.Store c.args.transaction.now.conn.now) (state g.S.Store c.execute_prepared.new.self.conn.now) 0 false c.args.statement.now.text (bound c.args.params.now) (Ok c.in_ok-execute_prepared.field-0) (c.in_ok-execute_prepared.ensures.runs clean inside)

pub returns-in_err-execute_prepared-clause-kept : goal.returns-in_err-execute_prepared-clause-kept
returns-in_err-execute_prepared-clause-kept g c clean inside =
    inside_keeps (state g.S.Store c.args.transaction.now.conn.now) (state g.S.Store c.execute_prepared.new.self.conn.now) 0 false c.args.statement.now.text (bound c.args.params.now) (Err _) (c.in_err-execute_prepared.ensures.runs clean inside)
