-- A message that was read, and one that does not end where it was to.
use Rattle.std.proofs.Common.{ap}
use Rattle.std.proofs.lemmas.Result.{err_from_is_err_and}
use Rattle.bser_messages.proofs.Within.{read_short, end_refused_within, message_refused}
use Rattle.bser_messages.proofs.limited.read_limited.Goals as goal

pub returns-in_err-end-in-Ok-clause-refused : goal.returns-in_err-end-in-Ok-clause-refused
returns-in_err-end-in-Ok-clause-refused g c =
    let p = err_from_is_err_and c.from_residual.result c.from_residual.ensures.1 in
    rw (p.1, p.2) (end_refused_within c.args.limits.levels c.args.limits.bytes g.T.Shape.reads g.T.Shape.asks g.T.Shape.holds g.T.Shape.needs _ _ _ c.in-Ok.value c.requires.start c.in-Ok.ensures.found c.in_err-end-in-Ok.ensures.err c.in_err-end-in-Ok.ensures.name)

pub returns-in_ok-end-in-Ok-clause-found : goal.returns-in_ok-end-in-Ok-clause-found
returns-in_ok-end-in-Ok-clause-found g c =
    read_short c.args.limits.levels c.args.limits.bytes g.T.Shape.reads g.T.Shape.holds _ _ c.in-Ok.value c.in-Ok.ensures.found c.in_ok-end-in-Ok.ensures.ok

pub returns-in-Err-clause-refused : goal.returns-in-Err-clause-refused
returns-in-Err-clause-refused g c =
    rw (c.take_refusal.ensures.reason, ap (λ z. z.source) c.take_refusal.ensures.state) (message_refused c.args.limits.levels c.args.limits.bytes g.T.Shape.reads g.T.Shape.asks g.T.Shape.needs _ _ _ c.in-Err.ensures.refused)
