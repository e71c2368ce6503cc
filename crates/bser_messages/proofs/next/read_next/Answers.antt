-- The next message of a source of which nothing was taken.
use Rattle.std.proofs.Common.{rules, ap, refl}
use Rattle.bser_messages.proofs.Within.{read_before}
use Rattle.bser_messages.proofs.Readers.{reader_took}
use Rattle.bser_messages.proofs.Nexts.{next_refused, over}
use Rattle.bser_messages.proofs.next.read_next.Goals as goal

pub returns-in-Ok-read_limited-clause-found : goal.returns-in-Ok-read_limited-clause-found
returns-in-Ok-read_limited-clause-found g c =
    let fresh = c.requires.fresh in
    let v = c.in-Ok-read_limited.value in
    reader_took c.args.limits.levels c.args.limits.bytes g.T.Shape.reads g.T.Shape.holds _ _ v (ap (λ w. w.buffered) fresh) (ap (λ w. w.limit) fresh)
    (read_before c.args.limits.levels c.args.limits.bytes g.T.Shape.reads g.T.Shape.holds _ _ _ v c.in-Ok.ensures.ok.filled.grown c.in-Ok-read_limited.ensures.found)

pub returns-in-Err-read_limited-clause-refused : goal.returns-in-Err-read_limited-clause-refused
returns-in-Err-read_limited-clause-refused g c =
    let a = c.args.from.now.state.source in
    next_refused c.args.limits.levels c.args.limits.bytes g.T.Shape.reads g.T.Shape.asks g.T.Shape.needs c.in-Err-read_limited.error
    a.beyond a.failures a.through _ _ _ (search rules) c.requires.fresh c.in-Ok.ensures.ok.filled c.in-Err-read_limited.ensures.refused

pub returns-in-Err-DeReaderError-Eof-clause-found : goal.returns-in-Err-DeReaderError-Eof-clause-found
returns-in-Err-DeReaderError-Eof-clause-found g c =
    let fresh = c.requires.fresh in
    over _ _ _ _ (ap (λ w. w.buffered) fresh) refl refl (c.in-Err-DeReaderError-Eof.ensures.end (search rules))
