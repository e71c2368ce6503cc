-- A beginning of what was made is sent.
use Rattle.std.proofs.Common.{Ok, ap, sym, ◌∙◌}
use Rattle.bser_canonical.proofs.Sent.{missed}
use Rattle.bser_canonical.proofs.buffered.serialize_buffered.Goals as goal

pub returns-clause-err : goal.returns-clause-err
returns-clause-err g c =
    missed g.W.Sink (g.T.Serialize.meaning c.args.value.now) c.deref.result.now c.args.writer.now c.push_all.new.writer c.in-Err.fault (c.in-Ok.ensures.ok ∙ ap Ok (sym c.deref.ensures.value)) c.in-Err.ensures.front c.in-Err.ensures.err
