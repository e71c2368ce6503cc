use Rattle.std.proofs.Common.{rules, refl, arith}
use Rattle.bser_canonical.proofs.Lines.{part_of_line}
use Rattle.bser_ser.proofs.Sending.{took_more, counted_le}
use Rattle.bser_canonical.proofs.program.put.Goals as goal

pub loop-done-preserved : goal.loop-done-preserved
loop-done-preserved g c = record {
  within = search rules;
  took = took_more g.E.Sink.took g.met.E.Sink.took_both _ _ _ c.loop-done.done c.in-Ok.n _ c.args.line.now c.args.line.now refl c.in-Ok.ensures.bound c.loop-done.invariant.took c.in-Ok.ensures.taken;
  rose = omega (arith, c.in-Ok.ensures.failures, c.loop-done.invariant.rose, counted_le);
}

pub returns-in_default : goal.returns-in_default
returns-in_default g c =
    part_of_line g.E.Sink g.met.E.Sink.took_both _ _ _ c.loop-done.done c.args.line.now c.loop-done.invariant.took c.loop-done.invariant.rose (search rules) (search rules)

pub returns-in_default-2 : goal.returns-in_default-2
returns-in_default-2 g c =
    part_of_line g.E.Sink g.met.E.Sink.took_both _ _ _ c.loop-done.done c.args.line.now c.loop-done.invariant.took c.loop-done.invariant.rose c.in_default.ensures.taken c.in_default.ensures.failures
