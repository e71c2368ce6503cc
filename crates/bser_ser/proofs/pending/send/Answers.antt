use Rattle.std.proofs.Common.{rules, ◌≡◌, []}
use Rattle.bser_ser.proofs.Sending.{took_more, took_no_more}
use Rattle.bser_ser.proofs.pending.send.Goals.{in-Ok-eq0, in-Err}
use Rattle.bser_ser.proofs.pending.send.Goals as goal

pub loop-done-preserved : goal.loop-done-preserved
loop-done-preserved g c = record {
  within = search rules;
  took = took_more g.W.Sink.took g.met.W.Sink.took_both _ _ _ c.loop-done.done c.in-Ok.n _ c.loop-done.pending.items c.deref.result.now c.deref.ensures.value c.in-Ok.ensures.bound c.loop-done.invariant.took c.in-Ok.ensures.taken;
  kept = search rules;
  start = search rules;
  same = search rules;
}

pub returns-in-loop-done-clause-sent : goal.returns-in-loop-done-clause-sent
returns-in-loop-done-clause-sent g c =
    let none : g.W.Sink.took c.loop-done.writer c.push.new.self [] = elim c.match-push.branch [ in-Ok-eq0 w ↦ (let zero : w.in-Ok-eq0.field-0 ≡ 0 = search rules in rw zero at w.in-Ok-eq0.ensures.taken) | in-Err w ↦ w.in-Err.ensures.taken ] in
    took_no_more g.W.Sink.took g.met.W.Sink.took_both _ _ _ c.loop-done.done c.loop-done.pending.items _ _ c.loop-done.invariant.same (search rules) c.loop-done.invariant.took none
