-- A push goes on where the last one stopped.
use Rattle.std.proofs.Common.{rules, [], arith, refl, drop, ℕ, List}
use Rattle.std.proofs.lemmas.Grind.{common_steps}
use Rattle.bser_ser.proofs.Sending.{took_more, took_no_more}
use Rattle.bser_ser.proofs.pushing.push_all.Goals as goal

pub loop-done-preserved : goal.loop-done-preserved
loop-done-preserved g c = record {
  within = search rules;
  took = took_more g.W.Sink.took g.met.W.Sink.took_both _ _ _ c.loop-done.done c.in-Ok.n _ c.args.bytes.now c.args.bytes.now refl c.in-Ok.ensures.bound c.loop-done.invariant.took c.in-Ok.ensures.taken;
  kept = search rules;
}

pub returns-then-n-eq0-clause-front : goal.returns-then-n-eq0-clause-front
returns-then-n-eq0-clause-front g c =
    let none : g.W.Sink.took c.loop-done.writer c.push.new.self [] = rw c.if-n-eq0.true at c.in-Ok.ensures.taken in
    let rest : List ℕ = drop c.loop-done.done c.args.bytes.now in
    (rest, took_no_more g.W.Sink.took g.met.W.Sink.took_both _ _ _ c.loop-done.done c.args.bytes.now c.args.bytes.now rest refl refl c.loop-done.invariant.took none)

pub returns-in-Err-clause-front : goal.returns-in-Err-clause-front
returns-in-Err-clause-front g c =
    let rest : List ℕ = drop c.loop-done.done c.args.bytes.now in
    (rest, took_no_more g.W.Sink.took g.met.W.Sink.took_both _ _ _ c.loop-done.done c.args.bytes.now c.args.bytes.now rest refl refl c.loop-done.invariant.took c.in-Err.ensures.taken)

pub returns-then-n-eq0-clause-err : goal.returns-then-n-eq0-clause-err
returns-then-n-eq0-clause-err g c = grind (arith, common_steps)

pub returns-in-Err-clause-err : goal.returns-in-Err-clause-err
returns-in-Err-clause-err g c = grind (arith, common_steps)
