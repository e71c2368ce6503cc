use Rattle.std.proofs.Common.{◌-◌, ◌≤◌, length, take}
use Rattle.bser_canonical.proofs.program.put.Given as goal

abbrev pub invariant-loop-done : goal.invariant-loop-done
invariant-loop-done g l = record {
  within : l.done ≤ length l.line;
  took : g.E.Sink.took l.initial.errors l.errors (take l.done l.line);
  rose : g.E.Sink.failures l.initial.errors ≤ g.E.Sink.failures l.errors;
}

abbrev pub decreases-loop-done : goal.decreases-loop-done
decreases-loop-done g l = length l.line - l.done
