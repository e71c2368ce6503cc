use Rattle.std.proofs.Common.{◌≡◌, ◌-◌, ◌≤◌, length, take}
use Rattle.bser_ser.proofs.pending.send.Given as goal

abbrev pub invariant-loop-done : goal.invariant-loop-done
invariant-loop-done g l = record {
  within : l.done ≤ length l.pending.items;
  took : g.W.Sink.took l.initial.writer l.writer (take l.done l.pending.items);
  kept : g.W.Sink.failures l.writer ≡ g.W.Sink.failures l.initial.writer;
  start : l.initial.done ≡ 0;
  same : l.pending.items ≡ l.initial.pending.items;
}

abbrev pub decreases-loop-done : goal.decreases-loop-done
decreases-loop-done g l = length l.pending.items - l.done
