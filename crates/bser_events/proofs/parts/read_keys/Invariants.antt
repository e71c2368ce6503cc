use Rattle.std.proofs.Common.{◌≡◌, ◌-◌}
use Rattle.bser_events.specs.Found.{keys_at}
use Rattle.bser_events.specs.Places.{Placed}
use Rattle.bser_events.proofs.Midways.{Midway}
use Rattle.bser_events.proofs.Tables.{KeysLeft}
use Rattle.bser_events.proofs.parts.read_keys.Given as goal

abbrev pub invariant-loop : goal.invariant-loop
invariant-loop g l = record {
  midway : Midway (Placed g.B.Builder.takes) (keys_at l.count) (KeysLeft (l.count - l.counter)) l.fn.bunser.window l.bunser.window (l.fn.bunser.window, l.fn.builder) (l.bunser.window, l.builder);
  kept : l.bunser.refusal ≡ l.fn.bunser.refusal;
}
