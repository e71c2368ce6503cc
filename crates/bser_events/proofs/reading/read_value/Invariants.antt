use Rattle.std.proofs.Common.{◌≡◌, ◌≤◌, ◌∷◌, length, vec_capacity}
use Rattle.std.specs.Prelude.{reverse}
use Rattle.bser_source.specs.Window.{Window, AreOctets, consumed}
use Rattle.bser_format.specs.Named.{with_text_keys}
use Rattle.bser_events.specs.Around.{around}
use Rattle.bser_events.specs.Events.{events}
use Rattle.bser_events.specs.Frames.{IsSmall}
use Rattle.bser_events.specs.declared.frame.Remaining.{Remaining}
use Rattle.bser_events.specs.Places.{Placed, reading_at}
use Rattle.bser_events.proofs.Leads.{Leads}
use Rattle.bser_events.proofs.Midways.{Midway}
use Rattle.bser_events.proofs.Measures.{work, Deep}
use Rattle.bser_events.proofs.Runs.{AwaitsNext, Falls, pieces_left}
use Rattle.bser_events.proofs.reading.read_value.Given as goal

abbrev pub invariant-pieces : goal.invariant-pieces
invariant-pieces g l = record {
  inside : l.at ≤ length l.bytes;
  octets : AreOctets l.bytes;
  levels : l.frame.levels ≡ l.initial.frame.levels;
  run : (b : Window) → b.buffered ≡ l.bytes → l.begun ≡ reading_at b
      → Midway (Placed g.B.Builder.takes) (with_text_keys l.fn.levels) (AwaitsNext events l.initial.due l.initial.frame.levels l.initial.frame.parts (reverse (around l.outermost l.frames.items))) l.fn.bunser.window b (l.fn.bunser.window, l.fn.builder) (b, l.initial.builder)
      → Midway (Placed g.B.Builder.takes) (with_text_keys l.fn.levels) (AwaitsNext events l.due l.frame.levels l.frame.parts (reverse (around l.outermost l.frames.items))) l.fn.bunser.window (consumed l.at b) (l.fn.bunser.window, l.fn.builder) (consumed l.at b, l.builder);
  small : IsSmall l.initial.frame.parts → IsSmall l.frame.parts;
  falls : (p : Remaining) → Falls l.initial.due p l.initial.frame.parts → Falls l.due p l.frame.parts;
}

abbrev pub decreases-pieces : goal.decreases-pieces
decreases-pieces g l = pieces_left l.due l.frame.parts

abbrev pub invariant-parts : goal.invariant-parts
invariant-parts g l = record {
  midway : Midway (Placed g.B.Builder.takes) (with_text_keys l.fn.levels) (Leads events (l.frame ∷ reverse (around l.outermost l.frames.items))) l.fn.bunser.window l.bunser.window (l.fn.bunser.window, l.fn.builder) (l.bunser.window, l.builder);
  deep : Deep l.fn.levels (l.frame ∷ reverse (around l.outermost l.frames.items));
  room : vec_capacity l.fn.frames ≤ vec_capacity l.frames;
  kept : l.bunser.refusal ≡ l.fn.bunser.refusal;
}

abbrev pub decreases-parts : goal.decreases-parts
decreases-parts g l = work (l.frame ∷ reverse (around l.outermost l.frames.items))
