-- The fields that were taken, and told beside their keys.
use Rattle.bser_events.specs.Places.{PlacedAs, AnyBytes}
use Rattle.bser_deserializer.specs.Calls.{Keeps}
use Rattle.bser_deserializer.proofs.Rows.{RowPart}
use Rattle.bser_deserializer.proofs.deserializer.Deserializer.tell_row.Given as goal

abbrev pub invariant-loop-place : goal.invariant-loop-place
invariant-loop-place g l =
    record {
      row : RowPart (PlacedAs AnyBytes g.B.Builder.takes) l.place (l.initial.self.state.source, l.initial.builder) (l.self.state.source, l.builder) l.fn.self.state l.self.state;
      kept : Keeps l.fn.self l.self;
    }
