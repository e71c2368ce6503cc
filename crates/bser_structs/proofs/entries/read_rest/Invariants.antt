use Rattle.std.proofs.Common.{◌-◌, List, length, map}
use Rattle.bser_types.specs.Slots.{StructField}
use Rattle.bser_structs.specs.Rows.{AnyField, ReadsTurns}
use Rattle.bser_structs.proofs.entries.read_rest.Given as goal

abbrev pub invariant-loop-place : goal.invariant-loop-place
invariant-loop-place g l = record {
  some : (ss : List StructField) × g.F.Slots.keeps l.fields ss;
  read : (ss : List StructField) → g.F.Slots.keeps l.fn.fields ss
      → ReadsTurns AnyField (map (λ r. r.now) l.fn.names) (g.F.Slots.keeps l.fields) ss l.fn.at l.place
      l.fn.from.state l.from.state;
}

abbrev pub decreases-loop-place : goal.decreases-loop-place
decreases-loop-place g l = length l.from.state.keys - l.place
