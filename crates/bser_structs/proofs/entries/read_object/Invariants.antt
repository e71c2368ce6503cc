use Rattle.std.proofs.Common.{◌≡◌, List, map, false}
use Rattle.bser_deserializer.specs.Access.{OpensPairs}
use Rattle.bser_deserializer.specs.State.{State}
use Rattle.bser_deserializer.specs.View.{pairs_head}
use Rattle.bser_types.specs.Slots.{StructField}
use Rattle.bser_structs.specs.Askings.{all_asked}
use Rattle.bser_structs.proofs.Structs.{AtField}
use Rattle.bser_structs.proofs.entries.read_object.Given as goal

abbrev pub invariant-loop-head : goal.invariant-loop-head
invariant-loop-head g l = record {
  row : l.head.row ≡ false;
  found : List StructField;
  kept : g.F.Slots.keeps l.fields found;
  at : (o : State) → OpensPairs o (pairs_head l.fn.head l.fn.from.state)
      → AtField (map (λ r. r.now) l.fn.names) g.F.Slots.fields (all_asked g.F.Slots.fields g.F.Slots.asks) o found (pairs_head l.head l.from.state);
}

abbrev pub decreases-loop-head : goal.decreases-loop-head
decreases-loop-head g l = l.head.at
