use Rattle.std.proofs.Common.{◌≡◌}
use Rattle.bser_deserializer.specs.State.{State}
use Rattle.bser_types.specs.Accesses.{open_items}
use Rattle.bser_types.proofs.Lists.{ReadsItems}
use Rattle.bser_types.proofs.collects.read_items.Given as goal

abbrev pub invariant-loop-alloc : goal.invariant-loop-alloc
invariant-loop-alloc g l =
    let o : State = l.fn.from.state in
    record {
      same_reference : l.seq.from.ghost_name ≡ l.initial.seq.from.ghost_name;
      items : ReadsItems g.T.Shape.reads g.T.Shape.asks g.T.Shape.holds g.C.Collects.collected o l.items (open_items l.seq);
    }

abbrev pub decreases-loop-alloc : goal.decreases-loop-alloc
decreases-loop-alloc g l = l.seq.head.remaining
