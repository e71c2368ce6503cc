use Rattle.std.proofs.Common.{◌≡◌, ◌-◌, length}
use Rattle.bser_deserializer.specs.State.{State}
use Rattle.bser_types.specs.Accesses.{open_items}
use Rattle.bser_types.proofs.EqualParts.{ReadsEqual}
use Rattle.bser_types.proofs.impls.arrays.ArrayDeserialize.deserialize.Given as goal

abbrev pub invariant-loop-alloc : goal.invariant-loop-alloc
invariant-loop-alloc g l =
    let o : State = l.fn.from.state in
    record {
      same_reference : l.seq.from.ghost_name ≡ l.initial.seq.from.ghost_name;
      items : ReadsEqual g.row.N g.T.Shape.reads g.T.Shape.asks g.T.Shape.needs g.T.Shape.holds o l.items.items (open_items l.seq);
    }

abbrev pub decreases-loop-alloc : goal.decreases-loop-alloc
decreases-loop-alloc g l = g.row.N - length l.items.items
