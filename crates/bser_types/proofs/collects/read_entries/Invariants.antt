use Rattle.std.proofs.Common.{◌≡◌}
use Rattle.bser_deserializer.specs.State.{State}
use Rattle.bser_types.specs.Accesses.{open_pairs}
use Rattle.bser_deserializer.specs.Parts.{pairs_left}
use Rattle.bser_types.proofs.Maps.{MapOf, AtEntry}
use Rattle.bser_types.proofs.collects.read_entries.Given as goal

-- the types of this map
abbrev pub types : goal.Over → MapOf
types g = record {
  Key = g.row.K.Denot;
  Val = g.row.V.Denot;
  name = g.K.MapKey.name;
  keys = g.K.Shape.reads;
  key_asks = g.K.Shape.asks;
  holds_key = g.K.Shape.holds;
  key_needs = g.K.Shape.needs;
  vals = g.V.Shape.reads;
  val_asks = g.V.Shape.asks;
  holds = g.V.Shape.holds;
  val_needs = g.V.Shape.needs;
  read = g.met.K.MapKey.read_by_name;
  held = g.met.K.MapKey.held_by_name;
}

abbrev pub invariant-loop-entries : goal.invariant-loop-entries
invariant-loop-entries g l =
    let o : State = l.fn.from.state in
    record {
      same_reference : l.map.from.ghost_name ≡ l.initial.map.from.ghost_name;
      at : AtEntry (types g) o (g.M.CollectsEntries.pairs l.entries) (open_pairs l.map);
    }

abbrev pub decreases-loop-entries : goal.decreases-loop-entries
decreases-loop-entries g l = pairs_left (open_pairs l.map).wanted
