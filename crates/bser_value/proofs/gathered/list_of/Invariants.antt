use Rattle.std.proofs.Common.{◌≡◌, ◌++◌, length}
use Rattle.std.specs.Vec.Iter.{into_iter_items, into_iter_len}
use Rattle.bser_value.specs.Gathered.{joined}
use Rattle.bser_value.proofs.gathered.list_of.Given as goal

abbrev pub invariant-loop-piece : goal.invariant-loop-piece
invariant-loop-piece l = record {
  moved : l.list.items ++ joined (into_iter_items l.piece-iterator) ≡ joined l.fn.pieces.items;
  counted : into_iter_len l.piece-iterator ≡ length (into_iter_items l.piece-iterator);
}
