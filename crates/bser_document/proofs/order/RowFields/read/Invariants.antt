-- The fields up to here are found.
use Rattle.std.proofs.Common.{◌≡◌, ◌-◌, ℕ, List}
use Rattle.bser_document.specs.Rows.{HoldsRow, Pair}
use Rattle.bser_document.proofs.Orders.{Noted}
use Rattle.bser_document.proofs.order.RowFields.read.Given as goal

abbrev pub invariant-loop : goal.invariant-loop
invariant-loop l = record {
  document : l.self.document ≡ l.fn.row.document;
  noted : (ks : List (List ℕ)) (m : List Pair) → HoldsRow l.fn.row ks m → Noted l.fn.row.document m l.self.places.items l.at (l.end - l.counter);
}
