-- The rows stand behind the keys and their count.
use Rattle.bser_document.proofs.Places.{rows_known}
use Rattle.bser_document.proofs.Walks.{rows_begin}
use Rattle.bser_document.proofs.item.Item.all_rows.Goals as goal

pub invariant_of-result : goal.invariant_of-result
invariant_of-result c = record {
  rows = rows_known c.args.self c.args.len c.place-at.result c.count_at.result c.place.result c.requires
      (rows_begin c.args.self c.args.len c.place-at.result c.place-head.result c.place.result c.node.result c.count_at.result c.place-at.ensures c.place-head.ensures c.place.ensures c.node.ensures c.count_at.ensures);
}

pub returns-clause-begin : goal.returns-clause-begin
returns-clause-begin c = rows_begin c.args.self c.args.len c.place-at.result c.place-head.result c.place.result c.node.result c.count_at.result c.place-at.ensures c.place-head.ensures c.place.ensures c.node.ensures c.count_at.ensures
