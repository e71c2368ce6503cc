-- No value is deeper than its document has nodes and one.
use Rattle.std.proofs.Common.{arith}
use Rattle.bser_document.proofs.Depth.{item_deep}
use Rattle.bser_document.proofs.Alike.{same_decides}
use Rattle.bser_document.proofs.item.Item.same_content.Goals as goal

pub returns : goal.returns
returns c u v h k =
    let deep = item_deep c.args.self u h in
    same_decides u v c.is_same.result (c.is_same.ensures u v h k (omega (arith, deep, c.len-room.ensures)))
