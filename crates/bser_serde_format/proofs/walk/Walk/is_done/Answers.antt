-- Nothing remains.
use Rattle.std.proofs.Common.{rules}
use Rattle.std.proofs.lemmas.List.{nil_from_length}
use Rattle.bser_serde_format.proofs.Onward.{nothing_remains}
use Rattle.bser_serde_format.proofs.walk.Walk.is_done.Goals as goal

pub returns-then-is_empty : goal.returns-then-is_empty
returns-then-is_empty c is =
    nothing_remains c.args.self.now (nil_from_length c.args.self.now.outer.items (search rules)) (c.is_spent.ensures is)
