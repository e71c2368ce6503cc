-- The node tells it.
use Rattle.std.proofs.Common.{List, ℕ}
use Rattle.bser_value.specs.Contents.{as_f64}
use Rattle.bser_document.proofs.Holds.{answered, as_f64_emptied, no_float}
use Rattle.bser_document.proofs.item.Item.as_f64.Goals as goal

pub returns-in_default : goal.returns-in_default
returns-in_default c u h =
    let d = c.in_default in
    answered as_f64 c.args.self.document.now c.node.result _ as_f64_emptied (λ (s : List ℕ). no_float s c.node.result d.not-Int d.not-Real) u (c.node.ensures.shows u h)
