use Rattle.bser_source.proofs.Lists.{item_here}
use Rattle.watchman_types.proofs.Levels.{one_too_deep}
use Rattle.watchman_types.proofs.requests.nesting.+nest.Goals as goal

pub all_nest_within-returns-then-not-nests_within : goal.all_nest_within-returns-then-not-nests_within
all_nest_within-returns-then-not-nests_within t c = (
  λ h. absurd cc,
  λ h.
      let within = one_too_deep c.args.levels c.loop-operand.operand-index c.args.operands.now _ c.operand-item.result (item_here c.args.operands.now c.loop-operand.operand-index c.operand-item.result c.loop-operand-test.true c.operand-item.is) h in
      let nests = c.nests_within.ensures.1 within in
      absurd cc,
)
