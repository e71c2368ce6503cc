-- One item more.
use Rattle.std.proofs.Common.{◌+◌, ◌-◌, arith, sym, ◌∙◌}
use Rattle.bser_value.proofs.Joins.{items_step, items_end, on_ok}
use Rattle.bser_value.proofs.direct.items.Goals as goal

pub loop-preserved : goal.loop-preserved
loop-preserved g c =
    items_step c.args.levels c.args.count (c.args.count - c.loop.counter) (c.args.count - (c.loop.counter + 1)) c.args.bytes.now c.loop.rest.now _ c.loop.items.items _ _
    (omega (arith, c.loop-test.true)) (on_ok _ c.put_item.result c.put_item.ensures (sym c.is_err.ensures.value ∙ c.if-is_err.false)) c.loop.invariant c.in_ok-item.ensures

pub returns : goal.returns
returns g c =
    items_end c.args.levels c.args.count (c.args.count - c.loop.counter) c.args.bytes.now c.loop.rest.now c.loop.items (omega (arith, c.loop-test.false)) c.loop.invariant
