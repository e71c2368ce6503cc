-- One row more.
use Rattle.std.proofs.Common.{◌+◌, ◌-◌, arith, sym, ◌∙◌}
use Rattle.bser_value.proofs.Joins.{on_ok}
use Rattle.bser_value.proofs.Tables.{rows_step, rows_end}
use Rattle.bser_value.proofs.direct.rows.Goals as goal

pub loop-preserved : goal.loop-preserved
loop-preserved g c =
    rows_step c.args.levels c.args.width c.args.height (c.args.height - c.loop.counter) (c.args.height - (c.loop.counter + 1)) c.args.names.now c.args.bytes.now c.loop.rest.now _ c.loop.objects.items _ _
    (omega (arith, c.loop-test.true)) (on_ok _ c.put_item.result c.put_item.ensures (sym c.is_err.ensures.value ∙ c.if-is_err.false)) c.loop.invariant c.in_ok-object.ensures

pub returns : goal.returns
returns g c =
    rows_end c.args.levels c.args.width c.args.height (c.args.height - c.loop.counter) c.args.names.now c.args.bytes.now c.loop.rest.now c.loop.objects (omega (arith, c.loop-test.false)) c.loop.invariant
