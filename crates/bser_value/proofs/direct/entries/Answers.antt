-- One entry more.
use Rattle.std.proofs.Common.{◌+◌, ◌-◌, arith, sym, ap, ◌∙◌}
use Rattle.bser_value.specs.ValueView.{entry_trees}
use Rattle.bser_value.proofs.Joins.{entries_begin, entry_step, entries_end, on_ok}
use Rattle.bser_value.proofs.direct.entries.Goals as goal

pub loop-init : goal.loop-init
loop-init g c =
    entries_begin c.args.levels c.args.count (c.args.count - 0) c.args.bytes.now (entry_trees c.new-entries.result.entries) (ap entry_trees c.new-entries.ensures.empty) (omega arith)

pub loop-preserved : goal.loop-preserved
loop-preserved g c =
    entry_step c.args.levels c.args.count (c.args.count - c.loop.counter) (c.args.count - (c.loop.counter + 1)) c.args.bytes.now c.loop.rest.now _ _ _ (entry_trees c.loop.entries.entries) _ c.in-Ok.name _
    (omega (arith, c.loop-test.true)) c.in_ok-name.ensures c.in-Ok.ensures.ok c.in_ok-member.ensures
    (on_ok _ c.put_entry.result c.put_entry.ensures (sym c.is_err.ensures.value ∙ c.if-is_err.false)) c.loop.invariant

pub returns : goal.returns
returns g c =
    entries_end c.args.levels c.args.count (c.args.count - c.loop.counter) c.args.bytes.now c.loop.rest.now c.loop.entries (omega (arith, c.loop-test.false)) c.loop.invariant
