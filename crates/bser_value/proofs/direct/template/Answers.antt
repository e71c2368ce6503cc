-- The parts of a template.
use Rattle.std.proofs.Common.{rules}
use Rattle.bser_events.proofs.Binds.{each_some}
use Rattle.bser_value.proofs.Tables.{table_read}
use Rattle.bser_value.proofs.direct.template.Goals as goal
use Rattle.bser_value.proofs.direct.template.Goals.{else-width-eq0-via-then-width-eq0+else-height-ne0, else-width-eq0-via-else-width-eq0}

pub returns : goal.returns
returns g c =
    each_some _ _ c.rows.result c.rows.ensures
    (λ r h. table_read c.args.levels c.in_ok-width.field-0.count c.in_ok-height.field-0.count c.args.bytes.now c.in_ok-width.field-0.rest.now c.in_ok-after.after.now c.in_ok-height.field-0.rest.now r.rest.now r.value
    c.if-levels-eq0.false (search rules) (search rules) c.in_ok-width.ensures c.in_ok-after.ensures c.in_ok-height.ensures
    (λ e. elim c.else-width-eq0.branch [ else-width-eq0-via-then-width-eq0+else-height-ne0 w ↦ w.if-height-ne0.false | else-width-eq0-via-else-width-eq0 w ↦ absurd (w.if-width-eq0.false e) ])
    h)
