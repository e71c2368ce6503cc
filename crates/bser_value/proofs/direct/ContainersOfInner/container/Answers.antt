-- A container behind its token.
use Rattle.std.proofs.Common.{arith}
use Rattle.bser_events.proofs.Binds.{each_some}
use Rattle.bser_value.proofs.Joins.{array_reads, object_reads}
use Rattle.bser_value.proofs.Tables.{template_reads}
use Rattle.bser_value.proofs.direct.ContainersOfInner.container.Goals as goal

pub returns-in-Array : goal.returns-in-Array
returns-in-Array g c =
    each_some _ _ c.items.result c.items.ensures
    (λ r h. (omega (arith, c.if-levels-eq0.false), array_reads c.args.levels c.in-Array.len c.args.token c.args.bytes.now r.rest.now r.value c.in-Array.is h))

pub returns-in-Object : goal.returns-in-Object
returns-in-Object g c =
    each_some _ _ c.entries.result c.entries.ensures
    (λ r h. (omega (arith, c.if-levels-eq0.false), object_reads c.args.levels c.in-Object.len c.args.token c.args.bytes.now r.rest.now r.value c.in-Object.is h))

pub returns-in-Template : goal.returns-in-Template
returns-in-Template g c =
    each_some _ _ c.template.result c.template.ensures
    (λ r h. (omega (arith, c.if-levels-eq0.false), template_reads c.args.levels c.args.token c.args.bytes.now r.rest.now r.value c.in-Template.is h))
