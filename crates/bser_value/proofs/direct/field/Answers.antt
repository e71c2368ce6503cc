-- A field that is a value.
use Rattle.bser_events.proofs.Binds.{each_some}
use Rattle.bser_value.proofs.Tables.{field_read}
use Rattle.bser_value.proofs.direct.field.Goals as goal

pub returns : goal.returns
returns g c = each_some _ _ c.value.result c.value.ensures (λ r h. field_read c.args.levels c.args.bytes.now r.rest.now r.value h)
