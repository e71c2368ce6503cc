-- The field stands behind those before it.
use Rattle.bser_document.proofs.Fields.{field_found, no_field}
use Rattle.bser_document.proofs.rows.Row.field.Goals as goal

pub returns-then-place-self : goal.returns-then-place-self
returns-then-place-self c = no_field c.args.self c.args.place c.if-place-self.true

pub returns : goal.returns
returns c = field_found c.args.self c.args.place c.behind_all.result _ c.if-place-self.false c.behind_all.ensures
