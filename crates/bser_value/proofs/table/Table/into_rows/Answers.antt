-- The last row is no copy of the keys.
use Rattle.std.proofs.Common.{refl, ◌∙◌, arith}
use Rattle.std.proofs.lemmas.Result.{IfOk-weaker}
use Rattle.bser_value.specs.declared.value.Value as value
use Rattle.bser_value.proofs.Parts.{row_made, builds_last}
use Rattle.bser_value.proofs.table.Table.into_rows.Goals as goal

pub returns : goal.returns
returns c =
    IfOk-weaker c.into_list-2.result _ _ (λ v same.
    builds_last c.args.self v.items (value.Object c.take_fields.new.entries) (omega (arith, c.if-place-eq0.false)) (omega (arith, c.if-place-count.false)) (same ∙ c.in_ok-push.ensures)
    (λ ks keys there. row_made c.args.self ks c.args.self.places.entries c.take_fields.new.entries c.truncate.new.self.items keys there c.truncate.ensures.items refl c.take_fields.ensures))
    c.into_list-2.ensures
