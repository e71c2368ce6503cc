-- The row is the object of its keys and fields.
use Rattle.std.proofs.Common.{refl}
use Rattle.bser_events.proofs.Outcomes.{each_ok}
use Rattle.bser_value.specs.declared.value.Value as value
use Rattle.bser_value.proofs.Parts.{row_made}
use Rattle.bser_value.proofs.Slots.{entry_trees-clone}
use Rattle.bser_value.proofs.table.Table.put_row.Goals as goal

pub returns : goal.returns
returns c = each_ok _ _ c.push.result c.push.ensures (λ pushed. record {
  places = refl;
  count = refl;
  place = refl;
  row = value.Object c.take_fields.new.entries;
  rows = pushed;
  tree = λ ks keys there.
      row_made c.args.self.now ks c.in_ok-entries.entries.entries c.take_fields.new.entries c.truncate.new.self.items keys there c.truncate.ensures.items
      (entry_trees-clone c.args.self.now.places.entries c.in_ok-entries.entries.entries c.in_ok-entries.ensures.cases) c.take_fields.ensures;
})
