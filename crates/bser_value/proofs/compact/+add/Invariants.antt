use Rattle.std.proofs.Common.{drop}
use Rattle.std.specs.List.{AllByRecursion}
use Rattle.bser_format.specs.Tree.{array, object}
use Rattle.bser_format.specs.Canonical.{canonical_items, canonical_entries, canonical_fields, IsWritable, ItemsAreWritable, EntriesAreWritable, FieldsAreWritable}
use Rattle.bser_format.specs.Compact.{values, fold_items, fold_entries}
use Rattle.bser_ser.proofs.AllBut.{AllBut}
use Rattle.bser_value.specs.ValueView.{items_view, entries_view}
use Rattle.bser_value.specs.CompactTexts.{items_text, entries_text, row_text, rows_text, RowIsWritable}
use Rattle.bser_value.proofs.compact.+add.Given as goal

abbrev pub invariant-add_items-loop-item : goal.invariant-add_items-loop-item
invariant-add_items-loop-item g l = record {
  put : AllBut g.W.Sink (items_text l.items.items) (canonical_items (fold_items (items_view (drop l.item-index l.item-items)))) l.fn.out l.out;
  writable : ItemsAreWritable (fold_items (items_view (drop l.item-index l.item-items))) → IsWritable (array (fold_items (items_view l.items.items)));
}

abbrev pub invariant-add_entries-loop-key : goal.invariant-add_entries-loop-key
invariant-add_entries-loop-key g l = record {
  put : AllBut g.W.Sink (entries_text l.entries.entries) (canonical_entries (fold_entries (entries_view l.key-iterator))) l.fn.out l.out;
  writable : EntriesAreWritable (fold_entries (entries_view l.key-iterator)) → IsWritable (object (fold_entries (entries_view l.entries.entries)));
}

abbrev pub invariant-add_rows-loop-item : goal.invariant-add_rows-loop-item
invariant-add_rows-loop-item g l = record {
  put : AllBut g.W.Sink (rows_text l.items.items) (rows_text (drop l.item-index l.item-items)) l.fn.out l.out;
  writable : AllByRecursion RowIsWritable (drop l.item-index l.item-items) → AllByRecursion RowIsWritable l.items.items;
}

abbrev pub invariant-add_row-loop-value : goal.invariant-add_row-loop-value
invariant-add_row-loop-value g l = record {
  put : AllBut g.W.Sink (row_text l.item) (canonical_fields (values (fold_entries (entries_view l.value-iterator)))) l.fn.out l.out;
  writable : FieldsAreWritable (values (fold_entries (entries_view l.value-iterator))) → RowIsWritable l.item;
}
