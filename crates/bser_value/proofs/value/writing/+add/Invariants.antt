use Rattle.std.proofs.Common.{length, drop, string_bytes, Ok}
use Rattle.bser_format.specs.Tree.{array, object}
use Rattle.bser_format.specs.Canonical.{IsWritable, ItemsAreWritable, EntriesAreWritable}
use Rattle.bser_format.specs.Pieces.{array_head, object_head}
use Rattle.bser_ser.proofs.Ends.{UpTo}
use Rattle.bser_ser.proofs.Texts.{item_text, entry_text}
use Rattle.bser_value.specs.ValueView.{tree_of, items_view, entries_view}
use Rattle.bser_value.proofs.value.writing.+add.Given as goal

abbrev pub invariant-add_items-loop-item : goal.invariant-add_items-loop-item
invariant-add_items-loop-item g l = record {
  put : UpTo g.W.Sink (array_head (length l.items.items)) (item_text (λ v. Ok (tree_of v))) l.items.items (drop l.item-index l.item-items) l.fn.out l.out;
  writable : ItemsAreWritable (items_view (drop l.item-index l.item-items)) → IsWritable (array (items_view l.items.items));
}

abbrev pub invariant-add_entries-loop-key : goal.invariant-add_entries-loop-key
invariant-add_entries-loop-key g l = record {
  put : UpTo g.W.Sink (object_head (length l.entries.entries)) (entry_text string_bytes (λ v. Ok (tree_of v))) l.entries.entries l.key-iterator l.fn.out l.out;
  writable : EntriesAreWritable (entries_view l.key-iterator) → IsWritable (object (entries_view l.entries.entries));
}
