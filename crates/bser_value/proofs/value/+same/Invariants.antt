use Rattle.std.proofs.Common.{◌≡◌, drop}
use Rattle.std.specs.Slice.Iter.{iter_rest}
use Rattle.bser_format.specs.SameTree.{same_items, same_entries}
use Rattle.bser_value.specs.ValueView.{items_view, entries_view}
use Rattle.bser_value.proofs.value.+same.Given as goal

abbrev pub invariant-are_same_entries-loop-key : goal.invariant-are_same_entries-loop-key
invariant-are_same_entries-loop-key l =
    same_entries (entries_view l.key-iterator) (entries_view l.rest) ≡ same_entries (entries_view l.entries.entries) (entries_view l.others.entries)

abbrev pub invariant-are_same_items-loop-item : goal.invariant-are_same_items-loop-item
invariant-are_same_items-loop-item l =
    (goal.iterator-are_same_items-loop-item).can_next l.rest ×
    (goal.iterator-are_same_items-loop-item).is_finite l.rest ×
    (same_items (items_view (drop l.item-index l.item-items)) (items_view (iter_rest l.rest)) ≡ same_items (items_view l.items.items) (items_view l.others.items))
