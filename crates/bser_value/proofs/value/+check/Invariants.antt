use Rattle.std.proofs.Common.{drop}
use Rattle.bser_format.specs.Tree.{array, object}
use Rattle.bser_format.specs.ValueTree.{IsValueTree, ItemsAreValueTrees, EntriesAreValueTrees}
use Rattle.bser_format.specs.Canonical.{IsWritable, ItemsAreWritable, EntriesAreWritable}
use Rattle.bser_value.specs.ValueView.{items_view, entries_view}
use Rattle.bser_value.proofs.value.+check.Given as goal

abbrev pub invariant-check_items-loop-item : goal.invariant-check_items-loop-item
invariant-check_items-loop-item l =
    let rest = items_view (drop l.item-index l.item-items) in
    let whole = array (items_view l.items.items) in
    (ItemsAreValueTrees rest → IsValueTree whole) × (ItemsAreWritable rest → IsWritable whole)

abbrev pub invariant-check_entries-loop-key : goal.invariant-check_entries-loop-key
invariant-check_entries-loop-key l =
    let rest = entries_view l.key-iterator in
    let whole = object (entries_view l.entries.entries) in
    (EntriesAreValueTrees rest → IsValueTree whole) × (EntriesAreWritable rest → IsWritable whole)
