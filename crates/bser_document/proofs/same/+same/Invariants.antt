-- What is left on both sides is the same where all is.
use Rattle.std.proofs.Common.{◌<◌, ◌*◌, ◌+◌}
use Rattle.bser_format.specs.Measures.{items_depth, entries_depth}
use Rattle.bser_format.specs.Tree.{entries}
use Rattle.bser_format.specs.Tree as trees
use Rattle.bser_document.specs.Sorted.{Lists}
use Rattle.bser_document.specs.Walks.{HoldsItems}
use Rattle.bser_document.proofs.Alike.{SameItems, SameEntries}
use Rattle.bser_document.proofs.same.+same.Given as goal

abbrev pub decreases-is_same : goal.decreases-is_same
decreases-is_same l = l.room * 2

abbrev pub decreases-are_same_items : goal.decreases-are_same_items
decreases-are_same_items l = l.room * 2 + 1

abbrev pub decreases-are_same_entries : goal.decreases-are_same_entries
decreases-are_same_entries l = l.room * 2 + 1

abbrev pub invariant-are_same_items-loop-item : goal.invariant-are_same_items-loop-item
invariant-are_same_items-loop-item l = (us vs : trees.Items) → HoldsItems l.fn.items us → HoldsItems l.fn.others vs → items_depth us < l.fn.room → SameItems us vs l.item-iterator l.rest l.fn.room

abbrev pub invariant-are_same_entries-loop-key : goal.invariant-are_same_entries-loop-key
invariant-are_same_entries-loop-key l = (es fs : trees.Entries) → Lists (entries es) l.sorted.entries → Lists (entries fs) l.others.entries → entries_depth es < l.fn.room → SameEntries es fs l.key-iterator l.rest l.fn.room
