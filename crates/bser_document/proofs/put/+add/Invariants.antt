-- The parts up to here are put.
use Rattle.std.proofs.Common.{ℕ, List, ◌≡◌, ◌≤◌, ◌<◌, ◌*◌, ◌+◌, drop}
use Rattle.std.specs.Map.{keys_of}
use Rattle.bser_format.specs.Measures.{depth, items_depth, entries_depth}
use Rattle.bser_format.specs.Tree.{Tree, entries, entries_of}
use Rattle.bser_format.specs.Tree as trees
use Rattle.bser_document.specs.Pairs.{HoldsEntries}
use Rattle.bser_document.specs.Order.{shown, last_places, HoldsFields}
use Rattle.bser_document.specs.Rows.{Pair, HoldsRows, row_object, row_objects}
use Rattle.bser_document.specs.Sorted.{Lists}
use Rattle.bser_document.specs.Walks.{HoldsItems}
use Rattle.bser_document.proofs.Puts.{PuttingItems, PuttingEntries}
use Rattle.bser_document.proofs.PutPairs.{PuttingSpelled}
use Rattle.bser_document.proofs.RowsPut.{PuttingRows, PuttingFields}
use Rattle.bser_document.proofs.put.+add.Given as goal

abbrev pub decreases-add_item : goal.decreases-add_item
decreases-add_item g l = l.room * 5 + 1

abbrev pub decreases-add_container : goal.decreases-add_container
decreases-add_container g l = l.room * 5

abbrev pub decreases-add_items : goal.decreases-add_items
decreases-add_items g l = l.room * 5 + 2

abbrev pub decreases-add_entries : goal.decreases-add_entries
decreases-add_entries g l = l.room * 5 + 2

abbrev pub invariant-add_items-loop-item : goal.invariant-add_items-loop-item
invariant-add_items-loop-item g l = (us : trees.Items) → HoldsItems l.fn.items us → items_depth us < l.fn.room → PuttingItems g.W.Sink us l.fn.room l.item-iterator l.fn.out l.out

abbrev pub invariant-add_entries-loop-key : goal.invariant-add_entries-loop-key
invariant-add_entries-loop-key g l = (es : trees.Entries) → Lists (entries es) l.sorted.entries → entries_depth es < l.fn.room → PuttingEntries g.W.Sink es l.fn.room l.key-iterator l.fn.out l.out

abbrev pub decreases-add_spelled : goal.decreases-add_spelled
decreases-add_spelled g l = l.room * 5 + 2

abbrev pub invariant-add_spelled-loop-entry : goal.invariant-add_spelled-loop-entry
invariant-add_spelled-loop-entry g l = (m : List (List ℕ × Tree)) → HoldsEntries l.fn.entries m → entries_depth (entries_of m) < l.fn.room → PuttingSpelled g.W.Sink m l.fn.room l.entry-iterator l.fn.out l.out

abbrev pub decreases-add_rows : goal.decreases-add_rows
decreases-add_rows g l = l.room * 5 + 4

abbrev pub decreases-add_row : goal.decreases-add_row
decreases-add_row g l = l.room * 5 + 3

abbrev pub decreases-add_field : goal.decreases-add_field
decreases-add_field g l = l.room * 5 + 2

abbrev pub invariant-add_rows-loop-row : goal.invariant-add_rows-loop-row
invariant-add_rows-loop-row g l = (ks : List (List ℕ)) (ms : List (List Pair)) → HoldsRows l.fn.rows ks ms → items_depth (row_objects ms) < l.fn.room → PuttingRows g.W.Sink ks ms l.fn.room l.row-iterator l.fn.out l.out

abbrev pub invariant-add_row-loop-entry : goal.invariant-add_row-loop-entry
invariant-add_row-loop-entry g l = (m : List Pair) → shown l.order ≡ last_places (keys_of m) → HoldsFields l.fields m → depth (row_object m) ≤ l.fn.room → PuttingFields g.W.Sink m l.fn.room (drop l.entry-index l.order) l.fn.out l.out
