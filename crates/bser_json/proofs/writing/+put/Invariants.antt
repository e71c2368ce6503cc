-- The parts up to here are put.
use Rattle.std.proofs.Common.{◌≡◌, ◌*◌, ◌+◌, ℕ, List, drop}
use Rattle.std.specs.Map.{keys_of}
use Rattle.bser_format.specs.Tree.{Tree, entries, entries_of}
use Rattle.bser_format.specs.Tree as trees
use Rattle.bser_document.specs.Order.{shown, last_places, HoldsFields}
use Rattle.bser_document.specs.Pairs.{HoldsEntries}
use Rattle.bser_document.specs.Rows.{Pair, HoldsRows}
use Rattle.bser_document.specs.Sorted.{Lists}
use Rattle.bser_document.specs.Walks.{HoldsItems}
use Rattle.bser_json.proofs.RowsSaid.{SayingRows, SayingFields}
use Rattle.bser_json.proofs.Saying.{SayingItems, SayingEntries}
use Rattle.bser_json.proofs.writing.+put.Given as goal

abbrev pub decreases-put_item : goal.decreases-put_item
decreases-put_item g l = l.room * 5 + 1

abbrev pub decreases-put_container : goal.decreases-put_container
decreases-put_container g l = l.room * 5

abbrev pub decreases-put_items : goal.decreases-put_items
decreases-put_items g l = l.room * 5 + 2

abbrev pub decreases-put_entries : goal.decreases-put_entries
decreases-put_entries g l = l.room * 5 + 3

abbrev pub decreases-put_spelled : goal.decreases-put_spelled
decreases-put_spelled g l = l.room * 5 + 2

abbrev pub decreases-put_sorted : goal.decreases-put_sorted
decreases-put_sorted g l = l.room * 5 + 2

abbrev pub invariant-put_items-loop-item : goal.invariant-put_items-loop-item
invariant-put_items-loop-item g l = (us : trees.Items) → HoldsItems l.fn.items us → SayingItems g.W.Write.contents us l.item-iterator l.fn.out l.out

abbrev pub invariant-put_spelled-loop-entry : goal.invariant-put_spelled-loop-entry
invariant-put_spelled-loop-entry g l = (m : List (List ℕ × Tree)) → HoldsEntries l.fn.entries m → SayingEntries g.W.Write.contents (entries_of m) (λ es. HoldsEntries l.entry-iterator (entries es)) l.fn.out l.out

abbrev pub invariant-put_sorted-loop-key : goal.invariant-put_sorted-loop-key
invariant-put_sorted-loop-key g l = (es : trees.Entries) → Lists (entries es) l.sorted.entries → SayingEntries g.W.Write.contents es (λ es. Lists (entries es) l.key-iterator) l.fn.out l.out

abbrev pub decreases-put_rows : goal.decreases-put_rows
decreases-put_rows g l = l.room * 5 + 4

abbrev pub decreases-put_row : goal.decreases-put_row
decreases-put_row g l = l.room * 5 + 3

abbrev pub decreases-put_field : goal.decreases-put_field
decreases-put_field g l = l.room * 5 + 2

abbrev pub invariant-put_rows-loop-row : goal.invariant-put_rows-loop-row
invariant-put_rows-loop-row g l = (ks : List (List ℕ)) (ms : List (List Pair)) → HoldsRows l.fn.rows ks ms → SayingRows g.W.Write.contents ks ms l.row-iterator l.fn.out l.out

abbrev pub invariant-put_row-loop-entry : goal.invariant-put_row-loop-entry
invariant-put_row-loop-entry g l = (m : List Pair) → shown l.order ≡ last_places (keys_of m) → HoldsFields l.fields m → SayingFields g.W.Write.contents m (drop l.entry-index l.order) l.fn.out l.out
