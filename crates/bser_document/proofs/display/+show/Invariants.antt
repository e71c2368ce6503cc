-- The parts up to here are printed.
use Rattle.std.proofs.Common.{ℕ, List, ◌<◌, ◌*◌, ◌+◌}
use denote.Shadow.{shadow}
use denote.Text.{Utf8}
use Rattle.bser_format.specs.Measures.{items_depth, entries_depth}
use Rattle.bser_format.specs.Tree.{Tree, entries, entries_of}
use Rattle.bser_format.specs.Tree as trees
use Rattle.bser_document.specs.Pairs.{HoldsEntries}
use Rattle.bser_document.specs.Sorted.{Lists}
use Rattle.bser_document.specs.Walks.{HoldsItems}
use Rattle.bser_document.proofs.Shown.{ShowingItems, ShowingSpelled, ShowingSorted}
use Rattle.bser_document.proofs.display.+show.Given as goal

abbrev pub decreases-show : goal.decreases-show
decreases-show g l = l.room * 5 + 1

abbrev pub decreases-show_container : goal.decreases-show_container
decreases-show_container g l = l.room * 5

abbrev pub decreases-show_items : goal.decreases-show_items
decreases-show_items g l = l.room * 5 + 3

abbrev pub decreases-show_spelled : goal.decreases-show_spelled
decreases-show_spelled g l = l.room * 5 + 3

abbrev pub decreases-show_sorted : goal.decreases-show_sorted
decreases-show_sorted g l = l.room * 5 + 3

abbrev pub decreases-show_entry : goal.decreases-show_entry
decreases-show_entry g l = l.room * 5 + 2

abbrev pub invariant-show_items-loop-item : goal.invariant-show_items-loop-item
invariant-show_items-loop-item g l =
    shadow (Utf8 l.before)
    × ((us : trees.Items) → HoldsItems l.fn.items us → items_depth us < l.fn.room → ShowingItems g.W.Write.write_str_gives us l.fn.room l.item-iterator l.before l.fn.f l.f)

abbrev pub invariant-show_spelled-loop-entry : goal.invariant-show_spelled-loop-entry
invariant-show_spelled-loop-entry g l =
    shadow (Utf8 l.before)
    × ((m : List (List ℕ × Tree)) → HoldsEntries l.fn.entries m → entries_depth (entries_of m) < l.fn.room → ShowingSpelled g.W.Write.write_str_gives m l.fn.room l.entry-iterator l.before l.fn.f l.f)

abbrev pub invariant-show_sorted-loop-key : goal.invariant-show_sorted-loop-key
invariant-show_sorted-loop-key g l =
    shadow (Utf8 l.before)
    × ((es : trees.Entries) → Lists (entries es) l.sorted.entries → entries_depth es < l.fn.room → ShowingSorted g.W.Write.write_str_gives es l.fn.room l.key-iterator l.before l.fn.f l.f)
