use Rattle.std.proofs.Common.{drop}
use denote.Shadow.{shadow}
use denote.Text.{Utf8}
use Rattle.bser_value.specs.TreeText.{IsTextOf, AreItems, AreEntries}
use Rattle.bser_value.specs.ValueView.{items_view, entries_view, items_tree, entries_tree}
use Rattle.bser_value.proofs.Displays.{Showing}
use Rattle.bser_value.proofs.value.display.+show.Given as goal

abbrev pub invariant-show_items-loop-item : goal.invariant-show_items-loop-item
invariant-show_items-loop-item g l =
    shadow (Utf8 l.before)
    × Showing g.W.Write.write_str_gives l.fn.f (AreItems l.before (items_view (drop l.item-index l.item-items))) (IsTextOf (items_tree l.items.items)) l.f

abbrev pub invariant-show_entries-loop-key : goal.invariant-show_entries-loop-key
invariant-show_entries-loop-key g l =
    shadow (Utf8 l.before)
    × Showing g.W.Write.write_str_gives l.fn.f (AreEntries l.before (entries_view l.key-iterator)) (IsTextOf (entries_tree l.entries.entries)) l.f
