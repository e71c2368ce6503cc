-- The parts of a container are written one after another.
use Rattle.std.proofs.Common.{◌≡◌, [], codes, string_bytes, refl, sym, ap, subst, ◌∙◌, rules, drop, ◌+◌}
use Rattle.std.proofs.Output.{has_written_of_eq}
use Rattle.std.proofs.lemmas.List.{drop_all}
use Rattle.std.specs.Fmt.{comma_space}
use Rattle.bser_format.specs.QuotedText.{quoted_key}
use Rattle.bser_format.specs.SomeText.{Exactly, ◌followed_by◌, WritesSomeOnOk}
use Rattle.bser_value.specs.Displayed.{IsValueText}
use Rattle.bser_value.specs.TreeText.{IsTextOf, IsEntryText, AreItems, AreEntries}
use Rattle.bser_value.specs.ValueView.{tree_of, items_view, entries_view, items_tree, entries_tree}
use Rattle.bser_value.proofs.Views.{drop-item, tree_of-Array, tree_of-Object}
use Rattle.bser_value.proofs.Displays.{Showing, shows_exactly, shows_then, showing_begun, showing_more, showing_done}
use Rattle.bser_value.proofs.value.display.+show.Goals as goal

pub show-returns-in-Array : goal.show-returns-in-Array
show-returns-in-Array g t c =
    subst (λ u. WritesSomeOnOk g.W.Write.write_str_gives c.args.f.now c.show_items.result (IsTextOf u) c.show_items.new.f) (sym (ap tree_of c.in-Array.is ∙ tree_of-Array c.in-Array.items)) c.show_items.ensures

pub show-returns-in-Object : goal.show-returns-in-Object
show-returns-in-Object g t c =
    subst (λ u. WritesSomeOnOk g.W.Write.write_str_gives c.args.f.now c.show_entries.result (IsTextOf u) c.show_entries.new.f) (sym (ap tree_of c.in-Object.is ∙ tree_of-Object c.in-Object.entries)) c.show_entries.ensures

pub show_items-loop-item-init : goal.show_items-loop-item-init
show_items-loop-item-init g t c =
    let took = g.W.Write.write_str_gives in
    let all = c.args.items.now.items in
    let f = c.args.f.now in
    let begun = c.write_str.new.self in (
      search rules,
      subst (λ xs. Showing took f (AreItems [] (items_view xs)) (IsTextOf (items_tree all)) begun) (sym c.deref-item-items.ensures.value)
          (showing_begun took f begun (codes "[") (AreItems [] (items_view all)) (λ plain. c.in_ok-write_str.ensures.writes plain refl)),
    )

pub show_items-loop-item-preserved : goal.show_items-loop-item-preserved
show_items-loop-item-preserved g t c =
    let took = g.W.Write.write_str_gives in
    let l = c.loop-item in
    let f = c.args.f.now in
    let lead = c.write_str-in-loop-item.new.self in
    let before = l.before.now in
    let item = c.item-item.result in
    let whole = IsTextOf (items_tree c.args.items.now.items) in
    let rest = drop-item c.deref-item-items.result.now l.item-index item c.loop-item-test.true c.item-item.is in (
      search rules,
      showing_more took f l.f lead c.show.new.f before (IsValueText item) (AreItems comma_space (items_view (drop (l.item-index + 1) c.deref-item-items.result.now))) whole (λ p. c.in_ok-write_str-2.ensures.writes p refl) (λ q. c.in_ok-show.ensures q refl)
          (subst (λ xs. Showing took f (AreItems before (items_view xs)) whole l.f) rest l.invariant.1),
    )

pub show_entries-loop-key-init : goal.show_entries-loop-key-init
show_entries-loop-key-init g t c =
    let took = g.W.Write.write_str_gives in
    let all = c.args.entries.now.entries in
    let f = c.args.f.now in
    let begun = c.write_str.new.self in (
      search rules,
      subst (λ es. Showing took f (AreEntries [] (entries_view es)) (IsTextOf (entries_tree all)) begun) (sym c.into_iter-key-iterator.ensures.into_iter_gives.0)
          (showing_begun took f begun (codes "{") (AreEntries [] (entries_view all)) (λ plain. c.in_ok-write_str.ensures.writes plain refl)),
    )

pub show_entries-loop-key-preserved : goal.show_entries-loop-key-preserved
show_entries-loop-key-preserved g t c =
    let took = g.W.Write.write_str_gives in
    let l = c.loop-key in
    let f = c.args.f.now in
    let before = l.before.now in
    let lead = c.write_str-in-loop-key.new.self in
    let name = c.write_key.new.f in
    let colon = c.write_str-in-loop-key-2.new.self in
    let key = string_bytes c.in-Some.key.now in
    let member = c.in-Some.member.now in
    let whole = IsTextOf (entries_tree c.args.entries.now.entries) in (
      search rules,
      showing_more took f l.f lead c.show.new.f before (IsEntryText key (tree_of member)) (AreEntries comma_space (entries_view c.next.new.self)) whole (λ p. c.in_ok-write_str-2.ensures.writes p refl)
          (λ q.
          shows_then took lead name c.show.new.f (Exactly (quoted_key key)) (Exactly (codes ": ") followed_by IsValueText member)
          (shows_exactly took lead name (quoted_key key) (has_written_of_eq took _ _ _ _ (ap quoted_key c.as_str.ensures.value) (c.in_ok-write_key.ensures q refl)))
          (λ r. shows_then took name colon c.show.new.f (Exactly (codes ": ")) (IsValueText member) (shows_exactly took name colon (codes ": ") (c.in_ok-write_str-3.ensures.writes r refl)) (λ s. c.in_ok-show.ensures s refl)))
          (subst (λ es. Showing took f (AreEntries before (entries_view es)) whole l.f) c.in-Some.ensures.steps l.invariant.1),
    )

pub show_items-returns : goal.show_items-returns
show_items-returns g t c =
    let took = g.W.Write.write_str_gives in
    let l = c.loop-item in
    let f = c.args.f.now in
    let before = l.before.now in
    let whole = IsTextOf (items_tree c.args.items.now.items) in
    let none = drop_all l.item-index c.deref-item-items.result.now c.loop-item-test.false in
    showing_done took f l.f c.write_str-2.new.self c.write_str-2.result (codes "]") whole (λ p ok. c.write_str-2.ensures.writes p ok) (subst (λ xs. Showing took f (AreItems before (items_view xs)) whole l.f) none l.invariant.1)

pub show_entries-returns : goal.show_entries-returns
show_entries-returns g t c =
    let took = g.W.Write.write_str_gives in
    let l = c.loop-key in
    let f = c.args.f.now in
    let before = l.before.now in
    let whole = IsTextOf (entries_tree c.args.entries.now.entries) in
    let none : l.key-iterator ≡ [] = search rules in
    showing_done took f l.f c.write_str-2.new.self c.write_str-2.result (codes "}") whole (λ p ok. c.write_str-2.ensures.writes p ok) (subst (λ es. Showing took f (AreEntries before (entries_view es)) whole l.f) none l.invariant.1)
