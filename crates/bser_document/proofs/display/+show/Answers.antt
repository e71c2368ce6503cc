-- A container is printed as its parts are.
use Rattle.std.proofs.Common.{inl, codes, rules, refl, ◌-◌}
use Rattle.std.proofs.lemmas.Result.{err_from_is_err_and}
use Rattle.bser_format.specs.QuotedText.{quoted_key}
use Rattle.bser_format.specs.SomeText.{Exactly, ◌followed_by◌}
use Rattle.bser_format.specs.Tree.{array, object, entries_of}
use Rattle.bser_value.specs.TreeText.{IsTextOf, IsEntryText}
use Rattle.bser_value.proofs.Displays.{shows_exactly, shows_then, failed}
use Rattle.bser_document.proofs.Places.{container_held, shows_there}
use Rattle.bser_document.proofs.Puts.{plain_shown}
use Rattle.bser_document.proofs.Shown.{array_shown, object_shown, spelled_shown, sorted_shown, items_begun, item_more, items_shown, spelled_begun, spelled_more, spelled_all, sorted_begun, sorted_more, sorted_all}
use Rattle.bser_document.proofs.display.+show.Goals as goal

pub show_container-returns-in-Some : goal.show_container-returns-in-Some
show_container-returns-in-Some g t c u h deep = array_shown g.W.Write.write_str_gives c.args.room c.in-Some.items c.args.f.now c.show_items.new.f c.show_items.result u (rw c.in-Some.is at c.items.ensures u h) deep c.show_items.ensures

pub show_container-returns-then-is_rising : goal.show_container-returns-then-is_rising
show_container-returns-then-is_rising g t c u h deep =
    object_shown g.W.Write.write_str_gives c.args.room c.in-Some-entries.entries c.args.f.now c.show_spelled.new.f c.show_spelled.result u (rw c.in-Some-entries.is at c.entries.ensures u h) deep
    λ m holds less. spelled_shown g.W.Write.write_str_gives (c.args.room - 1) c.args.f.now c.show_spelled.new.f c.show_spelled.result m (c.is_rising.ensures m holds (search rules)) less (c.show_spelled.ensures m holds)

pub show_container-returns-in-Ok : goal.show_container-returns-in-Ok
show_container-returns-in-Ok g t c u h deep =
    object_shown g.W.Write.write_str_gives c.args.room c.in-Some-entries.entries c.args.f.now c.show_sorted.new.f c.show_sorted.result u (rw c.in-Some-entries.is at c.entries.ensures u h) deep
    λ m holds less. sorted_shown g.W.Write.write_str_gives (c.args.room - 1) c.in-Ok.sorted.entries c.args.f.now c.show_sorted.new.f c.show_sorted.result m (c.in-Ok.ensures m holds) less c.show_sorted.ensures

pub show_items-loop-item-init : goal.show_items-loop-item-init
show_items-loop-item-init g t c = (
  search rules,
  λ us h deep. items_begun g.W.Write.write_str_gives us c.args.room c.args.items c.into_iter-item-iterator.result c.args.f.now c.write_str.new.self h deep (search rules) (λ plain. c.in_ok-write_str.ensures.writes plain refl),
)

pub show_items-loop-item-preserved : goal.show_items-loop-item-preserved
show_items-loop-item-preserved g t c =
    let took = g.W.Write.write_str_gives in
    let l = c.loop-item in
    let lead = c.write_str-in-loop-item.new.self in (
      search rules,
      λ us h deep.
          item_more took us c.args.room l.item-iterator c.next.new.self c.in-Some.item l.before.now c.args.f.now l.f lead c.show.new.f c.in-Some.ensures.steps (λ p. c.in_ok-write_str-2.ensures.writes p refl)
          (λ u holds less plain. c.in_ok-show.ensures u (inl holds) less plain refl) (l.invariant.1 us h deep),
    )

pub show_items-returns : goal.show_items-returns
show_items-returns g t c us h deep =
    let l = c.loop-item in
    items_shown g.W.Write.write_str_gives us c.args.room l.item-iterator c.next.new.self l.before.now c.args.f.now l.f c.write_str-2.new.self c.write_str-2.result c.in-None.ensures.steps (λ p ok. c.write_str-2.ensures.writes p ok) (l.invariant.1 us h deep)

pub show_spelled-loop-entry-init : goal.show_spelled-loop-entry-init
show_spelled-loop-entry-init g t c = (
  search rules,
  λ m h deep. spelled_begun g.W.Write.write_str_gives m c.args.room c.args.entries c.into_iter-entry-iterator.result c.args.f.now c.write_str.new.self h deep (search rules) (λ plain. c.in_ok-write_str.ensures.writes plain refl),
)

pub show_spelled-loop-entry-preserved : goal.show_spelled-loop-entry-preserved
show_spelled-loop-entry-preserved g t c =
    let took = g.W.Write.write_str_gives in
    let l = c.loop-entry in
    let lead = c.write_str-in-loop-entry.new.self in (
      search rules,
      λ m h deep.
          spelled_more took m c.args.room l.entry-iterator c.next.new.self c.in-Some.entry l.before.now c.args.f.now l.f lead c.show_entry.new.f c.in-Some.ensures.steps (λ p. c.in_ok-write_str-2.ensures.writes p refl)
          (λ u holds less plain. c.in_ok-show_entry.ensures u holds less plain refl) (l.invariant.1 m h deep),
    )

pub show_spelled-returns : goal.show_spelled-returns
show_spelled-returns g t c m h deep =
    let l = c.loop-entry in
    spelled_all g.W.Write.write_str_gives m c.args.room l.entry-iterator c.next.new.self l.before.now c.args.f.now l.f c.write_str-2.new.self c.write_str-2.result c.in-None.ensures.steps (λ p ok. c.write_str-2.ensures.writes p ok) (l.invariant.1 m h deep)

pub show_sorted-loop-key-init : goal.show_sorted-loop-key-init
show_sorted-loop-key-init g t c = (
  search rules,
  λ es h deep. sorted_begun g.W.Write.write_str_gives es c.args.room c.args.sorted.now.entries c.into_iter-key-iterator.result c.args.f.now c.write_str.new.self h deep (search rules) (λ plain. c.in_ok-write_str.ensures.writes plain refl),
)

pub show_sorted-loop-key-preserved : goal.show_sorted-loop-key-preserved
show_sorted-loop-key-preserved g t c =
    let took = g.W.Write.write_str_gives in
    let l = c.loop-key in
    let lead = c.write_str-in-loop-key.new.self in (
      search rules,
      λ es h deep.
          sorted_more took es c.args.room l.key-iterator c.next.new.self (c.in-Some.key.now, c.in-Some.item.now) l.before.now c.args.f.now l.f lead c.show_entry.new.f c.in-Some.ensures.steps (λ p. c.in_ok-write_str-2.ensures.writes p refl)
          (λ u holds less plain. c.in_ok-show_entry.ensures u holds less plain refl) (l.invariant.1 es h deep),
    )

pub show_sorted-returns : goal.show_sorted-returns
show_sorted-returns g t c es h deep =
    let l = c.loop-key in
    sorted_all g.W.Write.write_str_gives es c.args.room l.key-iterator l.before.now c.args.f.now l.f c.write_str-2.new.self c.write_str-2.result (search rules) (λ p ok. c.write_str-2.ensures.writes p ok) (l.invariant.1 es h deep)

pub show_entry-returns : goal.show_entry-returns
show_entry-returns g t c u h deep = λ plain ok.
    let took = g.W.Write.write_str_gives in
    let name = c.write_key.new.f in
    let colon = c.write_str.new.self in
    let key = quoted_key c.args.key.now in
    shows_then took c.args.f.now name c.show.new.f (Exactly key) (Exactly (codes ": ") followed_by IsTextOf u) (shows_exactly took c.args.f.now name key (c.in_ok-write_key.ensures plain refl)) λ p.
    shows_then took name colon c.show.new.f (Exactly (codes ": ")) (IsTextOf u) (shows_exactly took name colon (codes ": ") (c.in_ok-write_str.ensures.writes p refl)) λ q.
    c.show.ensures u (inl h) deep q ok

pub show-returns-in_default : goal.show-returns-in_default
show-returns-in_default g t c u h deep =
    let shows = shows_there c.args.item c.node.result c.node.ensures.own c.node.ensures.shows u h in
    let plain = plain_shown c.args.item.document.now c.node.result c.in_default.not-Array c.in_default.not-Object c.in_default.not-Template u shows in
    c.show_plain.ensures u shows plain

pub show_container-returns-in_default-entries : goal.show_container-returns-in_default-entries
show_container-returns-in_default-entries g t c u h deep = failed g.W.Write.write_str_gives c.args.f.now c.args.f.now (record {}) (IsTextOf u)

pub show_container-returns-in-Err : goal.show_container-returns-in-Err
show_container-returns-in-Err g t c u h deep = failed g.W.Write.write_str_gives c.args.f.now c.args.f.now (record {}) (IsTextOf u)

pub show_entry-returns-in_err-write_key : goal.show_entry-returns-in_err-write_key
show_entry-returns-in_err-write_key g t c u h deep =
    let p = err_from_is_err_and c.from_residual.result c.from_residual.ensures.1 in
    rw p.1 (failed g.W.Write.write_str_gives c.args.f.now c.write_key.new.f _ (IsEntryText c.args.key.now u))

pub show_entry-returns-in_err-write_str : goal.show_entry-returns-in_err-write_str
show_entry-returns-in_err-write_str g t c u h deep =
    let p = err_from_is_err_and c.from_residual-in_err-write_str.result c.from_residual-in_err-write_str.ensures.1 in
    rw p.1 (failed g.W.Write.write_str_gives c.args.f.now c.write_str.new.self _ (IsEntryText c.args.key.now u))

pub show_items-returns-in_err-write_str : goal.show_items-returns-in_err-write_str
show_items-returns-in_err-write_str g t c us h deep =
    let p = err_from_is_err_and c.from_residual.result c.from_residual.ensures.1 in
    rw p.1 (failed g.W.Write.write_str_gives c.args.f.now c.write_str.new.self _ (IsTextOf (array us)))

pub show_spelled-returns-in_err-write_str : goal.show_spelled-returns-in_err-write_str
show_spelled-returns-in_err-write_str g t c m h deep =
    let p = err_from_is_err_and c.from_residual.result c.from_residual.ensures.1 in
    rw p.1 (failed g.W.Write.write_str_gives c.args.f.now c.write_str.new.self _ (IsTextOf (object (entries_of m))))

pub show-returns-in-Array : goal.show-returns-in-Array
show-returns-in-Array g t c u h deep = c.show_container.ensures u (container_held c.args.item c.node.result u c.in-Array.is c.node.ensures.own h) deep
