-- A container is put as its parts are.
use Rattle.std.proofs.Common.{rules, ◌∷◌, [], ◌+◌, drop, refl, ap, ◌∙◌}
use Rattle.std.proofs.lemmas.List.{drop_all}
use Rattle.json.specs.Token as tokens
use Rattle.bser_format.specs.Tree.{null, entries, entries_of}
use Rattle.bser_document.specs.Order.{shown, value_at}
use Rattle.bser_document.specs.Pairs.{HoldsEntries}
use Rattle.bser_document.specs.Sorted.{Lists}
use Rattle.bser_json.specs.Said.{Says}
use Rattle.bser_document.proofs.Orders.{row_added, entry_at, entry_here}
use Rattle.bser_json.proofs.RowsSaid.{template_said, rows_begun, row_more, rows_said, fields_begun, field_more, fields_said}
use Rattle.bser_json.proofs.Saying.{one_said, same_said, array_said, object_said, sorted_said, risen_said, items_begun, item_more, items_said, entries_begun, entry_more, entries_said, listed_back, listed_comes, listed_end, spelled_back, spelled_comes, spelled_end}
use Rattle.bser_json.proofs.Scalars.{plain_kind}
use Rattle.bser_json.proofs.writing.+put.Goals as goal

pub put_item-returns-in_default : goal.put_item-returns-in_default
put_item-returns-in_default g t c = search (rules, plain_kind)

pub put_container-returns-in-Some : goal.put_container-returns-in-Some
put_container-returns-in-Some g t c u h = object_said g.W.Write.contents c.in-Some.entries c.put_entries.result c.args.out.now c.put_entries.new.out u (rw c.in-Some.is at c.entries.ensures u h) c.put_entries.ensures

pub put_container-returns-in-Some-rows : goal.put_container-returns-in-Some-rows
put_container-returns-in-Some-rows g t c u h = template_said g.W.Write.contents c.args.item c.in-Some-rows.rows c.put_rows.result c.args.out.now c.put_rows.new.out u (rw c.in-Some-rows.is at c.rows.ensures u h) c.put_rows.ensures

pub put_container-returns-in-Some-items : goal.put_container-returns-in-Some-items
put_container-returns-in-Some-items g t c u h = array_said g.W.Write.contents c.in-Some-items.items c.put_items.result c.args.out.now c.put_items.new.out u (rw c.in-Some-items.is at c.items.ensures u h) c.put_items.ensures

pub put_entries-returns-then-is_rising : goal.put_entries-returns-then-is_rising
put_entries-returns-then-is_rising g t c m h = risen_said g.W.Write.contents c.put_spelled.result c.args.out.now c.put_spelled.new.out m (c.is_rising.ensures m h (search rules)) (c.put_spelled.ensures m h)

pub put_entries-returns : goal.put_entries-returns
put_entries-returns g t c m h = sorted_said g.W.Write.contents c.in_ok-sorted.sorted.entries c.put_sorted.result c.args.out.now c.put_sorted.new.out m (c.in_ok-sorted.ensures m h) c.put_sorted.ensures

pub put_spelled-loop-entry-init : goal.put_spelled-loop-entry-init
put_spelled-loop-entry-init g t c m h = entries_begun g.W.Write.contents (entries_of m) (λ es. HoldsEntries c.into_iter-entry-iterator.result (entries es)) c.args.out.now c.token.new.self (spelled_back m c.args.entries c.into_iter-entry-iterator.result (search rules) h) c.in_ok-token.ensures

pub put_spelled-loop-entry-preserved : goal.put_spelled-loop-entry-preserved
put_spelled-loop-entry-preserved g t c m h =
    let l = c.loop-entry in
    let e = c.in-Some.entry in
    entry_more g.W.Write.contents (entries_of m) (λ es. HoldsEntries l.entry-iterator (entries es)) (λ es. HoldsEntries c.next.new.self (entries es)) e.key.now e.value c.args.out.now l.out c.put_key.new.out c.put_item.new.out
    (spelled_comes l.entry-iterator c.next.new.self e c.in-Some.ensures.steps) c.in_ok-put_key.ensures c.in_ok-put_item.ensures (l.invariant m h)

pub put_spelled-returns : goal.put_spelled-returns
put_spelled-returns g t c m h =
    let l = c.loop-entry in
    entries_said g.W.Write.contents (entries_of m) (λ es. HoldsEntries l.entry-iterator (entries es)) c.args.out.now l.out c.token-2.new.self c.token-2.result (spelled_end l.entry-iterator c.next.new.self c.in-None.ensures.steps) c.token-2.ensures (l.invariant m h)

pub put_items-loop-item-init : goal.put_items-loop-item-init
put_items-loop-item-init g t c us h = items_begun g.W.Write.contents us c.args.items c.into_iter-item-iterator.result c.args.out.now c.token.new.self h (search rules) c.in_ok-token.ensures

pub put_items-loop-item-preserved : goal.put_items-loop-item-preserved
put_items-loop-item-preserved g t c us h =
    let l = c.loop-item in
    item_more g.W.Write.contents us l.item-iterator c.next.new.self c.in-Some.item c.args.out.now l.out c.put_item.new.out c.in-Some.ensures.steps c.in_ok-put_item.ensures (l.invariant us h)

pub put_items-returns : goal.put_items-returns
put_items-returns g t c us h =
    let l = c.loop-item in
    items_said g.W.Write.contents us l.item-iterator c.next.new.self c.args.out.now l.out c.token-2.new.self c.token-2.result c.in-None.ensures.steps c.token-2.ensures (l.invariant us h)

pub put_sorted-loop-key-init : goal.put_sorted-loop-key-init
put_sorted-loop-key-init g t c es h = entries_begun g.W.Write.contents es (λ es. Lists (entries es) c.into_iter-key-iterator.result) c.args.out.now c.token.new.self (listed_back es c.args.sorted.now.entries c.into_iter-key-iterator.result (search rules) h) c.in_ok-token.ensures

pub put_sorted-loop-key-preserved : goal.put_sorted-loop-key-preserved
put_sorted-loop-key-preserved g t c es h =
    let l = c.loop-key in
    entry_more g.W.Write.contents es (λ es. Lists (entries es) l.key-iterator) (λ es. Lists (entries es) c.next.new.self) c.in-Some.key.now.now c.in-Some.item.now c.args.out.now l.out c.put_key.new.out c.put_item.new.out
    (listed_comes l.key-iterator c.next.new.self (c.in-Some.key.now, c.in-Some.item.now) c.in-Some.ensures.steps) c.in_ok-put_key.ensures c.in_ok-put_item.ensures (l.invariant es h)

pub put_sorted-returns : goal.put_sorted-returns
put_sorted-returns g t c es h =
    let l = c.loop-key in
    entries_said g.W.Write.contents es (λ es. Lists (entries es) l.key-iterator) c.args.out.now l.out c.token-2.new.self c.token-2.result (listed_end l.key-iterator (search rules)) c.token-2.ensures (l.invariant es h)

pub put_rows-loop-row-init : goal.put_rows-loop-row-init
put_rows-loop-row-init g t c ks ms h = rows_begun g.W.Write.contents ks ms c.args.rows c.into_iter-row-iterator.result c.args.out.now c.token.new.self h (search rules) c.in_ok-token.ensures

pub put_rows-loop-row-preserved : goal.put_rows-loop-row-preserved
put_rows-loop-row-preserved g t c ks ms h =
    let l = c.loop-row in
    let order = ap shown c.deref.ensures.value ∙ c.in_ok-order.ensures ks ms h in
    row_more g.W.Write.contents ks ms l.row-iterator c.next.new.self c.in-Some.row c.args.out.now l.out c.put_row.new.out c.in-Some.ensures.steps
    (λ m row. row_added c.in-Some.row ks m c.deref.result.now row order λ is. c.in_ok-put_row.ensures m is (c.in_ok-read.ensures ks m row))
    (l.invariant ks ms h)

pub put_rows-returns : goal.put_rows-returns
put_rows-returns g t c ks ms h =
    let l = c.loop-row in
    rows_said g.W.Write.contents ks ms l.row-iterator c.next.new.self c.args.out.now l.out c.token-2.new.self c.token-2.result c.in-None.ensures.steps c.token-2.ensures (l.invariant ks ms h)

pub put_row-loop-entry-init : goal.put_row-loop-entry-init
put_row-loop-entry-init g t c m is found = fields_begun g.W.Write.contents m c.args.order.now c.args.order.now c.args.out.now c.token.new.self is refl c.in_ok-token.ensures

pub put_row-loop-entry-preserved : goal.put_row-loop-entry-preserved
put_row-loop-entry-preserved g t c m is found =
    let l = c.loop-entry in
    let e = entry_at c.args.order.now l.entry-index in
    field_more g.W.Write.contents m (drop l.entry-index c.args.order.now) (drop (l.entry-index + 1) c.args.order.now) e c.args.out.now l.out c.put_key.new.out c.put_field.new.out
    (entry_here c.args.order.now l.entry-index c.loop-entry-test.true) c.in_ok-put_key.ensures (c.in_ok-put_field.ensures (value_at m e.1) (c.get.ensures m found)) (l.invariant m is found)

pub put_row-returns : goal.put_row-returns
put_row-returns g t c m is found =
    let l = c.loop-entry in
    fields_said g.W.Write.contents m (drop l.entry-index c.args.order.now) c.args.out.now l.out c.token-2.new.self c.token-2.result (drop_all l.entry-index c.args.order.now c.loop-entry-test.false) c.token-2.ensures (l.invariant m is found)

pub put_field-returns-in-None : goal.put_field-returns-in-None
put_field-returns-in-None g t c u h =
    same_said g.W.Write.contents c.token.result u null c.args.out.now c.token.new.self (rw c.in-None.is at h)
    (one_said g.W.Write.contents c.token.result (Says null) (tokens.null ∷ []) c.args.out.now c.token.new.self refl c.token.ensures)
