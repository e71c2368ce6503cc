-- A container is put as its parts are.
use Rattle.std.proofs.Common.{inl, rules, arith, ◌-◌, ◌+◌, ◌<◌, ◌^◌, length, drop, refl, ap, ◌∙◌}
use Rattle.std.proofs.lemmas.List.{drop_all}
use Rattle.std.proofs.lemmas.Result.{err_from_is_err_and}
use Rattle.bser_format.specs.Tree.{entries}
use Rattle.bser_ser.specs.Sent.{refusal_of}
use Rattle.bser_document.specs.Put.{error_of}
use Rattle.bser_document.proofs.Places.{shows_there}
use Rattle.bser_document.proofs.Puts.{plain_shown, none_put, array_added, object_added, spelled_added, sorted_added, items_begun, item_more, item_stops, items_all, entries_begun, entry_more, entry_stops, key_stops, entries_all, lists_length}
use Rattle.bser_document.proofs.PutPairs.{spelled_begun, spelled_more, spelled_stops, spelled_key_stops, spelled_all}
use Rattle.bser_document.proofs.Orders.{row_added, entry_at, entry_here}
use Rattle.bser_document.proofs.RowsPut.{rows_added, rows_begun, row_more, row_stops, rows_all, fields_begun, field_more, field_stops, field_key_stops, fields_all, last_length}
use Rattle.bser_document.specs.Order.{shown, value_at}
use Rattle.bser_document.specs.Rows.{row_object, row_objects}
use Rattle.bser_format.specs.Tree.{array}
use Rattle.bser_format.specs.declared.errors.Error.TheVariants.{OutOfMemory}
use Rattle.bser_document.proofs.put.+add.Goals as goal

pub add_container-returns-in-Some-items : goal.add_container-returns-in-Some-items
add_container-returns-in-Some-items g t c u h deep = array_added g.W.Sink c.args.room c.in-Some-items.items c.args.out.now c.add_items.new.out c.add_items.result u (rw c.in-Some-items.is at c.items.ensures u h) deep c.add_items.ensures

pub add_container-returns-then-is_rising : goal.add_container-returns-then-is_rising
add_container-returns-then-is_rising g t c u h deep =
    object_added g.W.Sink c.args.room c.in-Some-entries.entries c.args.out.now c.add_spelled.new.out c.add_spelled.result u (rw c.in-Some-entries.is at c.entries.ensures u h) deep
    λ m holds less. spelled_added g.W.Sink (c.args.room - 1) c.args.out.now c.add_spelled.new.out c.add_spelled.result m (c.is_rising.ensures m holds (search rules)) less (c.add_spelled.ensures m holds)

pub add_container-returns-in_err-sorted : goal.add_container-returns-in_err-sorted
add_container-returns-in_err-sorted g t c u h deep =
    let p = err_from_is_err_and c.from_residual.result c.from_residual.ensures.1 in
    rw (p.1, p.2) (none_put g.W.Sink g.met.W.Sink.took_nothing u c.args.out.now)

pub add_container-returns : goal.add_container-returns
add_container-returns g t c u h deep =
    object_added g.W.Sink c.args.room c.in-Some-entries.entries c.args.out.now c.add_entries.new.out c.add_entries.result u (rw c.in-Some-entries.is at c.entries.ensures u h) deep
    λ m holds less. sorted_added g.W.Sink (c.args.room - 1) c.in_ok-sorted.sorted.entries c.args.out.now c.add_entries.new.out c.add_entries.result m (c.in_ok-sorted.ensures m holds) less c.add_entries.ensures

pub add_items-loop-item-init : goal.add_items-loop-item-init
add_items-loop-item-init g t c us h deep = items_begun g.W.Sink us c.args.room c.args.items c.into_iter-item-iterator.result c.len-count.result c.args.out.now c.add_seq.new.self h deep (search rules) (c.len-count.ensures us h) c.in_ok-add_seq.ensures.0

pub add_items-loop-item-preserved : goal.add_items-loop-item-preserved
add_items-loop-item-preserved g t c us h deep =
    item_more g.W.Sink g.met.W.Sink.took_both us c.args.room c.loop-item.item-iterator c.next.new.self c.in-Some.item c.args.out.now c.loop-item.out c.add_item.new.out c.in-Some.ensures.steps (λ u held. c.in_ok-add_item.ensures u (inl held)) (c.loop-item.invariant us h deep)

pub add_items-returns-in_err-add_item : goal.add_items-returns-in_err-add_item
add_items-returns-in_err-add_item g t c us h deep =
    let p = err_from_is_err_and c.from_residual-in_err-add_item.result c.from_residual-in_err-add_item.ensures.1 in
    rw (p.1, p.2) (item_stops g.W.Sink g.met.W.Sink.took_both us c.args.room c.loop-item.item-iterator c.next.new.self c.in-Some.item c.args.out.now c.loop-item.out c.add_item.new.out (error_of c.in_err-add_item.field-0.0 c.add_item.new.out)
    c.in-Some.ensures.steps (λ u held. c.in_err-add_item.ensures u (inl held)) (c.loop-item.invariant us h deep))

pub add_items-returns : goal.add_items-returns
add_items-returns g t c us h deep =
    items_all g.W.Sink us c.args.room c.loop-item.item-iterator c.next.new.self c.args.out.now c.loop-item.out c.in-None.ensures.steps (omega (arith, c.len-count.ensures us h, c.if-count.false)) (c.loop-item.invariant us h deep)

pub add_entries-loop-key-init : goal.add_entries-loop-key-init
add_entries-loop-key-init g t c es h deep = entries_begun g.W.Sink es c.args.room c.args.sorted.now.entries c.into_iter-key-iterator.result c.len.result c.args.out.now c.add_map.new.self h deep (search rules) c.len.ensures.len c.in_ok-add_map.ensures.0

pub add_entries-returns-in_err-add_text_key : goal.add_entries-returns-in_err-add_text_key
add_entries-returns-in_err-add_text_key g t c es h deep =
    let p = err_from_is_err_and c.from_residual-in_err-add_text_key.result c.from_residual-in_err-add_text_key.ensures.1 in
    rw (p.1, p.2) (key_stops g.W.Sink g.met.W.Sink.took_both es c.args.room c.loop-key.key-iterator c.next.new.self (c.in-Some.key.now, c.in-Some.item.now) c.args.out.now c.loop-key.out c.add_text_key.new.self (refusal_of c.add_text_key.new.self)
    c.in-Some.ensures.steps c.in_err-add_text_key.ensures.0 c.in_err-add_text_key.ensures.1 (c.loop-key.invariant es h deep))

pub add_entries-loop-key-preserved : goal.add_entries-loop-key-preserved
add_entries-loop-key-preserved g t c es h deep =
    entry_more g.W.Sink g.met.W.Sink.took_both es c.args.room c.loop-key.key-iterator c.next.new.self (c.in-Some.key.now, c.in-Some.item.now) c.args.out.now c.loop-key.out c.add_text_key.new.self c.add_item.new.out
    c.in-Some.ensures.steps (search rules) c.in_ok-add_text_key.ensures.0 (λ u held. c.in_ok-add_item.ensures u (inl held)) (c.loop-key.invariant es h deep)

pub add_entries-returns-in_err-add_item : goal.add_entries-returns-in_err-add_item
add_entries-returns-in_err-add_item g t c es h deep =
    let p = err_from_is_err_and c.from_residual-in_err-add_item.result c.from_residual-in_err-add_item.ensures.1 in
    rw (p.1, p.2) (entry_stops g.W.Sink g.met.W.Sink.took_both es c.args.room c.loop-key.key-iterator c.next.new.self (c.in-Some.key.now, c.in-Some.item.now) c.args.out.now c.loop-key.out c.add_text_key.new.self c.add_item.new.out
    (error_of c.in_err-add_item.field-0.0 c.add_item.new.out) c.in-Some.ensures.steps c.in_ok-add_text_key.ensures.0 (λ u held. c.in_err-add_item.ensures u (inl held)) (c.loop-key.invariant es h deep))

pub add_entries-returns : goal.add_entries-returns
add_entries-returns g t c es h deep =
    entries_all g.W.Sink es c.args.room c.loop-key.key-iterator c.args.out.now c.loop-key.out (search rules) (omega (arith, lists_length (entries es) c.args.sorted.now.entries h, c.len.ensures.len, c.len.ensures.small)) (c.loop-key.invariant es h deep)

pub add_spelled-loop-entry-init : goal.add_spelled-loop-entry-init
add_spelled-loop-entry-init g t c m h deep = spelled_begun g.W.Sink m c.args.room c.args.entries c.into_iter-entry-iterator.result c.len-count.result c.args.out.now c.add_map.new.self h deep (search rules) (c.len-count.ensures m h) c.in_ok-add_map.ensures.0

pub add_spelled-returns-in_err-add_text_key : goal.add_spelled-returns-in_err-add_text_key
add_spelled-returns-in_err-add_text_key g t c m h deep =
    let p = err_from_is_err_and c.from_residual-in_err-add_text_key.result c.from_residual-in_err-add_text_key.ensures.1 in
    rw (p.1, p.2) (spelled_key_stops g.W.Sink g.met.W.Sink.took_both m c.args.room c.loop-entry.entry-iterator c.next.new.self c.in-Some.entry c.args.out.now c.loop-entry.out c.add_text_key.new.self (refusal_of c.add_text_key.new.self)
    c.in-Some.ensures.steps c.in_err-add_text_key.ensures.0 c.in_err-add_text_key.ensures.1 (c.loop-entry.invariant m h deep))

pub add_spelled-loop-entry-preserved : goal.add_spelled-loop-entry-preserved
add_spelled-loop-entry-preserved g t c m h deep =
    spelled_more g.W.Sink g.met.W.Sink.took_both m c.args.room c.loop-entry.entry-iterator c.next.new.self c.in-Some.entry c.args.out.now c.loop-entry.out c.add_text_key.new.self c.add_item.new.out
    c.in-Some.ensures.steps (search rules) c.in_ok-add_text_key.ensures.0 (λ u held. c.in_ok-add_item.ensures u (inl held)) (c.loop-entry.invariant m h deep)

pub add_spelled-returns-in_err-add_item : goal.add_spelled-returns-in_err-add_item
add_spelled-returns-in_err-add_item g t c m h deep =
    let p = err_from_is_err_and c.from_residual-in_err-add_item.result c.from_residual-in_err-add_item.ensures.1 in
    rw (p.1, p.2) (spelled_stops g.W.Sink g.met.W.Sink.took_both m c.args.room c.loop-entry.entry-iterator c.next.new.self c.in-Some.entry c.args.out.now c.loop-entry.out c.add_text_key.new.self c.add_item.new.out
    (error_of c.in_err-add_item.field-0.0 c.add_item.new.out) c.in-Some.ensures.steps c.in_ok-add_text_key.ensures.0 (λ u held. c.in_err-add_item.ensures u (inl held)) (c.loop-entry.invariant m h deep))

pub add_spelled-returns : goal.add_spelled-returns
add_spelled-returns g t c m h deep =
    spelled_all g.W.Sink m c.args.room c.loop-entry.entry-iterator c.next.new.self c.args.out.now c.loop-entry.out c.in-None.ensures.steps (omega (arith, c.len-count.ensures m h, c.if-count.false)) (c.loop-entry.invariant m h deep)

pub add_container-returns-in-Some : goal.add_container-returns-in-Some
add_container-returns-in-Some g t c u h deep =
    rows_added g.W.Sink c.args.item c.args.room c.in-Some.rows c.args.out.now c.add_rows.new.out c.add_rows.result u (rw c.in-Some.is at c.rows.ensures u h) deep c.add_rows.ensures

pub add_rows-returns-in_err-order : goal.add_rows-returns-in_err-order
add_rows-returns-in_err-order g t c ks ms h deep =
    let p = err_from_is_err_and c.from_residual.result c.from_residual.ensures.1 in
    rw (p.1, p.2) (none_put g.W.Sink g.met.W.Sink.took_nothing (array (row_objects ms)) c.args.out.now)

pub add_rows-loop-row-init : goal.add_rows-loop-row-init
add_rows-loop-row-init g t c ks ms h deep = rows_begun g.W.Sink ks ms c.args.room c.args.rows c.into_iter-row-iterator.result c.len-count.result c.args.out.now c.add_seq.new.self h deep (search rules) (c.len-count.ensures ks ms h) c.in_ok-add_seq.ensures.0

pub add_rows-returns-in_err-read : goal.add_rows-returns-in_err-read
add_rows-returns-in_err-read g t c ks ms h deep =
    let p = err_from_is_err_and c.from_residual-in_err-read.result c.from_residual-in_err-read.ensures.1 in
    rw (p.1, p.2) (row_stops g.W.Sink g.met.W.Sink.took_both ks ms c.args.room c.loop-row.row-iterator c.next.new.self c.in-Some.row c.args.out.now c.loop-row.out c.loop-row.out OutOfMemory c.in-Some.ensures.steps
    (λ m row less. none_put g.W.Sink g.met.W.Sink.took_nothing (row_object m) c.loop-row.out) (c.loop-row.invariant ks ms h deep))

pub add_rows-loop-row-preserved : goal.add_rows-loop-row-preserved
add_rows-loop-row-preserved g t c ks ms h deep =
    row_more g.W.Sink g.met.W.Sink.took_both ks ms c.args.room c.loop-row.row-iterator c.next.new.self c.in-Some.row c.args.out.now c.loop-row.out c.add_row.new.out c.in-Some.ensures.steps
    (λ m row less. row_added c.in-Some.row ks m c.deref.result.now row (ap shown c.deref.ensures.value ∙ c.in_ok-order.ensures ks ms h) λ order. c.in_ok-add_row.ensures m order (c.in_ok-read.ensures ks m row) (omega (arith, less, c.saturating_sub.ensures))) (c.loop-row.invariant ks ms h deep)

pub add_rows-returns-in_err-add_row : goal.add_rows-returns-in_err-add_row
add_rows-returns-in_err-add_row g t c ks ms h deep =
    let p = err_from_is_err_and c.from_residual-in_err-add_row.result c.from_residual-in_err-add_row.ensures.1 in
    rw (p.1, p.2) (row_stops g.W.Sink g.met.W.Sink.took_both ks ms c.args.room c.loop-row.row-iterator c.next.new.self c.in-Some.row c.args.out.now c.loop-row.out c.add_row.new.out (error_of c.in_err-add_row.field-0.0 c.add_row.new.out) c.in-Some.ensures.steps
    (λ m row less. row_added c.in-Some.row ks m c.deref.result.now row (ap shown c.deref.ensures.value ∙ c.in_ok-order.ensures ks ms h) λ order. c.in_err-add_row.ensures m order (c.in_ok-read.ensures ks m row) (omega (arith, less, c.saturating_sub.ensures))) (c.loop-row.invariant ks ms h deep))

pub add_rows-returns : goal.add_rows-returns
add_rows-returns g t c ks ms h deep =
    rows_all g.W.Sink ks ms c.args.room c.loop-row.row-iterator c.next.new.self c.args.out.now c.loop-row.out c.in-None.ensures.steps (omega (arith, c.len-count.ensures ks ms h, c.if-count.false)) (c.loop-row.invariant ks ms h deep)

pub add_row-loop-entry-init : goal.add_row-loop-entry-init
add_row-loop-entry-init g t c m is found deep = fields_begun g.W.Sink m c.args.room c.args.order.now c.args.order.now (length c.args.order.now) c.args.out.now c.add_map.new.self is deep refl refl c.in_ok-add_map.ensures.0

pub add_row-returns-in_err-add_text_key : goal.add_row-returns-in_err-add_text_key
add_row-returns-in_err-add_text_key g t c m is found deep =
    let p = err_from_is_err_and c.from_residual-in_err-add_text_key.result c.from_residual-in_err-add_text_key.ensures.1 in
    rw (p.1, p.2) (field_key_stops g.W.Sink g.met.W.Sink.took_both m c.args.room (drop c.loop-entry.entry-index c.args.order.now) (drop (c.loop-entry.entry-index + 1) c.args.order.now) (entry_at c.args.order.now c.loop-entry.entry-index) c.args.out.now c.loop-entry.out c.add_text_key.new.self (refusal_of c.add_text_key.new.self)
    (entry_here c.args.order.now c.loop-entry.entry-index c.loop-entry-test.true) c.in_err-add_text_key.ensures.0 c.in_err-add_text_key.ensures.1 (c.loop-entry.invariant m is found deep))

pub add_row-loop-entry-preserved : goal.add_row-loop-entry-preserved
add_row-loop-entry-preserved g t c m is found deep =
    field_more g.W.Sink g.met.W.Sink.took_both m c.args.room (drop c.loop-entry.entry-index c.args.order.now) (drop (c.loop-entry.entry-index + 1) c.args.order.now) (entry_at c.args.order.now c.loop-entry.entry-index) c.args.out.now c.loop-entry.out c.add_text_key.new.self c.add_field.new.out
    (entry_here c.args.order.now c.loop-entry.entry-index c.loop-entry-test.true) (search rules) c.in_ok-add_text_key.ensures.0 (c.in_ok-add_field.ensures (value_at m (entry_at c.args.order.now c.loop-entry.entry-index).1) (c.get.ensures m found)) (c.loop-entry.invariant m is found deep)

pub add_row-returns-in_err-add_field : goal.add_row-returns-in_err-add_field
add_row-returns-in_err-add_field g t c m is found deep =
    let p = err_from_is_err_and c.from_residual-in_err-add_field.result c.from_residual-in_err-add_field.ensures.1 in
    rw (p.1, p.2) (field_stops g.W.Sink g.met.W.Sink.took_both m c.args.room (drop c.loop-entry.entry-index c.args.order.now) (drop (c.loop-entry.entry-index + 1) c.args.order.now) (entry_at c.args.order.now c.loop-entry.entry-index) c.args.out.now c.loop-entry.out c.add_text_key.new.self c.add_field.new.out (error_of c.in_err-add_field.field-0.0 c.add_field.new.out)
    (entry_here c.args.order.now c.loop-entry.entry-index c.loop-entry-test.true) c.in_ok-add_text_key.ensures.0 (c.in_err-add_field.ensures (value_at m (entry_at c.args.order.now c.loop-entry.entry-index).1) (c.get.ensures m found)) (c.loop-entry.invariant m is found deep))

pub add_row-returns : goal.add_row-returns
add_row-returns g t c m is found deep =
    let few : length c.args.order.now < 2 ^ 63 = search rules in
    fields_all g.W.Sink m c.args.room (drop c.loop-entry.entry-index c.args.order.now) c.args.out.now c.loop-entry.out (drop_all c.loop-entry.entry-index c.args.order.now c.loop-entry-test.false) (omega (arith, last_length m c.args.order.now is, few)) (c.loop-entry.invariant m is found deep)

pub add_rows-returns-then-count : goal.add_rows-returns-then-count
add_rows-returns-then-count g t c ks ms h deep = none_put g.W.Sink g.met.W.Sink.took_nothing (array (row_objects ms)) c.args.out.now

pub add_item-returns-in_err-add_plain-in_default : goal.add_item-returns-in_err-add_plain-in_default
add_item-returns-in_err-add_plain-in_default g t c u h deep =
    let shows = shows_there c.args.item c.node.result c.node.ensures.own c.node.ensures.shows u h in
    let plain = plain_shown c.args.item.document.now c.node.result c.in_default.not-Array c.in_default.not-Object c.in_default.not-Template u shows in
    let p = err_from_is_err_and c.from_residual.result c.from_residual.ensures.1 in
    rw (p.1, p.2) (c.in_err-add_plain-in_default.ensures.put u shows plain)

pub add_item-returns-in_ok-add_plain-in_default : goal.add_item-returns-in_ok-add_plain-in_default
add_item-returns-in_ok-add_plain-in_default g t c u h deep =
    let shows = shows_there c.args.item c.node.result c.node.ensures.own c.node.ensures.shows u h in
    let plain = plain_shown c.args.item.document.now c.node.result c.in_default.not-Array c.in_default.not-Object c.in_default.not-Template u shows in
    (c.in_ok-add_plain-in_default.ensures.put u shows plain, c.in_ok-add_plain-in_default.ensures.writable u shows plain)
