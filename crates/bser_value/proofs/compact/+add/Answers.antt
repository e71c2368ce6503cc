-- A value is written in the compact form as its parts are.
use Rattle.std.proofs.Common.{rules, arith, ◌≡◌, ◌<◌, ◌^◌, length, [], ◌++◌, sym, subst, refl, ap, ◌∙◌, Ok, string_bytes, append-nil}
use Rattle.std.proofs.lemmas.Result.{err_from_is_err_and, on_ok_weaker, MatchResult-weaker}
use Rattle.std.specs.List.{AllByRecursion}
use Rattle.bser_format.specs.Canonical.{canonical_key, canonical_items, canonical_entries, canonical_fields, IsCount, ItemsAreWritable, EntriesAreWritable, FieldsAreWritable}
use Rattle.bser_format.specs.Compact.{values, fold_items, fold_entries}
use Rattle.bser_format.specs.Pieces.{array_head, object_head}
use Rattle.bser_format.proofs.FoldedFits.{items_stay, entries_stay}
use Rattle.bser_source.proofs.Lists.{item_here}
use Rattle.bser_ser.specs.Sent.{refusal_of}
use Rattle.bser_ser.proofs.Sends.{Sent-both, Sent-none}
use Rattle.bser_ser.proofs.Ends.{Stops-none, Stops-second}
use Rattle.bser_ser.proofs.AllBut.{AllBut, AllBut-start, AllBut-all, AllBut-more, AllBut-stops}
use Rattle.bser_value.specs.ValueView.{items_view, entries_view}
use Rattle.bser_value.proofs.Views.{length-items, length-entries}
use Rattle.bser_value.specs.CompactTexts.{value_text, items_text, entries_text, names_of, template_head, row_values, row_text, rows_text, RowIsWritable}
use Rattle.bser_value.proofs.CompactPieces.{compact-Object, compact-Template, item_piece, entry_piece, field_piece, array_pieces, object_pieces, row_of_object}
use Rattle.bser_value.proofs.Writable.{Template-writable}
use Rattle.bser_value.proofs.compact.+add.Goals as goal

-- ---- items

pub add_items-loop-item-init : goal.add_items-loop-item-init
add_items-loop-item-init g t c =
    let vs = c.args.items.now.items in
    let v = c.args.items.now in
    let count : length v.items < 2 ^ 63 = omega (arith, v.ok.0, v.ok.1, v.small) in
    record {
      put = subst (λ xs. AllBut g.W.Sink (items_text vs) (canonical_items (fold_items (items_view xs))) c.args.out.now c.add_seq.new.self) (sym c.deref-item-items.ensures.value)
          (AllBut-start g.W.Sink _ (array_head c.len.result) (canonical_items (fold_items (items_view vs))) c.args.out.now c.add_seq.new.self (array_pieces vs c.len.result (omega (arith, c.len.ensures, c.args.items.now.ok.0))) c.in_ok-add_seq.ensures.0);
      writable = λ h. (subst IsCount (sym (items_stay (items_view vs) ∙ length-items vs)) count, subst (λ xs. ItemsAreWritable (fold_items (items_view xs))) c.deref-item-items.ensures.value h);
    }

pub add_items-returns-in_err-add_compact-clause-put : goal.add_items-returns-in_err-add_compact-clause-put
add_items-returns-in_err-add_compact-clause-put g t c =
    let p = err_from_is_err_and c.from_residual-in_err-add_compact.result c.from_residual-in_err-add_compact.ensures.1 in
    rw p.1 (AllBut-stops g.W.Sink g.met.W.Sink.took_both _ _ (value_text c.item-item.result) _ c.args.out.now c.loop-item.out c.add_compact.new.out (refusal_of c.add_compact.new.out) c.loop-item.invariant.put
    (item_piece _ _ c.item-item.result (item_here c.deref-item-items.result.now c.loop-item.item-index c.item-item.result c.loop-item-test.true c.item-item.is)) c.in_err-add_compact.ensures.put)

pub add_items-loop-item-preserved : goal.add_items-loop-item-preserved
add_items-loop-item-preserved g t c =
    record {
      put = AllBut-more g.W.Sink g.met.W.Sink.took_both _ _ (value_text c.item-item.result) _ c.args.out.now c.loop-item.out c.add_compact.new.out c.loop-item.invariant.put
          (item_piece _ _ c.item-item.result (item_here c.deref-item-items.result.now c.loop-item.item-index c.item-item.result c.loop-item-test.true c.item-item.is)) c.in_ok-add_compact.ensures.put;
      writable = λ h. c.loop-item.invariant.writable (subst (λ xs. ItemsAreWritable (fold_items (items_view xs))) (sym (item_here c.deref-item-items.result.now c.loop-item.item-index c.item-item.result c.loop-item-test.true c.item-item.is)) (c.in_ok-add_compact.ensures.writable, h));
    }

-- ---- entries

pub add_entries-loop-key-init : goal.add_entries-loop-key-init
add_entries-loop-key-init g t c =
    let es = c.args.entries.now.entries in
    let whole : c.into_iter-key-iterator.result ≡ es = search rules in
    let count : length es < 2 ^ 63 = omega arith in
    record {
      put = subst (λ xs. AllBut g.W.Sink (entries_text es) (canonical_entries (fold_entries (entries_view xs))) c.args.out.now c.add_map.new.self) (sym whole)
          (AllBut-start g.W.Sink _ (object_head c.len.result) (canonical_entries (fold_entries (entries_view es))) c.args.out.now c.add_map.new.self (object_pieces es c.len.result c.len.ensures.len) c.in_ok-add_map.ensures.0);
      writable = λ h. (subst IsCount (sym (entries_stay (entries_view es) ∙ length-entries es)) count, subst (λ xs. EntriesAreWritable (fold_entries (entries_view xs))) whole h);
    }

pub add_entries-returns-in_err-add_text_key-clause-put : goal.add_entries-returns-in_err-add_text_key-clause-put
add_entries-returns-in_err-add_text_key-clause-put g t c =
    let p = err_from_is_err_and c.from_residual-in_err-add_text_key.result c.from_residual-in_err-add_text_key.ensures.1 in
    let name = canonical_key (string_bytes c.in-Some.key.now) in
    let body = value_text c.in-Some.value.now in
    rw p.1 (AllBut-stops g.W.Sink g.met.W.Sink.took_both _ _ (name ++ body) _ c.args.out.now c.loop-key.out c.add_text_key.new.self (refusal_of c.add_text_key.new.self) c.loop-key.invariant.put
    (entry_piece c.loop-key.key-iterator c.next.new.self (c.in-Some.key.now, c.in-Some.value.now) c.in-Some.ensures.steps)
    (Stops-none g.W.Sink (Ok (name ++ body)) c.loop-key.out c.add_text_key.new.self (refusal_of c.add_text_key.new.self) c.in_err-add_text_key.ensures.0 c.in_err-add_text_key.ensures.1))

pub add_entries-returns-in_err-add_compact-clause-put : goal.add_entries-returns-in_err-add_compact-clause-put
add_entries-returns-in_err-add_compact-clause-put g t c =
    let p = err_from_is_err_and c.from_residual-in_err-add_compact.result c.from_residual-in_err-add_compact.ensures.1 in
    let name = canonical_key (string_bytes c.in-Some.key.now) in
    let body = value_text c.in-Some.value.now in
    rw p.1 (AllBut-stops g.W.Sink g.met.W.Sink.took_both _ _ (name ++ body) _ c.args.out.now c.loop-key.out c.add_compact.new.out (refusal_of c.add_compact.new.out) c.loop-key.invariant.put
    (entry_piece c.loop-key.key-iterator c.next.new.self (c.in-Some.key.now, c.in-Some.value.now) c.in-Some.ensures.steps)
    (Stops-second g.W.Sink g.met.W.Sink.took_both (Ok name) (Ok body) c.loop-key.out c.add_text_key.new.self c.add_compact.new.out (refusal_of c.add_compact.new.out) (rw c.as_str.ensures.value at c.in_ok-add_text_key.ensures.0) c.in_err-add_compact.ensures.put))

pub add_entries-loop-key-preserved : goal.add_entries-loop-key-preserved
add_entries-loop-key-preserved g t c =
    let name = canonical_key (string_bytes c.in-Some.key.now) in
    let body = value_text c.in-Some.value.now in
    record {
      put = AllBut-more g.W.Sink g.met.W.Sink.took_both _ _ (name ++ body) _ c.args.out.now c.loop-key.out c.add_compact.new.out c.loop-key.invariant.put
          (entry_piece c.loop-key.key-iterator c.next.new.self (c.in-Some.key.now, c.in-Some.value.now) c.in-Some.ensures.steps)
          (Sent-both g.met.W.Sink.took_both c.loop-key.out c.add_text_key.new.self c.add_compact.new.out name body (rw c.as_str.ensures.value at c.in_ok-add_text_key.ensures.0) c.in_ok-add_compact.ensures.put);
      writable = λ h. c.loop-key.invariant.writable (subst (λ xs. EntriesAreWritable (fold_entries (entries_view xs))) (sym c.in-Some.ensures.steps) (search rules, c.in_ok-add_compact.ensures.writable, h));
    }

-- ---- rows

pub add_rows-returns-in_err-add_row-clause-put : goal.add_rows-returns-in_err-add_row-clause-put
add_rows-returns-in_err-add_row-clause-put g t c =
    let p = err_from_is_err_and c.from_residual.result c.from_residual.ensures.1 in
    rw p.1 (AllBut-stops g.W.Sink g.met.W.Sink.took_both _ _ (row_text c.item-item.result) _ c.args.out.now c.loop-item.out c.add_row.new.out (refusal_of c.add_row.new.out) c.loop-item.invariant.put
    (ap rows_text (item_here c.deref-item-items.result.now c.loop-item.item-index c.item-item.result c.loop-item-test.true c.item-item.is)) c.in_err-add_row.ensures.put)

pub add_rows-loop-item-preserved : goal.add_rows-loop-item-preserved
add_rows-loop-item-preserved g t c =
    record {
      put = AllBut-more g.W.Sink g.met.W.Sink.took_both _ _ (row_text c.item-item.result) _ c.args.out.now c.loop-item.out c.add_row.new.out c.loop-item.invariant.put
          (ap rows_text (item_here c.deref-item-items.result.now c.loop-item.item-index c.item-item.result c.loop-item-test.true c.item-item.is)) c.in_ok-add_row.ensures.put;
      writable = λ h. c.loop-item.invariant.writable (subst (AllByRecursion RowIsWritable) (sym (item_here c.deref-item-items.result.now c.loop-item.item-index c.item-item.result c.loop-item-test.true c.item-item.is)) (c.in_ok-add_row.ensures.writable, h));
    }

pub add_row-loop-value-init : goal.add_row-loop-value-init
add_row-loop-value-init g t c =
    let m = c.in-Object.entries in
    let whole = c.into_iter-value-iterator.ensures.into_iter_gives ∙ c.iter-value-items.ensures.rest in
    let text = ap row_text c.in-Object.is ∙ row_of_object m ∙ ap (λ l. canonical_fields (values (fold_entries (entries_view l)))) (sym whole) in
    record {
      put = AllBut-start g.W.Sink _ [] _ c.args.out.now c.args.out.now text (Sent-none g.met.W.Sink.took_nothing c.args.out.now);
      writable = λ h. subst RowIsWritable (sym c.in-Object.is) (subst (λ t. FieldsAreWritable (row_values t)) (sym (compact-Object m)) (subst (λ l. FieldsAreWritable (values (fold_entries (entries_view l)))) whole h));
    }

pub add_row-loop-value-preserved : goal.add_row-loop-value-preserved
add_row-loop-value-preserved g t c =
    record {
      put = AllBut-more g.W.Sink g.met.W.Sink.took_both _ _ (value_text c.in-Some.value.now) _ c.args.out.now c.loop-value.out c.add_compact.new.out c.loop-value.invariant.put
          (field_piece c.loop-value.value-iterator c.next.new.self (c.in-Some.field-0-0.now, c.in-Some.value.now) c.in-Some.ensures.steps) c.in_ok-add_compact.ensures.put;
      writable = λ h. c.loop-value.invariant.writable (subst (λ l. FieldsAreWritable (values (fold_entries (entries_view l)))) (sym c.in-Some.ensures.steps) (c.in_ok-add_compact.ensures.writable, h));
    }

pub add_row-returns-in_err-add_compact-clause-put : goal.add_row-returns-in_err-add_compact-clause-put
add_row-returns-in_err-add_compact-clause-put g t c =
    let p = err_from_is_err_and c.from_residual.result c.from_residual.ensures.1 in
    rw p.1 (AllBut-stops g.W.Sink g.met.W.Sink.took_both _ _ (value_text c.in-Some.value.now) _ c.args.out.now c.loop-value.out c.add_compact.new.out (refusal_of c.add_compact.new.out) c.loop-value.invariant.put
    (field_piece c.loop-value.value-iterator c.next.new.self (c.in-Some.field-0-0.now, c.in-Some.value.now) c.in-Some.ensures.steps) c.in_err-add_compact.ensures.put)

-- ---- a template

pub add_compact-returns-in_err-add_template_head-in-Some-clause-put : goal.add_compact-returns-in_err-add_template_head-in-Some-clause-put
add_compact-returns-in_err-add_template_head-in-Some-clause-put g t c =
    let p = err_from_is_err_and c.from_residual.result c.from_residual.ensures.1 in
    let v = c.in-Array.items in
    let head = template_head (names_of c.in-Some.first.now.entries) c.len.result in
    let whole = compact-Template v c.deref.result.now (names_of c.in-Some.first.now.entries) c.len.result c.deref.ensures.value c.in-Some.ensures (omega (arith, c.len.ensures, v.ok.0)) in
    let begun = AllBut-start g.W.Sink _ [] _ c.args.out.now c.args.out.now refl (Sent-none g.met.W.Sink.took_nothing c.args.out.now) in
    rw (p.1, c.in-Array.is) (AllBut-stops g.W.Sink g.met.W.Sink.took_both _ _ head (rows_text v.items) c.args.out.now c.args.out.now c.add_template_head.new.out (refusal_of c.add_template_head.new.out) begun whole c.in_err-add_template_head-in-Some.ensures.put)

pub add_compact-returns-in_ok-add_template_head-in-Some-clause-put : goal.add_compact-returns-in_ok-add_template_head-in-Some-clause-put
add_compact-returns-in_ok-add_template_head-in-Some-clause-put g t c =
    let v = c.in-Array.items in
    let head = template_head (names_of c.in-Some.first.now.entries) c.len.result in
    let rest = rows_text v.items in
    let whole = compact-Template v c.deref.result.now (names_of c.in-Some.first.now.entries) c.len.result c.deref.ensures.value c.in-Some.ensures (omega (arith, c.len.ensures, v.ok.0)) in
    let begun = AllBut-start g.W.Sink _ head rest c.args.out.now c.add_template_head.new.out whole c.in_ok-add_template_head-in-Some.ensures.put in
    rw c.in-Array.is (MatchResult-weaker c.add_rows.result c.add_rows.ensures.put
    (λ _ s. AllBut-all g.W.Sink _ [] c.args.out.now c.add_rows.new.out
    (AllBut-more g.W.Sink g.met.W.Sink.took_both _ rest rest [] c.args.out.now c.add_template_head.new.out c.add_rows.new.out begun (sym (append-nil rest)) s) refl)
    (λ _ s. AllBut-stops g.W.Sink g.met.W.Sink.took_both _ rest rest [] c.args.out.now c.add_template_head.new.out c.add_rows.new.out (refusal_of c.add_rows.new.out) begun (sym (append-nil rest)) s))

pub add_compact-returns-in_ok-add_template_head-in-Some-clause-writable : goal.add_compact-returns-in_ok-add_template_head-in-Some-clause-writable
add_compact-returns-in_ok-add_template_head-in-Some-clause-writable g t c =
    let v = c.in-Array.items in
    let count : length v.items < 2 ^ 63 = omega (arith, v.ok.0, v.ok.1, v.small) in
    let head = c.in_ok-add_template_head-in-Some.ensures in
    rw c.in-Array.is (on_ok_weaker c.add_rows.result
    (λ rows. Template-writable v c.deref.result.now (names_of c.in-Some.first.now.entries) c.deref.ensures.value c.in-Some.ensures count head.few head.texts rows)
    c.add_rows.ensures.writable)
