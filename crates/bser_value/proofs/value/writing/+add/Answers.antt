-- A container is written as its parts are.
use Rattle.std.proofs.Common.{rules, arith, ◌≡◌, ◌<◌, ◌^◌, length, sym, subst, Result, Ok, string_bytes}
use Rattle.std.proofs.lemmas.List.{drop_all}
use Rattle.std.proofs.lemmas.Result.{err_from_is_err_and}
use Rattle.bser_format.specs.Tree.{Tree}
use Rattle.bser_format.specs.declared.errors.Error.{Error}
use Rattle.bser_format.specs.Pieces.{array_head, object_head}
use Rattle.bser_format.specs.Canonical.{canonical_key, IsCount, ItemsAreWritable, EntriesAreWritable}
use Rattle.bser_ser.specs.Ends.{AddsTree, text_of}
use Rattle.bser_ser.specs.Sent.{Sent, refusal_of}
use Rattle.bser_source.proofs.Lists.{item_here}
use Rattle.bser_ser.proofs.Ends.{UpTo-start, UpTo-more, Ends-both, Stops-second, Stops-none}
use Rattle.bser_ser.proofs.Texts.{item_text, entry_text}
use Rattle.bser_value.specs.ValueView.{tree_of, items_view, entries_view}
use Rattle.bser_value.specs.declared.value.Value.{Value}
use Rattle.bser_value.proofs.Views.{length-items, length-entries, written-Array, written-Object}
use Rattle.bser_value.proofs.Puts.{array_ends, array_stops, object_ends, object_stops}
use Rattle.bser_value.proofs.value.writing.+add.Goals as goal

abbrev told : Value → Result Tree Error
told v = Ok (tree_of v)

pub add_items-loop-item-init : goal.add_items-loop-item-init
add_items-loop-item-init g t c =
    let v = c.args.items.now in
    let count : length v.items < 2 ^ 63 = omega (arith, v.ok.0, v.ok.1, v.small) in
    record {
      put = UpTo-start g.W.Sink (array_head (length v.items)) (item_text told) v.items _ c.args.out.now c.add_seq.new.self c.deref-item-items.ensures.value
          (subst (λ n. Sent g.W.Sink c.args.out.now c.add_seq.new.self (array_head n)) (omega (arith, c.len.ensures, v.ok.0)) c.in_ok-add_seq.ensures.0);
      writable = λ h. (subst IsCount (sym (length-items v.items)) count, subst (λ xs. ItemsAreWritable (items_view xs)) c.deref-item-items.ensures.value h);
    }

pub add_items-returns-in_err-add_value-clause-put : goal.add_items-returns-in_err-add_value-clause-put
add_items-returns-in_err-add_value-clause-put g t c =
    let p = err_from_is_err_and c.from_residual-in_err-add_value.result c.from_residual-in_err-add_value.ensures.1 in
    rw p.1 (array_stops g.W.Sink told c.args.items.now.items _ c.args.out.now c.loop-item.out _ c.item-item.result c.add_value.new.out (refusal_of c.add_value.new.out) g.met.W.Sink.took_both c.loop-item.invariant.put
    (item_here c.deref-item-items.result.now c.loop-item.item-index c.item-item.result c.loop-item-test.true c.item-item.is) c.in_err-add_value.ensures.put)

pub add_items-loop-item-preserved : goal.add_items-loop-item-preserved
add_items-loop-item-preserved g t c =
    record {
      put = UpTo-more g.W.Sink g.met.W.Sink.took_both (array_head (length c.args.items.now.items)) (item_text told) c.args.items.now.items _ _ c.item-item.result
          c.args.out.now c.loop-item.out c.add_value.new.out c.loop-item.invariant.put
          (item_here c.deref-item-items.result.now c.loop-item.item-index c.item-item.result c.loop-item-test.true c.item-item.is) c.in_ok-add_value.ensures.put;
      writable = λ h. c.loop-item.invariant.writable (subst (λ xs. ItemsAreWritable (items_view xs)) (sym (item_here c.deref-item-items.result.now c.loop-item.item-index c.item-item.result c.loop-item-test.true c.item-item.is)) (c.in_ok-add_value.ensures.writable, h));
    }

pub add_items-returns-clause-put : goal.add_items-returns-clause-put
add_items-returns-clause-put g t c =
    array_ends g.W.Sink told c.args.items.now.items _ c.args.out.now c.loop-item.out c.loop-item.invariant.put
    (drop_all c.loop-item.item-index c.deref-item-items.result.now c.loop-item-test.false)

pub add_entries-loop-key-init : goal.add_entries-loop-key-init
add_entries-loop-key-init g t c =
    let es = c.args.entries.now.entries in
    let all : c.into_iter-key-iterator.result ≡ es = search rules in
    let count : length es < 2 ^ 63 = omega arith in
    record {
      put = UpTo-start g.W.Sink (object_head (length es)) (entry_text string_bytes told) es _ c.args.out.now c.add_map.new.self all
          (subst (λ n. Sent g.W.Sink c.args.out.now c.add_map.new.self (object_head n)) c.len.ensures.len c.in_ok-add_map.ensures.0);
      writable = λ h. (subst IsCount (sym (length-entries es)) count, subst (λ xs. EntriesAreWritable (entries_view xs)) all h);
    }

pub add_entries-returns-in_err-add_text_key-clause-put : goal.add_entries-returns-in_err-add_text_key-clause-put
add_entries-returns-in_err-add_text_key-clause-put g t c =
    let p = err_from_is_err_and c.from_residual-in_err-add_text_key.result c.from_residual-in_err-add_text_key.ensures.1 in
    rw p.1 (object_stops g.W.Sink string_bytes told c.args.entries.now.entries _ c.args.out.now c.loop-key.out c.next.new.self (c.in-Some.key.now, c.in-Some.value.now) c.add_text_key.new.self (refusal_of c.add_text_key.new.self) g.met.W.Sink.took_both c.loop-key.invariant.put c.in-Some.ensures.steps
    (Stops-none g.W.Sink (entry_text string_bytes told (c.in-Some.key.now, c.in-Some.value.now)) c.loop-key.out c.add_text_key.new.self (refusal_of c.add_text_key.new.self) c.in_err-add_text_key.ensures.0 c.in_err-add_text_key.ensures.1))

pub add_entries-returns-in_err-add_value-clause-put : goal.add_entries-returns-in_err-add_value-clause-put
add_entries-returns-in_err-add_value-clause-put g t c =
    let p = err_from_is_err_and c.from_residual-in_err-add_value.result c.from_residual-in_err-add_value.ensures.1 in
    rw p.1 (object_stops g.W.Sink string_bytes told c.args.entries.now.entries _ c.args.out.now c.loop-key.out c.next.new.self (c.in-Some.key.now, c.in-Some.value.now) c.add_value.new.out (refusal_of c.add_value.new.out) g.met.W.Sink.took_both c.loop-key.invariant.put c.in-Some.ensures.steps
    (Stops-second g.W.Sink g.met.W.Sink.took_both (Ok (canonical_key (string_bytes c.in-Some.key.now))) (text_of (told c.in-Some.value.now)) c.loop-key.out c.add_text_key.new.self c.add_value.new.out (refusal_of c.add_value.new.out) (rw c.as_str.ensures.value at c.in_ok-add_text_key.ensures.0) c.in_err-add_value.ensures.put))

pub add_entries-loop-key-preserved : goal.add_entries-loop-key-preserved
add_entries-loop-key-preserved g t c =
    record {
      put = UpTo-more g.W.Sink g.met.W.Sink.took_both (object_head (length c.args.entries.now.entries)) (entry_text string_bytes told) c.args.entries.now.entries _ _ (c.in-Some.key.now, c.in-Some.value.now)
          c.args.out.now c.loop-key.out c.add_value.new.out c.loop-key.invariant.put c.in-Some.ensures.steps
          (Ends-both g.W.Sink g.met.W.Sink.took_both (Ok (canonical_key (string_bytes c.in-Some.key.now))) (text_of (told c.in-Some.value.now)) c.loop-key.out c.add_text_key.new.self c.add_value.new.out (rw c.as_str.ensures.value at c.in_ok-add_text_key.ensures.0) c.in_ok-add_value.ensures.put);
      writable = λ h. c.loop-key.invariant.writable (subst (λ xs. EntriesAreWritable (entries_view xs)) (sym c.in-Some.ensures.steps) (search rules, c.in_ok-add_value.ensures.writable, h));
    }

pub add_entries-returns-clause-put : goal.add_entries-returns-clause-put
add_entries-returns-clause-put g t c =
    object_ends g.W.Sink string_bytes told c.args.entries.now.entries _ c.args.out.now c.loop-key.out c.loop-key.invariant.put (search rules)

pub add_value-returns-in-Array-clause-put : goal.add_value-returns-in-Array-clause-put
add_value-returns-in-Array-clause-put g t c = rw (c.in-Array.is) (subst (λ (m : Result Tree Error). AddsTree g.W.Sink c.args.out.now c.add_items.new.out m c.add_items.result) (sym (written-Array c.in-Array.items)) c.add_items.ensures.put)

pub add_value-returns-in-Object-clause-put : goal.add_value-returns-in-Object-clause-put
add_value-returns-in-Object-clause-put g t c = rw (c.in-Object.is) (subst (λ (m : Result Tree Error). AddsTree g.W.Sink c.args.out.now c.add_entries.new.out m c.add_entries.result) (sym (written-Object c.in-Object.entries)) c.add_entries.ensures.put)
