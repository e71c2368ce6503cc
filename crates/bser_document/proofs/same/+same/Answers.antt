-- Part by part.
use Rattle.std.proofs.Common.{◌≡◌, IfOk, ℕ, List, Bor, refl, sym, subst, ◌∙◌}
use Rattle.bser_format.specs.SameTree.{same_tree, same_bytes}
use Rattle.bser_value.specs.Contents.{as_object}
use Rattle.bser_document.specs.declared.item.Item.{Item}
use Rattle.bser_document.specs.Sorted.{FindsSorted}
use Rattle.bser_document.proofs.Alike.{plain_there, arrays_same, array_alone, objects_same, object_alone, items_more, items_differ, items_longer, items_end, entries_more, keys_differ, values_differ, entries_longer, entries_at, last_same, not_true, not_false}
use Rattle.bser_document.proofs.same.+same.Goals.{is_same-in-Some-3, is_same-in-None-2}
use Rattle.bser_document.proofs.same.+same.Goals as goal

pub is_same-returns-in-Some-items : goal.is_same-returns-in-Some-items
is_same-returns-in-Some-items t c u v h k less =
    arrays_same u v c.in-Some.items c.in-Some-items.others c.args.room c.are_same_items.result (c.in-Some.ensures u h) (c.in-Some-items.ensures v k) less c.are_same_items.ensures

pub is_same-returns-in-None : goal.is_same-returns-in-None
is_same-returns-in-None t c u v h k less = array_alone u v c.in-Some.items (c.in-Some.ensures u h) (c.in-None.ensures v k)

pub is_same-returns-in-Some-2 : goal.is_same-returns-in-Some-2
is_same-returns-in-Some-2 t c u v h k less =
    let found = subst (FindsSorted (as_object u)) c.in-Some-2.is (c.in_ok-entries.ensures u h) in
    elim c.match-branch-4.branch [
      | is_same-in-Some-3 w ↦ subst (λ r. IfOk r (λ same. same ≡ same_tree u v)) (sym w.result-is) (objects_same u v c.in-Some-2.entries w.in-Some-3.others c.args.room w.are_same_entries.result found (subst (FindsSorted (as_object v)) w.in-Some-3.is (c.in_ok-others.ensures v k)) less w.are_same_entries.ensures)
      | is_same-in-None-2 w ↦ subst (λ r. IfOk r (λ same. same ≡ same_tree u v)) (sym w.result-is) (object_alone u v c.in-Some-2.entries found (subst (FindsSorted (as_object v)) w.in-None-2.is (c.in_ok-others.ensures v k)))
    ]

pub is_same-returns : goal.is_same-returns
is_same-returns t c u v h k less =
    c.is_same_plain.ensures u v h k (plain_there c.args.item u h (c.in_default.ensures u h) (subst (FindsSorted (as_object u)) c.in_default-2.is (c.in_ok-entries.ensures u h)))

pub are_same_items-returns-in_default : goal.are_same_items-returns-in_default
are_same_items-returns-in_default t c us vs h k deep =
    items_longer us vs c.loop-item.item-iterator c.next.new.self c.loop-item.rest c.next-in-loop-item.new.self c.args.room c.in-Some.item c.in-Some.ensures.steps c.in_default.ensures.steps (c.loop-item.invariant us vs h k deep)

pub are_same_items-returns-then-not-branch : goal.are_same_items-returns-then-not-branch
are_same_items-returns-then-not-branch t c us vs h k deep =
    items_differ us vs c.loop-item.item-iterator c.next.new.self c.loop-item.rest c.next-in-loop-item.new.self c.args.room c.in-Some.item c.in-Some-next.other c.in-Some.ensures.steps c.in-Some-next.ensures.steps
    (λ u v a b less. sym c.if-not-branch.true ∙ c.in_ok-is_same.ensures u v a b less) (c.loop-item.invariant us vs h k deep)

pub are_same_items-loop-item-preserved : goal.are_same_items-loop-item-preserved
are_same_items-loop-item-preserved t c us vs h k deep =
    items_more us vs c.loop-item.item-iterator c.next.new.self c.loop-item.rest c.next-in-loop-item.new.self c.args.room c.in-Some.item c.in-Some-next.other c.in-Some.ensures.steps c.in-Some-next.ensures.steps
    (λ u v a b less. sym c.if-not-branch.false ∙ c.in_ok-is_same.ensures u v a b less) (c.loop-item.invariant us vs h k deep)

pub are_same_items-returns : goal.are_same_items-returns
are_same_items-returns t c us vs h k deep =
    items_end us vs c.loop-item.item-iterator c.next.new.self c.loop-item.rest c.next-2.new.self c.args.room c.next-2.result c.is_none.result c.in-None.ensures.steps c.next-2.ensures.steps c.is_none.ensures (c.loop-item.invariant us vs h k deep)

pub are_same_entries-returns-in_default : goal.are_same_entries-returns-in_default
are_same_entries-returns-in_default t c es fs h k deep =
    entries_longer es fs (c.in-Some.key.now, c.in-Some.item.now) c.next.new.self c.loop-key.rest c.args.room c.in_default.ensures.steps.0
    (entries_at es fs c.loop-key.key-iterator _ c.loop-key.rest c.loop-key.rest c.args.room c.in-Some.ensures.steps refl (c.loop-key.invariant es fs h k deep))

pub are_same_entries-returns-then-ne : goal.are_same_entries-returns-then-ne
are_same_entries-returns-then-ne t c es fs h k deep =
    let e : Bor (List ℕ) × Item = (c.in-Some.key.now, c.in-Some.item.now) in
    let o : Bor (List ℕ) × Item = (c.in-Some-next.other_key.now, c.in-Some-next.other.now) in
    keys_differ es fs e o c.next.new.self c.next-in-loop-key.new.self c.args.room (not_true c.ne.result (same_bytes e.0.now o.0.now) c.ne.ensures c.if-ne.true)
    (entries_at es fs c.loop-key.key-iterator _ c.loop-key.rest _ c.args.room c.in-Some.ensures.steps c.in-Some-next.ensures.steps (c.loop-key.invariant es fs h k deep))

pub are_same_entries-returns-then-not-branch : goal.are_same_entries-returns-then-not-branch
are_same_entries-returns-then-not-branch t c es fs h k deep =
    let e : Bor (List ℕ) × Item = (c.in-Some.key.now, c.in-Some.item.now) in
    let o : Bor (List ℕ) × Item = (c.in-Some-next.other_key.now, c.in-Some-next.other.now) in
    values_differ es fs e o c.next.new.self c.next-in-loop-key.new.self c.args.room (not_false c.ne.result (same_bytes e.0.now o.0.now) c.ne.ensures c.if-ne.false)
    (λ u v a b less. sym c.if-not-branch.true ∙ c.in_ok-is_same.ensures u v a b less)
    (entries_at es fs c.loop-key.key-iterator _ c.loop-key.rest _ c.args.room c.in-Some.ensures.steps c.in-Some-next.ensures.steps (c.loop-key.invariant es fs h k deep))

pub are_same_entries-loop-key-preserved : goal.are_same_entries-loop-key-preserved
are_same_entries-loop-key-preserved t c es fs h k deep =
    let e : Bor (List ℕ) × Item = (c.in-Some.key.now, c.in-Some.item.now) in
    let o : Bor (List ℕ) × Item = (c.in-Some-next.other_key.now, c.in-Some-next.other.now) in
    entries_more es fs e o c.next.new.self c.next-in-loop-key.new.self c.args.room (not_false c.ne.result (same_bytes e.0.now o.0.now) c.ne.ensures c.if-ne.false)
    (λ u v a b less. sym c.if-not-branch.false ∙ c.in_ok-is_same.ensures u v a b less)
    (entries_at es fs c.loop-key.key-iterator _ c.loop-key.rest _ c.args.room c.in-Some.ensures.steps c.in-Some-next.ensures.steps (c.loop-key.invariant es fs h k deep))

pub are_same_entries-returns : goal.are_same_entries-returns
are_same_entries-returns t c es fs h k deep =
    last_same es fs c.loop-key.key-iterator c.loop-key.rest c.next-2.new.self c.args.room c.next-2.result c.is_none.result c.in-None.ensures.steps.0 c.next-2.ensures.steps c.is_none.ensures (c.loop-key.invariant es fs h k deep)
