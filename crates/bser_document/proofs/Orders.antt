-- The keys of a template in rising order, and the fields of a row by their places.
use Rattle.std.proofs.Common.{◌≡◌, ◌≤◌, ◌<◌, ◌+◌, ℕ, zero, suc, List, [], ◌∷◌, ◌++◌, length, map, drop, get_or, fold, Option, Some, None, add-one, refl, sym, ap, subst, ◌∙◌, arith, append_assoc, append-nil, Ordering, Less, Equal, Greater, nat_cmp, Bor}
use Rattle.std.proofs.lemmas.List.{drop_all}
use Rattle.std.proofs.Math.Seq.{drop-cons}
use Rattle.std.proofs.lemmas.Option.{same_Some}
use Rattle.std.specs.Map.{keys_of}
use Rattle.std.specs.Ordering.{match_ordering}
use Rattle.std.specs.Cmp.Lexicographic.{slice_cmp}
use Rattle.std.specs.BTreeMap.{insert_entry}
use Rattle.bser_format.specs.Expand.{expand, expand_fields}
use Rattle.bser_format.specs.Normal.{normal, normal_entries, last_entries}
use Rattle.bser_format.specs.Tree.{Tree, null, Fields, no_fields, skip, field, fields}
use Rattle.bser_deserializer.specs.WholeRows.{FieldsHaveWholeRows}
use Rattle.bser_events.specs.Events as told
use Rattle.bser_document.specs.declared.document.Document.{Document}
use Rattle.bser_document.specs.declared.rows.Rows.{Rows}
use Rattle.bser_document.specs.declared.rows.Row.{Row}
use Rattle.bser_document.specs.Holds.{tree, skipped, field_ends}
use Rattle.bser_document.specs.Order.{placed_from, last_places, shown, value_at, AreAt}
use Rattle.bser_document.specs.Parts.{IsPart}
use Rattle.bser_document.specs.Pairs.{IsKeyAt}
use Rattle.bser_document.specs.Rows.{Pair, HoldsRow, HoldsRows}
use Rattle.bser_document.specs.Spans.{FieldLies, FieldsLie, tree_ends, Lies}
use Rattle.bser_document.proofs.Fields.{key_lies, row_keys}
use Rattle.bser_document.proofs.Lies.{lies_within}
use Rattle.bser_document.proofs.Looks.{next_read}
use Rattle.bser_document.proofs.Walks.{skip_lies, field_lies}

-- ---- the last place of each key

abbrev pub put_place : List (List ℕ × ℕ) → List ℕ × ℕ → List (List ℕ × ℕ)
put_place m p = insert_entry (slice_cmp nat_cmp) m p.0 p.1

abbrev pub put_key : List (Bor (List ℕ) × ℕ) → Bor (List ℕ) → ℕ → List (Bor (List ℕ) × ℕ)
put_key es k n = insert_entry (λ x y. slice_cmp nat_cmp x.now y.now) es k n

shown_match : (o : Ordering) (a b c : List (Bor (List ℕ) × ℕ)) → shown (match_ordering o a b c) ≡ match_ordering o (shown a) (shown b) (shown c)
shown_match Less a b c = refl
shown_match Equal a b c = refl
shown_match Greater a b c = refl

shown_put : (es : List (Bor (List ℕ) × ℕ)) (k : Bor (List ℕ)) (n : ℕ) → shown (put_key es k n) ≡ put_place (shown es) (k.now, n)
shown_put [] k n = refl
shown_put (e ∷ es) k n =
    let o : Ordering = slice_cmp nat_cmp k.now e.0.now in
    shown_match o ((k, n) ∷ e ∷ es) ((e.0, n) ∷ es) (e ∷ put_key es k n)
    ∙ ap (λ l. match_ordering o ((k.now, n) ∷ (e.0.now, e.1) ∷ shown es) ((e.0.now, n) ∷ shown es) ((e.0.now, e.1) ∷ l)) (shown_put es k n)

pub one_place : (s : Rows) (es fs : List (Bor (List ℕ) × ℕ)) (n at : ℕ) (here : Bor (List ℕ)) → n < s.keys.len → (s.keys.at + n ≤ length s.document.now.nodes.items → at ≡ s.keys.at + n) → IsKeyAt s.document.now at here.now → fs ≡ put_key es here n
    → (ks : List (List ℕ)) (ms : List (List Pair)) → HoldsRows s ks ms → fold put_place (shown es) (placed_from n (drop n ks)) ≡ last_places ks → fold put_place (shown fs) (placed_from (n + 1) (drop (n + 1) ks)) ≡ last_places ks
one_place s es fs n at here less place is put ks ms h before =
    let d : Document = s.document.now in
    let count = h.shows.count in
    let r = key_lies d ks s.keys.at n h.shows.lie (omega (arith, less, count)) in
    let within = lies_within d (s.keys.at + n) (told.key r.0) r.1 r.2 r.3 in
    let to : at ≡ s.keys.at + n = place (omega (arith, within)) in
    let same : here.now ≡ r.0 = is h.texts r.0 r.1 r.2 (subst (λ n. Lies d n (told.key r.0 ∷ r.1) r.2) (sym to) r.3) in
    let next : n + 1 ≡ suc n = omega arith in
    ap (λ m. fold put_place (shown fs) (placed_from m (drop m ks))) next
    ∙ ap (λ l. fold put_place l (placed_from (suc n) (drop (suc n) ks))) (ap shown put ∙ shown_put es here n ∙ ap (λ k. put_place (shown es) (k, n)) same)
    ∙ sym (ap (λ l. fold put_place (shown es) (placed_from n l)) r.4) ∙ before

pub all_places : (s : Rows) (es : List (Bor (List ℕ) × ℕ)) (n : ℕ) → s.keys.len ≤ n → (ks : List (List ℕ)) (ms : List (List Pair)) → HoldsRows s ks ms → fold put_place (shown es) (placed_from n (drop n ks)) ≡ last_places ks → shown es ≡ last_places ks
all_places s es n past ks ms h before =
    let count = h.shows.count in
    sym (ap (λ l. fold put_place (shown es) (placed_from n l)) (drop_all n ks (omega (arith, past, count)))) ∙ before

-- ---- the entries of a row in that order

abbrev pub with_values : {X Y : Type 0} → (X → Y) → List (List ℕ × X) → List (List ℕ × Y)
with_values f es = map (λ e. (e.0, f e.1)) es

values_match : {X Y : Type 0} (f : X → Y) (o : Ordering) (a b c : List (List ℕ × X)) → with_values f (match_ordering o a b c) ≡ match_ordering o (with_values f a) (with_values f b) (with_values f c)
values_match f Less a b c = refl
values_match f Equal a b c = refl
values_match f Greater a b c = refl

values_put : {X Y : Type 0} (f : X → Y) (es : List (List ℕ × X)) (k : List ℕ) (x : X) → with_values f (insert_entry (slice_cmp nat_cmp) es k x) ≡ insert_entry (slice_cmp nat_cmp) (with_values f es) k (f x)
values_put f [] k x = refl
values_put f (e ∷ es) k x =
    let o : Ordering = slice_cmp nat_cmp k e.0 in
    values_match f o ((k, x) ∷ e ∷ es) ((e.0, x) ∷ es) (e ∷ insert_entry (slice_cmp nat_cmp) es k x)
    ∙ ap (λ l. match_ordering o ((k, f x) ∷ (e.0, f e.1) ∷ with_values f es) ((e.0, f x) ∷ with_values f es) ((e.0, f e.1) ∷ l)) (values_put f es k x)

values_fold : {X Y : Type 0} (f : X → Y) (m es : List (List ℕ × X)) → with_values f (fold (λ n e. insert_entry (slice_cmp nat_cmp) n e.0 e.1) m es) ≡ fold (λ n e. insert_entry (slice_cmp nat_cmp) n e.0 e.1) (with_values f m) (with_values f es)
values_fold f m [] = refl
values_fold f m (e ∷ es) = values_fold f (insert_entry (slice_cmp nat_cmp) m e.0 e.1) es ∙ ap (λ n. fold (λ n e. insert_entry (slice_cmp nat_cmp) n e.0 e.1) n (with_values f es)) (values_put f m e.0 e.1)

value_here : (n : ℕ) (w : List Pair) (p : Pair) (b : List Pair) → drop n w ≡ p ∷ b → (value_at w n ≡ p.1) × (drop (suc n) w ≡ b)
value_here zero [] p b e = absurd cc
value_here (suc n) [] p b e = absurd cc
value_here zero (q ∷ w) p b e = (ap (value_first p.1) e, ap (drop 1) e)
  where
    value_first : Tree → List Pair → Tree
    value_first u [] = u
    value_first u (p ∷ w) = p.1
value_here (suc n) (q ∷ w) p b e = value_here n w p b e

values_placed : (w b : List Pair) (n : ℕ) → drop n w ≡ b → with_values (value_at w) (placed_from n (keys_of b)) ≡ b
values_placed w [] n e = refl
values_placed w (p ∷ b) n e =
    let r = value_here n w p b e in
    ap (λ u. (p.0, u) ∷ with_values (value_at w) (placed_from (suc n) (keys_of b))) r.0 ∙ ap (λ l. p ∷ l) (values_placed w b (suc n) r.1)

-- the last entries of a row, by the last places of the keys
pub row_in_order : (m : List Pair) (order : List (Bor (List ℕ) × ℕ)) → shown order ≡ last_places (keys_of m) → with_values (value_at m) (shown order) ≡ last_entries m
row_in_order m order is =
    ap (with_values (value_at m)) is ∙ values_fold (value_at m) [] (placed_from 0 (keys_of m)) ∙ ap last_entries (values_placed m m 0 refl)

-- ---- the fields of a row

pub keys_of_row : (r : Row) (ks : List (List ℕ)) (m : List Pair) → HoldsRow r ks m → keys_of m ≡ ks
keys_of_row r ks m h = row_keys ks h.spelled m h.count h.value

-- these fields were found, and the others begin here
pub record Noted (d : Bor Document) (m : List Pair) (places : List ℕ) (at n : ℕ) : Type 0 where
  pub done : List Pair
  pub found : AreAt d done places
  pub keys : List (List ℕ)
  pub left : List Pair
  pub holds : HoldsRow (record { document = d; at = at; len = n }) keys left
  pub same : m ≡ done ++ left

pub none_noted : (r : Row) (ks : List (List ℕ)) (m : List Pair) (places : List ℕ) (n : ℕ) → places ≡ [] → n ≡ r.len → HoldsRow r ks m → Noted r.document m places r.at n
none_noted r ks m places n none all h = record {
  done = [];
  found = subst (AreAt r.document []) (sym none) tt;
  keys = ks;
  left = m;
  holds = record { spelled = h.spelled; long = all ∙ h.long; count = h.count; lie = h.lie; value = h.value; whole = h.whole; texts = h.texts };
  same = refl;
}

placed_behind : (d : Bor Document) (done : List Pair) (places : List ℕ) (p : Pair) (at : ℕ) → AreAt d done places → IsPart d.now None at p.1 → AreAt d (done ++ p ∷ []) (places ++ at ∷ [])
placed_behind d [] [] p at h i = (i, tt)
placed_behind d [] (x ∷ places) p at h i = absurd h
placed_behind d (q ∷ done) [] p at h i = absurd h
placed_behind d (q ∷ done) (x ∷ places) p at h i = (h.0, placed_behind d done places p at h.1 i)

pub one_noted : (d : Bor Document) (m : List Pair) (places after : List ℕ) (at next n l : ℕ) → n ≡ suc l → after ≡ places ++ at ∷ [] → ((p : Option Tree) → FieldLies d.now p at → next ≡ at + length (field_ends p at)) → Noted d m places at n → Noted d m after next l
one_noted d m places after at next n l less is step h =
    of_fields h.keys h.holds.spelled h.left h.holds.long h.holds.count h.holds.lie h.holds.value h.holds.whole h.same
  where
    noted : (p : Pair) (ks : List (List ℕ)) (left : List Pair) → IsPart d.now None at p.1 → HoldsRow (record { document = d; at = next; len = l }) ks left → m ≡ h.done ++ p ∷ left → Noted d m after next l
    noted p ks left item row same = record {
      done = h.done ++ p ∷ [];
      found = subst (AreAt d (h.done ++ p ∷ [])) (sym is) (placed_behind d h.done places p at h.found item);
      keys = ks;
      left = left;
      holds = row;
      same = same ∙ sym (append_assoc h.done (p ∷ []) left);
    }

    of_fields : (ks : List (List ℕ)) (fs : Fields) (left : List Pair) → n ≡ length ks → length (fields fs) ≡ length ks → FieldsLie d.now fs at → normal_entries (expand_fields ks fs) ≡ Some left → FieldsHaveWholeRows fs → m ≡ h.done ++ left → Noted d m after next l
    of_fields [] fs left long count lie v w same = absurd (omega (arith, long, less))
    of_fields (k ∷ ks) no_fields left long count lie v w same = absurd (omega (arith, count))
    of_fields (k ∷ ks) (skip fs) left long count lie v w same =
        let q = skip_lies d.now at fs lie in
        let to : next ≡ at + 1 = step None q.0 in
        next_read k (Some null) (normal_entries (expand_fields ks fs)) left v λ u rest first later here.
        noted (k, u) ks rest (record { part = skipped; lies = (refl, q.0); value = first; whole = tt; texts = h.holds.texts })
        (record { spelled = fs; long = omega (arith, long, less); count = omega (arith, count); lie = subst (FieldsLie d.now fs) (sym to) q.1; value = later; whole = w; texts = h.holds.texts })
        (same ∙ ap (λ l. h.done ++ l) (sym here))
    of_fields (k ∷ ks) (field t fs) left long count lie v w same =
        let q = field_lies d.now at t fs lie in
        let to : next ≡ at + length (tree_ends t at) = step (Some t) q.0 in
        next_read k (normal (expand t)) (normal_entries (expand_fields ks fs)) left v λ u rest first later here.
        noted (k, u) ks rest (record { part = tree t; lies = (refl, q.0); value = first; whole = w.0; texts = h.holds.texts })
        (record { spelled = fs; long = omega (arith, long, less); count = omega (arith, count); lie = subst (FieldsLie d.now fs) (sym to) q.1; value = later; whole = w.1; texts = h.holds.texts })
        (same ∙ ap (λ l. h.done ++ l) (sym here))

pub all_noted : (d : Bor Document) (m : List Pair) (places : List ℕ) (at n : ℕ) → n ≡ 0 → Noted d m places at n → AreAt d m places
all_noted d m places at n none h = of_keys h.keys h.left h.holds h.same
  where
    of_keys : (ks : List (List ℕ)) (left : List Pair) → HoldsRow (record { document = d; at = at; len = n }) ks left → m ≡ h.done ++ left → AreAt d m places
    of_keys [] left row same = subst (λ m. AreAt d m places) (sym (same ∙ ap (λ l. h.done ++ l) (sym (same_Some [] left row.value)) ∙ append-nil h.done)) h.found
    of_keys (k ∷ ks) left row same = let long = row.long in absurd (omega (arith, long, none))

-- ---- a field

pub field_is : (d : Bor Document) (m : List Pair) (places : List ℕ) (n x : ℕ) → n < length places → x ≡ get_or places n x → AreAt d m places → IsPart d.now None x (value_at m n)
field_is d [] [] n x less is h = absurd (omega (arith, less))
field_is d [] (y ∷ places) n x less is h = absurd h
field_is d (p ∷ m) [] n x less is h = absurd h
field_is d (p ∷ m) (y ∷ places) zero x less is h = subst (λ x. IsPart d.now None x p.1) (sym is) h.0
field_is d (p ∷ m) (y ∷ places) (suc n) x less is h = field_is d m places n x (omega (arith, less)) is h.1

pub no_field_is : (d : Bor Document) (m : List Pair) (places : List ℕ) (n : ℕ) → length places ≤ n → AreAt d m places → value_at m n ≡ null
no_field_is d [] places n past h = refl
no_field_is d (p ∷ m) [] n past h = absurd h
no_field_is d (p ∷ m) (y ∷ places) zero past h = absurd (omega (arith, past))
no_field_is d (p ∷ m) (y ∷ places) (suc n) past h = no_field_is d m places n (omega (arith, past)) h.1

-- the key and the place that a loop over them comes to
abbrev pub entry_at : List (Bor (List ℕ) × ℕ) → ℕ → Bor (List ℕ) × ℕ
entry_at order i = get_or order i (record { ref_ptr = (0, 0); now = [] }, 0)

pub entry_here : (order : List (Bor (List ℕ) × ℕ)) (i : ℕ) → i < length order → drop i order ≡ entry_at order i ∷ drop (i + 1) order
entry_here order i h = rw add-one (drop-cons order i (record { ref_ptr = (0, 0); now = [] }, 0) h)

-- the keys of a row are in order where those of its template are
pub row_added : {P : Type 0} (r : Row) (ks : List (List ℕ)) (m : List Pair) (order : List (Bor (List ℕ) × ℕ)) → HoldsRow r ks m → shown order ≡ last_places ks → (shown order ≡ last_places (keys_of m) → P) → P
row_added r ks m order row is then' = then' (is ∙ ap last_places (sym (keys_of_row r ks m row)))
