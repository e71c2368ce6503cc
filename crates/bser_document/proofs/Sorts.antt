-- Entries that are put into a map, one after the other.
use Rattle.std.proofs.Common.{◌≡◌, ℕ, List, [], ◌∷◌, fold, Some, None, refl, sym, ap, subst, ◌∙◌, Ordering, Less, Equal, Greater, nat_cmp, Bor, BTreeMap}
use Rattle.std.specs.Ordering.{match_ordering}
use Rattle.std.specs.Cmp.Lexicographic.{slice_cmp}
use Rattle.std.specs.BTreeMap.{insert_entry}
use Rattle.bser_format.specs.Tree.{Tree, null, boolean, integer, real, bytes, text, array, object, template, entries, entries_of}
use Rattle.bser_format.specs.Normal.{last_entries}
use Rattle.bser_value.specs.Contents.{as_object}
use Rattle.bser_document.specs.declared.item.Item.{Item}
use Rattle.bser_document.specs.declared.entries.Entries.{Entries}
use Rattle.bser_document.specs.declared.entries.Entry.{Entry}
use Rattle.bser_document.specs.Pairs.{HoldsEntries, FindsEntries, GivesEntry}
use Rattle.bser_document.specs.Sorted.{IsEntry, Lists, FindsSorted}

abbrev pub put : List (List ℕ × Tree) → List ℕ × Tree → List (List ℕ × Tree)
put m p = insert_entry (slice_cmp nat_cmp) m p.0 p.1

abbrev pub put_item : List (Bor (List ℕ) × Item) → Bor (List ℕ) → Item → List (Bor (List ℕ) × Item)
put_item es k i = insert_entry (λ x y. slice_cmp nat_cmp x.now y.now) es k i

-- an entry is put in as its pair is
pub lists_put : (m : List (List ℕ × Tree)) (es : List (Bor (List ℕ) × Item)) (p : List ℕ × Tree) (k : Bor (List ℕ)) (i : Item) → IsEntry p (k, i) → Lists m es → Lists (put m p) (put_item es k i)
lists_put [] [] p k i e h = (e, tt)
lists_put [] (x ∷ es) p k i e h = absurd h
lists_put (q ∷ m) [] p k i e h = absurd h
lists_put (q ∷ m) (x ∷ es) p k i e h =
    let same : slice_cmp nat_cmp p.0 q.0 ≡ slice_cmp nat_cmp k.now x.0.now = ap (λ n. slice_cmp nat_cmp n q.0) (sym e.0) ∙ ap (slice_cmp nat_cmp k.now) (sym h.0.0) in
    subst (λ o. Lists (match_ordering o (p ∷ q ∷ m) ((q.0, p.1) ∷ m) (q ∷ put m p)) (put_item (x ∷ es) k i)) (sym same)
    (at (slice_cmp nat_cmp k.now x.0.now) (lists_put m es p k i e h.1))
  where
    at : (o : Ordering) → Lists (put m p) (put_item es k i) → Lists (match_ordering o (p ∷ q ∷ m) ((q.0, p.1) ∷ m) (q ∷ put m p)) (match_ordering o ((k, i) ∷ x ∷ es) ((x.0, i) ∷ es) (x ∷ put_item es k i))
    at Less later = (e, h)
    at Equal later = ((h.0.0, e.1), h.1)
    at Greater later = (h.0, later)

-- the entries that are put in, and those that are left
pub record Sorting (m : List (List ℕ × Tree)) (es : List (Bor (List ℕ) × Item)) (rest : Entries) : Type 0 where
  pub done : List (List ℕ × Tree)
  pub lists : Lists done es
  pub left : List (List ℕ × Tree)
  pub holds : HoldsEntries rest left
  pub same : fold put done left ≡ last_entries m

pub none_sorted : (m : List (List ℕ × Tree)) (es : List (Bor (List ℕ) × Item)) (s rest : Entries) → es ≡ [] → rest ≡ s → HoldsEntries s m → Sorting m es rest
none_sorted m es s rest none same h = record { done = []; lists = subst (Lists []) (sym none) tt; left = m; holds = subst (λ s. HoldsEntries s m) (sym same) h; same = refl }

pub one_sorted : (m : List (List ℕ × Tree)) (es fs : List (Bor (List ℕ) × Item)) (rest next : Entries) (e : Entry) → fs ≡ put_item es e.key e.value → ((m : List (List ℕ × Tree)) → HoldsEntries rest m → GivesEntry m (Some e) next) → Sorting m es rest → Sorting m fs next
one_sorted m es fs rest next e is gives h = of_left h.left h.holds h.same
  where
    of_left : (l : List (List ℕ × Tree)) → HoldsEntries rest l → fold put h.done l ≡ last_entries m → Sorting m fs next
    of_left [] holds same = absurd (gives [] holds)
    of_left (p ∷ l) holds same =
        let g = gives (p ∷ l) holds in
        record { done = put h.done p; lists = subst (Lists (put h.done p)) (sym is) (lists_put h.done es p e.key e.value (g.0, g.1) h.lists); left = l; holds = g.2; same = same }

pub all_sorted : (m : List (List ℕ × Tree)) (es : List (Bor (List ℕ) × Item)) (rest next : Entries) → ((m : List (List ℕ × Tree)) → HoldsEntries rest m → GivesEntry m None next) → Sorting m es rest → Lists (last_entries m) es
all_sorted m es rest next gives h = of_left h.left h.holds h.same
  where
    of_left : (l : List (List ℕ × Tree)) → HoldsEntries rest l → fold put h.done l ≡ last_entries m → Lists (last_entries m) es
    of_left [] holds same = subst (λ l. Lists l es) same h.lists
    of_left (p ∷ l) holds same = absurd (gives (p ∷ l) holds)

-- ---- the entries of an object

pub entries_back : (m : List (List ℕ × Tree)) → entries (entries_of m) ≡ m
entries_back [] = refl
entries_back (p ∷ m) = ap (λ l. p ∷ l) (entries_back m)

pub found_sorted : (u : Tree) (s : Entries) (map : BTreeMap (Bor (List ℕ)) Item) → FindsEntries (as_object u) (Some s) → ((m : List (List ℕ × Tree)) → HoldsEntries s m → Lists (last_entries m) map.entries) → FindsSorted (as_object u) (Some map)
found_sorted null s map h all = absurd h
found_sorted (boolean v) s map h all = absurd h
found_sorted (integer v) s map h all = absurd h
found_sorted (real v) s map h all = absurd h
found_sorted (bytes b) s map h all = absurd h
found_sorted (text b) s map h all = absurd h
found_sorted (array ts) s map h all = absurd h
found_sorted (object es) s map h all = subst (λ l. Lists l map.entries) (sym (ap entries h.same ∙ entries_back (last_entries h.spelled))) (all h.spelled h.holds)
found_sorted (template ks rs) s map h all = absurd h

pub none_found : (u : Tree) → FindsEntries (as_object u) None → FindsSorted (as_object u) None
none_found null h = tt
none_found (boolean v) h = tt
none_found (integer v) h = tt
none_found (real v) h = tt
none_found (bytes s) h = tt
none_found (text s) h = tt
none_found (array ts) h = tt
none_found (object es) h = absurd h
none_found (template ks rs) h = tt
