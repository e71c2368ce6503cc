-- The canonical message is a message, and reads back.
use Rattle.std.proofs.Common.{◌≡◌, ℕ, ◌<◌, ◌≤◌, ◌^◌, List, [], ◌∷◌, ◌++◌, length, Some, option_map, fold, refl, sym, ap, subst, ◌∙◌, arith, append_assoc, append-nil, Ordering, Less, Greater, nat_cmp}
use Rattle.std.proofs.lemmas.List.{length-append}
use Rattle.std.proofs.lemmas.Str.{is_utf8-from_IsUtf8}
use Rattle.std.proofs.lemmas.Cmp.{nat_list_cmp_total}
use Rattle.std.specs.Ordering.{ordering_reverse}
use Rattle.std.specs.Cmp.Lexicographic.{slice_cmp}
use Rattle.std.specs.BTreeMap.{insert_entry}
use Rattle.std.specs.List.{AllByRecursion}
use Rattle.std.specs.List.Sorted.{IsStrictlySortedBy}
use Rattle.std.specs.Map.{keys_of}
use Rattle.std.specs.Int.{w32, to_le_bytes}
use Rattle.bser_format.specs.Tree.{Tree, null, boolean, integer, real, bytes, text, array, object, template, Items, no_items, item, Entries, no_entries, entry, entries, entries_of}
use Rattle.bser_format.specs.Grammar.{Bytes, SpellsCount}
use Rattle.bser_format.specs.Expand.{expand, expand_items, expand_entries}
use Rattle.bser_format.specs.Normal.{last_entries, normal, normal_items, normal_entries}
use Rattle.bser_format.specs.Canonical.{least_count, canonical_body, IsWritable, canonical_message}
use Rattle.bser_format.specs.Measures.{depth}
use Rattle.bser_format.specs.Message.{IsMessage}
use Rattle.bser_format.specs.Compact.{keys}
use Rattle.bser_format.specs.ValueTree.{IsValueTree, ItemsAreValueTrees, EntriesAreValueTrees}
use Rattle.bser_format.proofs.Canon.{joined, count_spelled, text_spelled}
use Rattle.bser_format.proofs.Fronts.{entries_back}

pub canon_message : (n : ℕ) (t : Tree) → IsWritable t → depth t ≤ n → length (canonical_message t) < 2 ^ 63 → IsMessage n 0 t (canonical_message t)
canon_message n t h l short =
    let body : length (canonical_body t) < 2 ^ 63 = omega (arith, length-append (least_count (length (canonical_body t))) (canonical_body t), length-append (to_le_bytes w32 0) (least_count (length (canonical_body t)) ++ canonical_body t)) in
    record {
      body = canonical_body t;
      capabilities = omega arith;
      whole = joined (Bytes (0 ∷ 2 ∷ [])) _ (0 ∷ 2 ∷ []) _ refl (joined (Bytes (to_le_bytes w32 0)) _ (to_le_bytes w32 0) _ refl
          (joined (SpellsCount (length (canonical_body t))) (Bytes (canonical_body t)) (least_count (length (canonical_body t))) (canonical_body t) (count_spelled _ body) refl));
      value = text_spelled n t h l;
      short = short;
    }

-- ---- a settled tree stands for itself, and is its own normal form

abbrev pub cmp : List ℕ → List ℕ → Ordering
cmp = slice_cmp nat_cmp

keys_same : (es : Entries) → keys_of (entries es) ≡ keys es
keys_same no_entries = refl
keys_same (entry k t es) = ap (λ ks. k ∷ ks) (keys_same es)

below_middle : {X : Type 0} (d : List ℕ) (es : List (List ℕ × X)) (e : List ℕ × X) (more : List (List ℕ × X)) → AllByRecursion (λ y. cmp d y ≡ Less) (keys_of (es ++ e ∷ more)) → cmp d e.0 ≡ Less
below_middle d [] e more h = h.0
below_middle d (x ∷ es) e more h = below_middle d es e more h.1

put_last : {X : Type 0} (done : List (List ℕ × X)) (e : List ℕ × X) (more : List (List ℕ × X)) → IsStrictlySortedBy cmp (keys_of (done ++ e ∷ more)) → insert_entry cmp done e.0 e.1 ≡ done ++ e ∷ []
unfolding IsStrictlySortedBy
put_last [] e more h = refl
put_last (d ∷ done) e more h =
    let above : cmp e.0 d.0 ≡ Greater = nat_list_cmp_total.antisymm e.0 d.0 ∙ ap ordering_reverse (below_middle d.0 done e more h.0) in
    rw above (ap (λ es. d ∷ es) (put_last done e more h.1))

puts_in_order : {X : Type 0} (done more : List (List ℕ × X)) → IsStrictlySortedBy cmp (keys_of (done ++ more)) → fold (λ m e. insert_entry cmp m e.0 e.1) done more ≡ done ++ more
puts_in_order done [] h = sym (append-nil done)
puts_in_order done (e ∷ more) h =
    ap (λ m. fold (λ n x. insert_entry cmp n x.0 x.1) m more) (put_last done e more h)
    ∙ puts_in_order (done ++ e ∷ []) more (subst (λ es. IsStrictlySortedBy cmp (keys_of es)) (sym (append_assoc done (e ∷ []) more)) h)
    ∙ append_assoc done (e ∷ []) more

mutual
  pub normal_settled : (t : Tree) → IsValueTree t → (expand t ≡ t) × (normal t ≡ Some t)
  normal_settled null h = (refl, refl)
  normal_settled (array ts) h = let inside = items_settled ts h in (ap array inside.0, ap (option_map array) inside.1)
  normal_settled (object es) h =
      let inside = entries_settled es h.1 in (
        ap object inside.0,
        ap (option_map (λ m. object (entries_of (last_entries m)))) inside.1
            ∙ ap (λ m. Some (object (entries_of m))) (puts_in_order [] (entries es) (subst (IsStrictlySortedBy cmp) (sym (keys_same es)) h.0))
            ∙ ap (λ es. Some (object es)) (entries_back es),
      )
  normal_settled (template ks rs) h = absurd h
  normal_settled other h = (refl, refl)

  items_settled : (ts : Items) → ItemsAreValueTrees ts → (expand_items ts ≡ ts) × (normal_items ts ≡ Some ts)
  items_settled no_items h = (refl, refl)
  items_settled (item t ts) h =
      let one = normal_settled t h.0 in
      let more = items_settled ts h.1 in
      (rw (one.0, more.0) refl, rw (one.1, more.1) refl)

  entries_settled : (es : Entries) → EntriesAreValueTrees es → (expand_entries es ≡ es) × (normal_entries es ≡ Some (entries es))
  entries_settled no_entries h = (refl, refl)
  entries_settled (entry k t es) h =
      let one = normal_settled t h.1 in
      let more = entries_settled es h.2 in
      (rw (one.0, more.0) refl, rw (is_utf8-from_IsUtf8 k h.0, one.1, more.1) refl)
