-- The name that a printed key stands for.
use Rattle.std.proofs.Common.{◌≡◌, ℕ, List, [], ◌∷◌, ◌++◌, Bool, true, false, ◌==◌, None, Ok, refl, sym, ap, subst, ◌∙◌, Ordering, Less, Greater, nat_cmp, eqb-true}
use Rattle.std.proofs.lemmas.Cmp.{nat_list_cmp_total}
use Rattle.std.proofs.lemmas.Map.Text.{is_eq-slice_cmp}
use Rattle.std.specs.Ordering.{is_eq, ordering_reverse}
use Rattle.std.specs.Cmp.Lexicographic.{slice_cmp}
use Rattle.std.specs.BTreeMap.{insert_entry}
use Rattle.std.specs.List.{AllByRecursion}
use Rattle.std.specs.List.Sorted.{IsStrictlySortedBy}
use Rattle.std.specs.Map.{keys_of, lookup}
use Rattle.std.specs.Str.{bytes_eq}
use Rattle.bser_format.specs.QuotedText.{key_mark}
use Rattle.bser_format.specs.Tree.{Tree}
use Rattle.bser_from_json.specs.Made.{mark_of, name_of, new_name}

abbrev pub cmp : List ℕ → List ℕ → Ordering
cmp = slice_cmp nat_cmp

-- ---- the printed key

unmarked : (c : ℕ) (k : List ℕ) → (c == 36) ≡ false → key_mark (c ∷ k) ≡ []
unmarked c k e = rw e refl

pub name_back : (k : List ℕ) → name_of (key_mark k ++ k) ≡ Ok k
name_back [] = refl
name_back (c ∷ k) = by (c == 36) refl
  where
    by : (b : Bool) → (c == 36) ≡ b → name_of (key_mark (c ∷ k) ++ c ∷ k) ≡ Ok (c ∷ k)
    by true e = subst (λ x. name_of (key_mark (x ∷ k) ++ x ∷ k) ≡ Ok (x ∷ k)) (sym (eqb-true c 36 e)) refl
    by false e = ap (λ m. name_of (m ++ c ∷ k)) (unmarked c k e) ∙ rw e refl

pub no_mark : (k : List ℕ) → mark_of (key_mark k ++ k) ≡ None
no_mark [] = refl
no_mark (c ∷ k) = by (c == 36) refl
  where
    by : (b : Bool) → (c == 36) ≡ b → mark_of (key_mark (c ∷ k) ++ c ∷ k) ≡ None
    by true e = subst (λ x. mark_of (key_mark (x ∷ k) ++ x ∷ k) ≡ None) (sym (eqb-true c 36 e)) refl
    by false e = ap (λ m. mark_of (m ++ c ∷ k)) (unmarked c k e) ∙ rw e refl

-- ---- in order

below_middle : {X : Type 0} (d : List ℕ) (es : List (List ℕ × X)) (e : List ℕ × X) (more : List (List ℕ × X)) → AllByRecursion (λ y. cmp d y ≡ Less) (keys_of (es ++ e ∷ more)) → cmp d e.0 ≡ Less
below_middle d [] e more h = h.0
below_middle d (x ∷ es) e more h = below_middle d es e more h.1

pub put_last : {X : Type 0} (done : List (List ℕ × X)) (e : List ℕ × X) (more : List (List ℕ × X)) → IsStrictlySortedBy cmp (keys_of (done ++ e ∷ more)) → insert_entry cmp done e.0 e.1 ≡ done ++ e ∷ []
unfolding IsStrictlySortedBy
put_last [] e more h = refl
put_last (d ∷ done) e more h =
    let above : cmp e.0 d.0 ≡ Greater = nat_list_cmp_total.antisymm e.0 d.0 ∙ ap ordering_reverse (below_middle d.0 done e more h.0) in
    rw above (ap (λ es. d ∷ es) (put_last done e more h.1))

absent : {X : Type 0} (done : List (List ℕ × X)) (e : List ℕ × X) (more : List (List ℕ × X)) → IsStrictlySortedBy cmp (keys_of (done ++ e ∷ more)) → lookup (bytes_eq e.0) done ≡ None
unfolding IsStrictlySortedBy
absent [] e more h = refl
absent (d ∷ done) e more h =
    let above : cmp e.0 d.0 ≡ Greater = nat_list_cmp_total.antisymm e.0 d.0 ∙ ap ordering_reverse (below_middle d.0 done e more h.0) in
    let t : bytes_eq e.0 d.0 ≡ false = sym (is_eq-slice_cmp e.0 d.0) ∙ ap is_eq above in
    rw t (absent done e more h.1)

pub is_new : (done : List (List ℕ × Tree)) (e : List ℕ × Tree) (more : List (List ℕ × Tree)) → IsStrictlySortedBy cmp (keys_of (done ++ e ∷ more)) → new_name done (name_of (key_mark e.0 ++ e.0)) ≡ Ok e.0
is_new done e more h = ap (new_name done) (name_back e.0) ∙ rw (absent done e more h) refl
