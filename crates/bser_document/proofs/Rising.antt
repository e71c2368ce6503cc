-- Entries whose keys rise strictly are their own last entries.
use Rattle.std.proofs.Common.{◌≡◌, ℕ, List, [], ◌∷◌, ◌++◌, fold, Option, Some, None, option_map, refl, sym, ap, subst, ◌∙◌, append_assoc, append-nil, Less, Greater, nat_cmp, Bor}
use Rattle.std.proofs.lemmas.Cmp.{nat_list_cmp_total}
use Rattle.std.specs.List.{AllByRecursion}
use Rattle.std.specs.Ordering.{ordering_reverse}
use Rattle.std.specs.Cmp.Lexicographic.{slice_cmp}
use Rattle.bser_format.specs.Tree.{Tree}
use Rattle.bser_format.specs.Normal.{last_entries}
use Rattle.bser_document.specs.declared.entries.Entries.{Entries}
use Rattle.bser_document.specs.declared.entries.Entry.{Entry}
use Rattle.bser_document.specs.Pairs.{HoldsEntries, GivesEntry}
use Rattle.bser_document.specs.Sorted.{IsAbove}
use Rattle.bser_document.proofs.Sorts.{put}

-- each key is above the one before it
abbrev pub Rises : Option (List ℕ) → List (List ℕ × Tree) → Type 0
Rises before [] = Unit {0}
Rises before (p ∷ m) = IsAbove before p.0 × Rises (Some p.0) m

-- each of these keys is below this one
abbrev AreBelow : List (List ℕ × Tree) → List ℕ → Type 0
AreBelow m k = AllByRecursion (λ e. slice_cmp nat_cmp e.0 k ≡ Less) m

put_last : (done : List (List ℕ × Tree)) (p : List ℕ × Tree) → AreBelow done p.0 → put done p ≡ done ++ p ∷ []
put_last [] p h = refl
put_last (d ∷ done) p h =
    let above : slice_cmp nat_cmp p.0 d.0 ≡ Greater = nat_list_cmp_total.antisymm p.0 d.0 ∙ ap ordering_reverse h.0 in
    rw above (ap (λ es. d ∷ es) (put_last done p h.1))

below_next : (done : List (List ℕ × Tree)) (p : List ℕ × Tree) (k : List ℕ) → AreBelow done p.0 → slice_cmp nat_cmp p.0 k ≡ Less → AreBelow (done ++ p ∷ []) k
below_next [] p k h l = (l, tt)
below_next (d ∷ done) p k h l = (nat_list_cmp_total.trans d.0 p.0 k h.0 l, below_next done p k h.1 l)

put_in_order : (done m : List (List ℕ × Tree)) (before : Option (List ℕ)) → ((k : List ℕ) → IsAbove before k → AreBelow done k) → Rises before m → fold put done m ≡ done ++ m
put_in_order done [] before under h = sym (append-nil done)
put_in_order done (p ∷ m) before under h =
    let all : AreBelow done p.0 = under p.0 h.0 in
    ap (λ d. fold put d m) (put_last done p all)
    ∙ put_in_order (done ++ p ∷ []) m (Some p.0) (λ k l. below_next done p k all l) h.1
    ∙ append_assoc done (p ∷ []) m

pub rising_last : (m : List (List ℕ × Tree)) → Rises None m → last_entries m ≡ m
rising_last m h = put_in_order [] m None (λ k l. tt) h

-- the entries that are left to look at, where those before them rise
pub record Looking (m : List (List ℕ × Tree)) (before : Option (Bor (List ℕ))) (rest : Entries) : Type 0 where
  pub left : List (List ℕ × Tree)
  pub holds : HoldsEntries rest left
  pub rise : Rises (option_map (λ k. k.now) before) left → Rises None m

pub one_risen : (m : List (List ℕ × Tree)) (before : Option (Bor (List ℕ))) (rest next : Entries) (e : Entry) → IsAbove (option_map (λ k. k.now) before) e.key.now → ((m : List (List ℕ × Tree)) → HoldsEntries rest m → GivesEntry m (Some e) next)
    → Looking m before rest → Looking m (Some e.key) next
one_risen m before rest next e above gives h = of_left h.left h.holds h.rise
  where
    of_left : (l : List (List ℕ × Tree)) → HoldsEntries rest l → (Rises (option_map (λ k. k.now) before) l → Rises None m) → Looking m (Some e.key) next
    of_left [] holds rise = absurd (gives [] holds)
    of_left (p ∷ l) holds rise =
        let g = gives (p ∷ l) holds in
        record { left = l; holds = g.2; rise = λ r. rise (subst (IsAbove (option_map (λ k. k.now) before)) g.0 above, subst (λ k. Rises (Some k) l) g.0 r) }

pub all_risen : (m : List (List ℕ × Tree)) (before : Option (Bor (List ℕ))) (rest next : Entries) → ((m : List (List ℕ × Tree)) → HoldsEntries rest m → GivesEntry m None next) → Looking m before rest → last_entries m ≡ m
all_risen m before rest next gives h = of_left h.left h.holds h.rise
  where
    of_left : (l : List (List ℕ × Tree)) → HoldsEntries rest l → (Rises (option_map (λ k. k.now) before) l → Rises None m) → last_entries m ≡ m
    of_left [] holds rise = rising_last m (rise tt)
    of_left (p ∷ l) holds rise = absurd (gives (p ∷ l) holds)
