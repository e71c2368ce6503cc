-- Of equal keys the last entry stays.
use Rattle.std.proofs.Common.{◌≡◌, Bool, true, false, cond, ℕ, List, [], ◌∷◌, ◌++◌, reverse, length, ◌+◌, Option, Some, None, fold, refl, sym, ap, subst, ◌∙◌, Ordering, Less, Equal, Greater, nat_cmp, bytes_eq, arith}
use Rattle.std.proofs.lemmas.List.{reverse-append}
use Rattle.std.proofs.lemmas.List.Elements.{All-head, All-tail, All-contains_itself}
use Rattle.std.proofs.lemmas.Cmp.{nat_list_cmp_total}
use Rattle.std.proofs.lemmas.Slice.Eq.{bytes_eq-Decides}
use Rattle.std.proofs.lemmas.Map.Text.{is_eq-slice_cmp}
use Rattle.std.proofs.lemmas.Map.Views.{All-keys-insert_entry}
use Rattle.std.specs.Prelude.{if◌then◌else◌, is_some}
use Rattle.std.specs.Ordering.{is_eq, match_ordering, ordering_reverse}
use Rattle.std.specs.Cmp.Lexicographic.{slice_cmp}
use Rattle.std.specs.BTreeMap.{insert_entry}
use Rattle.std.specs.List.{All, AllByRecursion, Contains}
use Rattle.std.specs.List.Sorted.{IsStrictlySortedBy}
use Rattle.std.specs.Map.{keys_of, lookup}
use Rattle.std.specs.Option.{option_or}
use Rattle.bser_format.specs.GrammarLaws.{last_value, LastValuesStay, KeysRise, NoOtherKeys}

abbrev pub cmp : List ℕ → List ℕ → Ordering
cmp = slice_cmp nat_cmp

above : (k d : List ℕ) → cmp k d ≡ Less → (ks : List (List ℕ)) → AllByRecursion (λ y. cmp d y ≡ Less) ks → AllByRecursion (λ y. cmp k y ≡ Less) ks
above k d l [] h = tt
above k d l (x ∷ xs) h = (nat_list_cmp_total.trans k d x l h.0, above k d l xs h.1)

module _ {X : Type 0} where
  abbrev put : List (List ℕ × X) → List ℕ → X → List (List ℕ × X)
  put es k v = insert_entry cmp es k v

  abbrev put_all : List (List ℕ × X) → List (List ℕ × X) → List (List ℕ × X)
  put_all m es = fold (λ n e. put n e.0 e.1) m es

  -- ---- the order

  below_put : (d k : List ℕ) (v : X) (es : List (List ℕ × X)) → cmp d k ≡ Less → AllByRecursion (λ y. cmp d y ≡ Less) (keys_of es) → AllByRecursion (λ y. cmp d y ≡ Less) (keys_of (put es k v))
  below_put d k v [] l h = (l, tt)
  below_put d k v (e ∷ es) l h = go (cmp k e.0) (below_put d k v es l h.1)
    where
      go : (o : Ordering) → AllByRecursion (λ y. cmp d y ≡ Less) (keys_of (put es k v)) → AllByRecursion (λ y. cmp d y ≡ Less) (keys_of (match_ordering o ((k, v) ∷ e ∷ es) ((e.0, v) ∷ es) (e ∷ put es k v)))
      go Less r = (l, h)
      go Equal r = h
      go Greater r = (h.0, r)

  pub put_rises : (k : List ℕ) (v : X) (es : List (List ℕ × X)) → IsStrictlySortedBy cmp (keys_of es) → IsStrictlySortedBy cmp (keys_of (put es k v))
  unfolding IsStrictlySortedBy
  put_rises k v [] s = (tt, tt)
  put_rises k v (e ∷ es) s = go (cmp k e.0) refl (put_rises k v es s.1)
    where
      go : (o : Ordering) → cmp k e.0 ≡ o → IsStrictlySortedBy cmp (keys_of (put es k v)) → IsStrictlySortedBy cmp (keys_of (match_ordering o ((k, v) ∷ e ∷ es) ((e.0, v) ∷ es) (e ∷ put es k v)))
      go Less l r = ((l, above k e.0 l (keys_of es) s.0), s)
      go Equal l r = s
      go Greater l r = (below_put e.0 k v es (nat_list_cmp_total.antisymm e.0 k ∙ ap ordering_reverse l) s.0, r)

  puts_rise : (m es : List (List ℕ × X)) → IsStrictlySortedBy cmp (keys_of m) → IsStrictlySortedBy cmp (keys_of (put_all m es))
  puts_rise m [] s = s
  puts_rise m (e ∷ es) s = puts_rise (put m e.0 e.1) es (put_rises e.0 e.1 m s)

  -- ---- the values

  same_test : (q k d : List ℕ) (v w : X) (o : Option X) → k ≡ d → cond (bytes_eq q d) (Some v) o ≡ cond (bytes_eq q k) (Some v) (cond (bytes_eq q d) (Some w) o)
  same_test q k d v w o e = subst (λ j. cond (bytes_eq q d) (Some v) o ≡ cond (bytes_eq q j) (Some v) (cond (bytes_eq q d) (Some w) o)) (sym e) (twice (bytes_eq q d))
    where
      twice : (b : Bool) → cond b (Some v) o ≡ cond b (Some v) (cond b (Some w) o)
      twice true = refl
      twice false = refl

  other_test : (q k d : List ℕ) (v w : X) (o : Option X) → bytes_eq k d ≡ false → cond (bytes_eq q d) (Some w) (cond (bytes_eq q k) (Some v) o) ≡ cond (bytes_eq q k) (Some v) (cond (bytes_eq q d) (Some w) o)
  other_test q k d v w o apart_keys = swap (bytes_eq q d) (bytes_eq q k) refl refl
    where
      swap : (a b : Bool) → bytes_eq q d ≡ a → bytes_eq q k ≡ b → cond a (Some w) (cond b (Some v) o) ≡ cond b (Some v) (cond a (Some w) o)
      swap false b p r = refl
      swap true false p r = refl
      swap true true p r =
          let same : k ≡ d = sym ((bytes_eq-Decides q k).0 r) ∙ (bytes_eq-Decides q d).0 p in
          let both : true ≡ false = sym ((bytes_eq-Decides k d).1 same) ∙ apart_keys in cc

  pub put_value : (q k : List ℕ) (v : X) (es : List (List ℕ × X)) → lookup (bytes_eq q) (put es k v) ≡ cond (bytes_eq q k) (Some v) (lookup (bytes_eq q) es)
  put_value q k v [] = refl
  put_value q k v (e ∷ es) = go (cmp k e.0) (sym (is_eq-slice_cmp k e.0)) (put_value q k v es)
    where
      go : (o : Ordering) → bytes_eq k e.0 ≡ is_eq o → lookup (bytes_eq q) (put es k v) ≡ cond (bytes_eq q k) (Some v) (lookup (bytes_eq q) es)
          → lookup (bytes_eq q) (match_ordering o ((k, v) ∷ e ∷ es) ((e.0, v) ∷ es) (e ∷ put es k v)) ≡ cond (bytes_eq q k) (Some v) (cond (bytes_eq q e.0) (Some e.1) (lookup (bytes_eq q) es))
      go Less t r = refl
      go Equal t r = same_test q k e.0 v e.1 (lookup (bytes_eq q) es) ((bytes_eq-Decides k e.0).0 t)
      go Greater t r = ap (λ o. cond (bytes_eq q e.0) (Some e.1) o) r ∙ other_test q k e.0 v e.1 (lookup (bytes_eq q) es) t

  lookup_above : (k : List ℕ) (es : List (List ℕ × X)) → AllByRecursion (λ y. cmp k y ≡ Less) (keys_of es) → lookup (bytes_eq k) es ≡ None
  lookup_above k [] h = refl
  lookup_above k (e ∷ es) h =
      let t : bytes_eq k e.0 ≡ false = sym (is_eq-slice_cmp k e.0) ∙ ap is_eq h.0 in
      rw t (lookup_above k es h.1)

  -- there is one more, unless the key was there
  pub put_length : (k : List ℕ) (v : X) (es : List (List ℕ × X)) → IsStrictlySortedBy cmp (keys_of es) → length (put es k v) ≡ length es + (if is_some (lookup (bytes_eq k) es) then 0 else 1)
  unfolding IsStrictlySortedBy
  put_length k v [] s = refl
  put_length k v (e ∷ es) s = go (cmp k e.0) refl (put_length k v es s.1)
    where
      go : (o : Ordering) → cmp k e.0 ≡ o → length (put es k v) ≡ length es + (if is_some (lookup (bytes_eq k) es) then 0 else 1)
          → length (match_ordering o ((k, v) ∷ e ∷ es) ((e.0, v) ∷ es) (e ∷ put es k v)) ≡ length (e ∷ es) + (if is_some (cond (bytes_eq k e.0) (Some e.1) (lookup (bytes_eq k) es)) then 0 else 1)
      go Less l r =
          let t : bytes_eq k e.0 ≡ false = sym (is_eq-slice_cmp k e.0) ∙ ap is_eq l in
          let none : lookup (bytes_eq k) es ≡ None = lookup_above k es (above k e.0 l (keys_of es) s.0) in
          rw (t, none) (omega arith)
      go Equal l r =
          let t : bytes_eq k e.0 ≡ true = sym (is_eq-slice_cmp k e.0) ∙ ap is_eq l in
          rw t (omega arith)
      go Greater l r =
          let t : bytes_eq k e.0 ≡ false = sym (is_eq-slice_cmp k e.0) ∙ ap is_eq l in
          rw t (omega (arith, r))

  lookup_push : (q : List ℕ) (es : List (List ℕ × X)) (e : List ℕ × X) (o : Option X) → option_or (lookup (bytes_eq q) (es ++ e ∷ [])) o ≡ option_or (lookup (bytes_eq q) es) (cond (bytes_eq q e.0) (Some e.1) o)
  lookup_push q [] e o = alone (bytes_eq q e.0)
    where
      alone : (b : Bool) → option_or (cond b (Some e.1) None) o ≡ cond b (Some e.1) o
      alone true = refl
      alone false = refl
  lookup_push q (d ∷ es) e o = go (bytes_eq q d.0) (lookup_push q es e o)
    where
      go : (b : Bool) → option_or (lookup (bytes_eq q) (es ++ e ∷ [])) o ≡ option_or (lookup (bytes_eq q) es) (cond (bytes_eq q e.0) (Some e.1) o)
          → option_or (cond b (Some d.1) (lookup (bytes_eq q) (es ++ e ∷ []))) o ≡ option_or (cond b (Some d.1) (lookup (bytes_eq q) es)) (cond (bytes_eq q e.0) (Some e.1) o)
      go true r = refl
      go false r = r

  puts_value : (q : List ℕ) (m es : List (List ℕ × X)) → lookup (bytes_eq q) (put_all m es) ≡ option_or (last_value q es) (lookup (bytes_eq q) m)
  puts_value q m [] = refl
  puts_value q m (e ∷ es) =
      puts_value q (put m e.0 e.1) es
      ∙ ap (option_or (last_value q es)) (put_value q e.0 e.1 m)
      ∙ sym (lookup_push q (reverse es) e (lookup (bytes_eq q) m))
      ∙ ap (λ r. option_or (lookup (bytes_eq q) r) (lookup (bytes_eq q) m)) (sym (reverse-append (e ∷ []) es))

  option_or_none : (o : Option X) → option_or o None ≡ o
  option_or_none None = refl
  option_or_none (Some x) = refl

  -- ---- the keys

  puts_keys : (P : List ℕ → Type 0) (m es : List (List ℕ × X)) → All P (keys_of m) → All P (keys_of es) → All P (keys_of (put_all m es))
  puts_keys P m [] a b = a
  puts_keys P m (e ∷ es) a b = puts_keys P (put m e.0 e.1) es (All-keys-insert_entry cmp e.0 e.1 P m a (All-head P e.0 (keys_of es) b)) (All-tail P e.0 (keys_of es) b)

pub last_values : {X : Type 0} → LastValuesStay X
last_values k es = puts_value k [] es ∙ option_or_none (last_value k es)

pub keys_rise : {X : Type 0} → KeysRise X
unfolding IsStrictlySortedBy
keys_rise es = puts_rise [] es tt

pub no_others : {X : Type 0} → NoOtherKeys X
no_others es = puts_keys (Contains (keys_of es)) [] es (λ k d l. absurd (omega arith)) (All-contains_itself (keys_of es))
