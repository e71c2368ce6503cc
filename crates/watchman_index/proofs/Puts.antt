-- Files that are listed are put one after the other.
use Rattle.std.proofs.Common.{◌≡◌, Bool, true, false, ℕ, List, ◌∷◌, refl, ◌∙◌, sym, ap, subst}
use Rattle.std.specs.Prelude.{Option, Some, None, cond, ◌⊎◌, Result, Ok, Err, OnErr}
use Rattle.std.specs.Bool.{Decides}
use Rattle.std.proofs.Common.{inl, inr, arith}
use Rattle.std.specs.List.{IsDistinct}
use Rattle.std.specs.Map.{keys_of, lookup}
use Rattle.std.specs.Ordering.{nat_cmp, eq_by_cmp}
use Rattle.std.specs.BTreeMap.{is_at}
use Rattle.std.specs.Cmp.{eq_by_cmp_equiv}
use Rattle.std.specs.Cmp.Lexicographic.{slice_cmp, nat_list_cmp_total}
use Rattle.std.proofs.lemmas.Map.{lookup-none}
use Rattle.std.proofs.lemmas.Map.Entries.{none_past_head, lookup_head, lookup_tail}
use Rattle.watchman_index.proofs.Names.{same_name}
use Rattle.watchman_index.specs.declared.row.FileState.{FileState}
use Rattle.watchman_index.specs.declared.row.Row.{Row}
use Rattle.watchman_index.specs.Rows.{changed_by}
use Rattle.watchman_index.specs.Tables.{row_put}

-- what a list of entries has of a name
abbrev pub at : {X : Type 0} → List (List ℕ × X) → List ℕ → Option X
at es name = lookup (is_at (slice_cmp nat_cmp name)) es

-- a row that is still to be put is as before, and each other as message n puts it
abbrev pub IsPutUpTo : ℕ → Option FileState → Option FileState → Option Row → Option Row → Type 0
IsPutUpTo n listed (Some s) was now = (now ≡ was) × (listed ≡ Some s)
IsPutUpTo n listed None was now = now ≡ row_put n listed was

pub distinct_tail : {X : Type 0} (e : X → X → Bool) (x : X) (xs : List X)
    → IsDistinct e (x ∷ xs) → IsDistinct e xs
unfolding IsDistinct
distinct_tail e x xs d = d.1

pub put_begin : (n : ℕ) (o : Option FileState) (was : Option Row) → IsPutUpTo n o o was was
put_begin n (Some s) was = (refl, refl)
put_begin n None was = refl

true-false : true ≡ false → ⊥
true-false e = absurd (grind (arith, e))

pub false_from : {P : Type 0} {b : Bool} → Decides b P → (P → ⊥) → b ≡ false
false_from {b = true} d f = absurd (f (d.0 refl))
false_from {b = false} d f = refl

module _ (n : ℕ) (k q : List ℕ) (v : FileState) (rest : List (List ℕ × FileState))
    (listed : Option FileState) (was now now' : Option Row)
    (d : IsDistinct (eq_by_cmp (slice_cmp nat_cmp)) (keys_of ((k, v) ∷ rest)))
    (h : IsPutUpTo n listed (at ((k, v) ∷ rest) q) was now)
    (e : now' ≡ cond (is_at (slice_cmp nat_cmp k) q) (Some (changed_by n v)) now) where
  put_by : (b : Bool) → is_at (slice_cmp nat_cmp q) k ≡ b → IsPutUpTo n listed (at rest q) was now'
  put_by true equal =
      let none : at rest q ≡ None = lookup-none (is_at (slice_cmp nat_cmp q)) rest
      (none_past_head (eq_by_cmp_equiv nat_list_cmp_total) q (k, v) rest d equal) in
      let back = (same_name k q).1 (sym ((same_name q k).0 equal)) in
      let found : at ((k, v) ∷ rest) q ≡ Some v
      = lookup_head (is_at (slice_cmp nat_cmp q)) (k, v) rest equal in
      let told = (subst (λ o. IsPutUpTo n listed o was now) found h).1 in
      rw (none, told) (e ∙ ap (λ b. cond b (Some (changed_by n v)) now) back)
  put_by false differs =
      let tail : at ((k, v) ∷ rest) q ≡ at rest q
      = lookup_tail (is_at (slice_cmp nat_cmp q)) (k, v) rest differs in
      let other : is_at (slice_cmp nat_cmp k) q ≡ false = false_from (same_name k q)
      (λ same. true-false (sym ((same_name q k).1 (sym same)) ∙ differs)) in
      let stays : now' ≡ now = e ∙ ap (λ b. cond b (Some (changed_by n v)) now) other in
      rw stays (subst (λ o. IsPutUpTo n listed o was now) tail h)

  pub put_step : IsPutUpTo n listed (at rest q) was now'
  put_step = put_by _ refl

pub put_partly : (n : ℕ) (listed rest : Option FileState) (was now : Option Row)
    → IsPutUpTo n listed rest was now → (now ≡ was) ⊎ (now ≡ row_put n listed was)
put_partly n listed (Some s) was now h = inl h.0
put_partly n listed None was now h = inr h

-- what holds anyway holds on an error
pub on_err : {T E P : Type 0} (r : Result T E) → P → OnErr r P
on_err (Ok x) p = tt
on_err (Err e) p = p
