-- Files that are not listed are gone.
use Rattle.std.proofs.Common.{◌≡◌, Bool, true, false, ℕ, List, [], ◌∷◌, refl, ◌∙◌, sym, ap, subst, map}
use Rattle.std.specs.Prelude.{Option, Some, None, cond, if◌then◌else◌}
use Rattle.std.specs.Option.{option_map}
use Rattle.std.specs.Map.{lookup}
use Rattle.std.specs.Map.Calls.{RetainsPairs}
use Rattle.std.specs.Ordering.{nat_cmp}
use Rattle.std.specs.BTreeMap.{is_at}
use Rattle.std.specs.Cmp.Lexicographic.{slice_cmp}
use Rattle.watchman_index.proofs.Names.{same_name}
use Rattle.watchman_index.specs.declared.row.Row.{Row}
use Rattle.watchman_index.specs.Rows.{gone}

-- a closure that always answers `true`, stays as it was, and writes g of the key and the value
pub written : {F K X : Type 0} (T : F → K → X → Bool → X → F → Type 0) (g : K → X → X) (f : F)
    → ((k : K) (v : X) (b : Bool) (w : X) (f' : F) → T f k v b w f'
    → (b ≡ true) × (w ≡ g k v) × (f' ≡ f))
    → (es kept : List (K × X)) → RetainsPairs T f es kept → kept ≡ map (λ e. (e.0, g e.0 e.1)) es
written T g f h [] kept r = r
written T g f h (e ∷ es) kept r =
    let a = h e.0 e.1 r.0 r.1 r.2 r.4 in
    let rest = written T g f h es r.3 (subst (λ u. RetainsPairs T u es r.3) a.2 r.5) in
    r.6 ∙ ap (λ b. cond b ((e.0, r.1) ∷ r.3) r.3) a.0 ∙ (λ i. (e.0, a.1 i) ∷ rest i)

module _ {X : Type 0} (g : List ℕ → X → X) (q : List ℕ) where
  by_head : (k : List ℕ) (v : X) (es : List (List ℕ × X)) (b : Bool)
      → is_at (slice_cmp nat_cmp q) k ≡ b
      → lookup (is_at (slice_cmp nat_cmp q)) (map (λ e. (e.0, g e.0 e.1)) es)
      ≡ option_map (g q) (lookup (is_at (slice_cmp nat_cmp q)) es)
      → cond b (Some (g k v))
      (lookup (is_at (slice_cmp nat_cmp q)) (map (λ e. (e.0, g e.0 e.1)) es))
      ≡ option_map (g q) (cond b (Some v) (lookup (is_at (slice_cmp nat_cmp q)) es))
  by_head k v es true equal rest = ap (λ k. Some (g k v)) (sym ((same_name q k).0 equal))
  by_head k v es false differs rest = rest

  -- a search among values that were written by their keys
  pub lookup_written : (es : List (List ℕ × X))
      → lookup (is_at (slice_cmp nat_cmp q)) (map (λ e. (e.0, g e.0 e.1)) es)
      ≡ option_map (g q) (lookup (is_at (slice_cmp nat_cmp q)) es)
  lookup_written [] = refl
  lookup_written (e ∷ es) =
      by_head e.0 e.1 es (is_at (slice_cmp nat_cmp q) e.0) refl (lookup_written es)

-- a row that is kept where b, and else gone
pub split_kept : (n : ℕ) (b : Bool) (o : Option Row)
    → option_map (λ v. if b then v else gone n v) o ≡ (if b then o else option_map (gone n) o)
split_kept n true None = refl
split_kept n true (Some v) = refl
split_kept n false o = refl
