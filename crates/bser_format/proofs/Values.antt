-- What a tree reads as has no more values than the tree and is no deeper.
use Rattle.std.proofs.Common.{◌≡◌, ℕ, max, ◌+◌, ◌≤◌, List, [], ◌∷◌, Some, refl, ap, subst, arith, Ordering, Less, Equal, Greater, nat_cmp}
use Rattle.std.proofs.lemmas.Option.{same_Some}
use Rattle.std.specs.Ordering.{match_ordering}
use Rattle.std.specs.Cmp.Lexicographic.{slice_cmp}
use Rattle.std.specs.Str.{is_utf8}
use Rattle.bser_format.specs.Tree.{Tree, null, boolean, integer, real, bytes, text, array, object, template, Items, no_items, item, Entries, no_entries, entry, entries_of}
use Rattle.bser_format.specs.Expand.{expand, expand_items, expand_entries, IsTemplateFree, ItemsAreTemplateFree, EntriesAreTemplateFree}
use Rattle.bser_format.specs.Normal.{last_entries, normal, normal_items, normal_entries}
use Rattle.bser_format.specs.Measures.{depth, items_depth, entries_depth, nodes, items_nodes, entries_nodes}
use Rattle.bser_format.proofs.Least.{map_some, then_some, guard_some, put, put_all}

-- ---- entries

abbrev values_in : List (List ℕ × Tree) → ℕ
values_in es = entries_nodes (entries_of es)

abbrev levels_in : List (List ℕ × Tree) → ℕ
levels_in es = entries_depth (entries_of es)

abbrev Fewer : List (List ℕ × Tree) → Tree → List (List ℕ × Tree) → Type 0
Fewer es t new = (values_in new ≤ values_in es + nodes t) × (levels_in new ≤ max (levels_in es) (depth t))

put_fewer : (es : List (List ℕ × Tree)) (k : List ℕ) (t : Tree) → Fewer es t (put es k t)
put_fewer [] k t = (omega arith, omega arith)
put_fewer (e ∷ es) k t = go (slice_cmp nat_cmp k e.0) (put_fewer es k t)
  where
    go : (o : Ordering) → Fewer es t (put es k t) → Fewer (e ∷ es) t (match_ordering o ((k, t) ∷ e ∷ es) ((e.0, t) ∷ es) (e ∷ put es k t))
    go Less h = (omega arith, omega arith)
    go Equal h = (omega arith, omega arith)
    go Greater h = (omega arith, omega arith)

puts_fewer : (m es : List (List ℕ × Tree)) → (values_in (put_all m es) ≤ values_in m + values_in es) × (levels_in (put_all m es) ≤ max (levels_in m) (levels_in es))
puts_fewer m [] = (omega arith, omega arith)
puts_fewer m (e ∷ es) =
    let one = put_fewer m e.0 e.1 in
    let more = puts_fewer (put m e.0 e.1) es in
    (omega arith, omega arith)

-- ---- values

abbrev pub Within : Tree → Tree → Type 0
Within u t = (nodes u ≤ nodes t) × (depth u ≤ depth t)

same_within : (t u : Tree) → Some t ≡ Some u → Within u t
same_within t u e = subst (λ v. Within v t) (same_Some t u e) (omega arith, omega arith)

mutual
  pub normal_within : (t u : Tree) → normal t ≡ Some u → Within u t
  normal_within null u e = same_within null u e
  normal_within (boolean v) u e = same_within (boolean v) u e
  normal_within (integer v) u e = same_within (integer v) u e
  normal_within (real r) u e = same_within (real r) u e
  normal_within (bytes s) u e = same_within (bytes s) u e
  normal_within (text s) u e = same_within (text s) u e
  normal_within (array ts) u e = map_some array (normal_items ts) u e λ us some same.
      let inside = items_within ts us some in
      subst (λ v. Within v (array ts)) same (omega arith, omega arith)
  normal_within (object es) u e = map_some (λ m. object (entries_of (last_entries m))) (normal_entries es) u e λ m some same.
      let inside = entries_within es m some in
      let fewer = puts_fewer [] m in
      subst (λ v. Within v (object es)) same (omega arith, omega arith)
  normal_within (template ks rs) u e = cc

  items_within : (ts us : Items) → normal_items ts ≡ Some us → (items_nodes us ≤ items_nodes ts) × (items_depth us ≤ items_depth ts)
  items_within no_items us e = subst (λ vs. (items_nodes vs ≤ 0) × (items_depth vs ≤ 0)) (same_Some no_items us e) (omega arith, omega arith)
  items_within (item t ts) us e =
      then_some _ (normal t) us e λ u first more. map_some (item u) (normal_items ts) us more λ vs rest same.
      let one = normal_within t u first in
      let others = items_within ts vs rest in
      subst (λ ws. (items_nodes ws ≤ items_nodes (item t ts)) × (items_depth ws ≤ items_depth (item t ts))) same (omega arith, omega arith)

  entries_within : (es : Entries) (m : List (List ℕ × Tree)) → normal_entries es ≡ Some m → (values_in m ≤ entries_nodes es) × (levels_in m ≤ entries_depth es)
  entries_within no_entries m e = subst (λ vs. (values_in vs ≤ 0) × (levels_in vs ≤ 0)) (same_Some [] m e) (omega arith, omega arith)
  entries_within (entry k t es) m e =
      then_some _ (normal t) m (guard_some (is_utf8 k) _ m e) λ u first more. map_some (λ vs. (k, u) ∷ vs) (normal_entries es) m more λ vs rest same.
      let one = normal_within t u first in
      let others = entries_within es vs rest in
      subst (λ ws. (values_in ws ≤ entries_nodes (entry k t es)) × (levels_in ws ≤ entries_depth (entry k t es))) same (omega arith, omega arith)

-- ---- trees without templates

mutual
  pub expand_free : (t : Tree) → IsTemplateFree t → expand t ≡ t
  expand_free null h = refl
  expand_free (array ts) h = ap array (items_free ts h)
  expand_free (object es) h = ap object (entries_free es h)
  expand_free (template ks rs) h = absurd h
  expand_free other h = refl

  items_free : (ts : Items) → ItemsAreTemplateFree ts → expand_items ts ≡ ts
  items_free no_items h = refl
  items_free (item t ts) h = let one = expand_free t h.0 in let more = items_free ts h.1 in rw (one, more) refl

  entries_free : (es : Entries) → EntriesAreTemplateFree es → expand_entries es ≡ es
  entries_free no_entries h = refl
  entries_free (entry k t es) h = let one = expand_free t h.0 in let more = entries_free es h.1 in rw (one, more) refl
