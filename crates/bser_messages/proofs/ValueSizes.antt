-- What a tree reads as is no larger than the tree.
use Rattle.std.proofs.Common.{◌≡◌, ℕ, ◌+◌, ◌≤◌, List, [], ◌∷◌, length, Some, subst, arith, Ordering, Less, Equal, Greater, nat_cmp}
use Rattle.std.proofs.lemmas.Option.{same_Some}
use Rattle.std.specs.Ordering.{match_ordering}
use Rattle.std.specs.Cmp.Lexicographic.{slice_cmp}
use Rattle.std.specs.Str.{is_utf8}
use Rattle.bser_format.specs.Tree.{Tree, null, boolean, integer, real, bytes, text, array, object, template, Items, no_items, item, Entries, no_entries, entry, entries_of}
use Rattle.bser_format.specs.Normal.{last_entries, normal, normal_items, normal_entries}
use Rattle.bser_format.proofs.Least.{map_some, then_some, guard_some, put, put_all}
use Rattle.bser_messages.specs.Sizes.{key_bytes, items_key_bytes, entries_key_bytes}

-- ---- entries

abbrev keys_in : List (List ℕ × Tree) → ℕ
keys_in es = entries_key_bytes (entries_of es)

put_keys : (es : List (List ℕ × Tree)) (k : List ℕ) (t : Tree) → keys_in (put es k t) ≤ keys_in es + (length k + key_bytes t)
put_keys [] k t = omega arith
put_keys (e ∷ es) k t = go (slice_cmp nat_cmp k e.0) (put_keys es k t)
  where
    go : (o : Ordering) → keys_in (put es k t) ≤ keys_in es + (length k + key_bytes t)
        → keys_in (match_ordering o ((k, t) ∷ e ∷ es) ((e.0, t) ∷ es) (e ∷ put es k t)) ≤ keys_in (e ∷ es) + (length k + key_bytes t)
    go Less h = omega arith
    go Equal h = omega arith
    go Greater h = omega arith

puts_keys : (m es : List (List ℕ × Tree)) → keys_in (put_all m es) ≤ keys_in m + keys_in es
puts_keys m [] = omega arith
puts_keys m (e ∷ es) = omega (arith, put_keys m e.0 e.1, puts_keys (put m e.0 e.1) es)

-- ---- values

same_keys : (t u : Tree) → Some t ≡ Some u → key_bytes u ≤ key_bytes t
same_keys t u e = subst (λ v. key_bytes v ≤ key_bytes t) (same_Some t u e) (omega arith)

mutual
  pub normal_key_bytes : (t u : Tree) → normal t ≡ Some u → key_bytes u ≤ key_bytes t
  normal_key_bytes null u e = same_keys null u e
  normal_key_bytes (boolean v) u e = same_keys (boolean v) u e
  normal_key_bytes (integer v) u e = same_keys (integer v) u e
  normal_key_bytes (real r) u e = same_keys (real r) u e
  normal_key_bytes (bytes s) u e = same_keys (bytes s) u e
  normal_key_bytes (text s) u e = same_keys (text s) u e
  normal_key_bytes (array ts) u e = map_some array (normal_items ts) u e λ us some same.
      subst (λ v. key_bytes v ≤ key_bytes (array ts)) same (items_keys ts us some)
  normal_key_bytes (object es) u e = map_some (λ m. object (entries_of (last_entries m))) (normal_entries es) u e λ m some same.
      subst (λ v. key_bytes v ≤ key_bytes (object es)) same (omega (arith, entries_keys es m some, puts_keys [] m))
  normal_key_bytes (template ks rs) u e = cc

  items_keys : (ts us : Items) → normal_items ts ≡ Some us → items_key_bytes us ≤ items_key_bytes ts
  items_keys no_items us e = subst (λ vs. items_key_bytes vs ≤ 0) (same_Some no_items us e) (omega arith)
  items_keys (item t ts) us e =
      then_some _ (normal t) us e λ u first more. map_some (item u) (normal_items ts) us more λ vs rest same.
      subst (λ ws. items_key_bytes ws ≤ items_key_bytes (item t ts)) same (omega (arith, normal_key_bytes t u first, items_keys ts vs rest))

  entries_keys : (es : Entries) (m : List (List ℕ × Tree)) → normal_entries es ≡ Some m → keys_in m ≤ entries_key_bytes es
  entries_keys no_entries m e = subst (λ vs. keys_in vs ≤ 0) (same_Some [] m e) (omega arith)
  entries_keys (entry k t es) m e =
      then_some _ (normal t) m (guard_some (is_utf8 k) _ m e) λ u first more. map_some (λ vs. (k, u) ∷ vs) (normal_entries es) m more λ vs rest same.
      subst (λ ws. keys_in ws ≤ entries_key_bytes (entry k t es)) same (omega (arith, normal_key_bytes t u first, entries_keys es vs rest))
