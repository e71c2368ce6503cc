-- Entries and keys, each key once with its last value, are no longer than they were.
use Rattle.std.proofs.Common.{◌≡◌, ℕ, suc, ◌≤◌, List, [], ◌∷◌, length, refl, sym, ap, subst, ◌∙◌, arith, Ordering, Less, Equal, Greater, nat_cmp}
use Rattle.std.specs.Ordering.{match_ordering}
use Rattle.std.specs.Cmp.Lexicographic.{slice_cmp}
use Rattle.std.specs.Map.{keys_of}
use Rattle.bser_format.specs.Tree.{Tree, null, entries_of}
use Rattle.bser_format.specs.Normal.{last_entries}
use Rattle.bser_format.specs.Canonical.{canonical_entries}
use Rattle.bser_format.specs.Compact.{fold_templates, fold_entries, compact_body}
use Rattle.bser_format.proofs.Least.{weigh, key_size, put, put_all, puts_lighter, least_count_grows}
use Rattle.bser_format.proofs.Lengths.{names, head_size, length-entry}

-- ---- entries

abbrev pub compact_size : Tree → ℕ
compact_size t = length (compact_body t)

-- how long the compact bodies of the entries' values are
abbrev pub load : List (List ℕ × Tree) → ℕ
load es = weigh (λ k. 0) compact_size es

pub folded_length : (es : List (List ℕ × Tree)) → length (canonical_entries (fold_entries (entries_of es))) ≡ weigh key_size compact_size es
folded_length [] = refl
folded_length (e ∷ es) = omega (arith, length-entry e.0 (fold_templates e.1) (fold_entries (entries_of es)), folded_length es)

-- ---- the keys that stay depend on the keys alone

put_same : (m n : List (List ℕ × Tree)) (k : List ℕ) (t u : Tree) → keys_of m ≡ keys_of n → keys_of (put m k t) ≡ keys_of (put n k u)
put_same [] [] k t u h = refl
put_same [] (e ∷ n) k t u h = cc
put_same (d ∷ m) [] k t u h = cc
put_same (d ∷ m) (e ∷ n) k t u h =
    let first : d.0 ≡ e.0 = cc in
    let others : keys_of m ≡ keys_of n = cc in
    subst (λ x. keys_of (put (d ∷ m) k t) ≡ keys_of (match_ordering (slice_cmp nat_cmp k x) ((k, u) ∷ e ∷ n) ((e.0, u) ∷ n) (e ∷ put n k u))) first (go (slice_cmp nat_cmp k d.0) first (put_same m n k t u others))
  where
    go : (o : Ordering) → d.0 ≡ e.0 → keys_of (put m k t) ≡ keys_of (put n k u)
        → keys_of (match_ordering o ((k, t) ∷ d ∷ m) ((d.0, t) ∷ m) (d ∷ put m k t)) ≡ keys_of (match_ordering o ((k, u) ∷ e ∷ n) ((e.0, u) ∷ n) (e ∷ put n k u))
    go Less first more = ap (λ l. k ∷ l) h
    go Equal first more = h
    go Greater first more = rw (first, more) refl

puts_same : (m n es fs : List (List ℕ × Tree)) → keys_of m ≡ keys_of n → keys_of es ≡ keys_of fs → keys_of (put_all m es) ≡ keys_of (put_all n fs)
puts_same m n [] [] g h = g
puts_same m n [] (f ∷ fs) g h = cc
puts_same m n (e ∷ es) [] g h = cc
puts_same m n (e ∷ es) (f ∷ fs) g h =
    let first : e.0 ≡ f.0 = cc in
    let others : keys_of es ≡ keys_of fs = cc in
    let one : keys_of (put m e.0 e.1) ≡ keys_of (put n f.0 f.1) = subst (λ k. keys_of (put m e.0 e.1) ≡ keys_of (put n k f.1)) first (put_same m n e.0 e.1 f.1 g) in
    puts_same (put m e.0 e.1) (put n f.0 f.1) es fs one others

abbrev pub marked : List (List ℕ) → List (List ℕ × Tree)
marked [] = []
marked (k ∷ ks) = (k, null) ∷ marked ks

marked_keys : (ks : List (List ℕ)) → keys_of (marked ks) ≡ ks
marked_keys [] = refl
marked_keys (k ∷ ks) = ap (λ l. k ∷ l) (marked_keys ks)

-- the keys in rising order, each once
abbrev pub last_keys : List (List ℕ) → List (List ℕ)
last_keys ks = keys_of (last_entries (marked ks))

pub same_last_keys : (ks : List (List ℕ)) (m : List (List ℕ × Tree)) → keys_of m ≡ ks → keys_of (last_entries m) ≡ last_keys ks
same_last_keys ks m h = puts_same [] [] m (marked ks) refl (h ∙ sym (marked_keys ks))

keys_of_length : (es : List (List ℕ × Tree)) → length (keys_of es) ≡ length es
keys_of_length [] = refl
keys_of_length (e ∷ es) = ap suc (keys_of_length es)

keys_weight : (es : List (List ℕ × Tree)) → weigh key_size (λ t. 0) es ≡ names (keys_of es)
keys_weight [] = refl
keys_weight (e ∷ es) = omega (arith, keys_weight es)

pub fewer_keys : (ks : List (List ℕ)) → (names (last_keys ks) ≤ names ks) × (length (last_keys ks) ≤ length ks)
fewer_keys ks =
    let fewer = puts_lighter key_size (λ t. 0) [] (marked ks) in (
      omega (arith, keys_weight (last_entries (marked ks)), keys_weight (marked ks), ap names (marked_keys ks)),
      omega (arith, keys_of_length (last_entries (marked ks)), keys_of_length (marked ks), ap length (marked_keys ks)),
    )

pub one_key : (k : List ℕ) (ks : List (List ℕ)) → 1 ≤ length (last_keys (k ∷ ks))
one_key k ks =
    let more = puts_lighter key_size (λ t. 0) ((k, null) ∷ []) (marked ks) in
    omega (arith, keys_of_length (last_entries (marked (k ∷ ks))))

-- a head grows with its keys
pub head_grows : (ks ls : List (List ℕ)) → length ks ≤ length ls → names ks ≤ names ls → head_size ks ≤ head_size ls
head_grows ks ls few short = omega (arith, least_count_grows (length ks) (length ls) few)
