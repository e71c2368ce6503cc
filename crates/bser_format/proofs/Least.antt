-- The canonical text is the shortest spelling.
use Rattle.std.proofs.Common.{◌≡◌, inl, inr, ℕ, zero, suc, ◌+◌, ◌<◌, ◌≤◌, ◌^◌, pos, Bool, true, false, cond, List, [], ◌∷◌, ◌++◌, length, Option, Some, None, option_map, option_and_then, fold, refl, sym, ap, subst, arith, Ordering, Less, Equal, Greater, nat_cmp}
use Rattle.std.proofs.lemmas.List.{length-append}
use Rattle.std.proofs.lemmas.Option.{same_Some}
use Rattle.std.proofs.lemmas.Bool.{ltb-true, lt-ltb}
use Rattle.std.specs.Ordering.{match_ordering}
use Rattle.std.specs.Cmp.Lexicographic.{slice_cmp}
use Rattle.std.specs.BTreeMap.{insert_entry}
use Rattle.std.specs.Int.{byte_len}
use Rattle.std.specs.Str.{is_utf8}
use Rattle.bser_format.specs.Tree.{Tree, null, boolean, integer, real, bytes, text, array, object, template, Items, no_items, item, Entries, no_entries, entry, items, entries, entries_of}
use Rattle.bser_format.specs.Grammar.{Format, Each, SpellsBytes, SpellsText, SpellsString, SpellsEntry, Spells, width_of}
use Rattle.bser_format.specs.Canonical.{least_integer, is_within, first_size, least_size, least_count, canonical_bytes, canonical_text, canonical_key, canonical_body, canonical_items, canonical_entries}
use Rattle.bser_format.specs.Normal.{last_entries, normal, normal_items, normal_entries}
use Rattle.bser_format.proofs.Canon.{least_integer_least, length-int_bytes}
use Rattle.bser_format.proofs.Sizes.{length_then}

-- ---- options

pub map_some : {A B P : Type 0} (f : A → B) (o : Option A) (y : B) → option_map f o ≡ Some y → ((x : A) → o ≡ Some x → f x ≡ y → P) → P
map_some f None y e k = cc
map_some f (Some x) y e k = k x refl (same_Some (f x) y e)

pub then_some : {A B P : Type 0} (f : A → Option B) (o : Option A) (y : B) → option_and_then f o ≡ Some y → ((x : A) → o ≡ Some x → f x ≡ Some y → P) → P
then_some f None y e k = cc
then_some f (Some x) y e k = k x refl e

pub guard_some : {A : Type 0} (b : Bool) (o : Option A) (y : A) → cond b o None ≡ Some y → o ≡ Some y
guard_some true o y e = e
guard_some false o y e = cc

-- ---- counts and strings

first_size_grows : (a b c d e f : Bool) → (d ≡ true → a ≡ true) → (e ≡ true → b ≡ true) → (f ≡ true → c ≡ true) → byte_len (width_of (first_size a b c)) ≤ byte_len (width_of (first_size d e f))
first_size_grows true b c true e f p q r = omega arith
first_size_grows true b c false true f p q r = omega arith
first_size_grows true b c false false true p q r = omega arith
first_size_grows true b c false false false p q r = omega arith
first_size_grows false b c true e f p q r = let x = p refl in cc
first_size_grows false true c false true f p q r = omega arith
first_size_grows false true c false false true p q r = omega arith
first_size_grows false true c false false false p q r = omega arith
first_size_grows false false c false true f p q r = let x = q refl in cc
first_size_grows false false true false false true p q r = omega arith
first_size_grows false false true false false false p q r = omega arith
first_size_grows false false false false false true p q r = let x = r refl in cc
first_size_grows false false false false false false p q r = omega arith

within_less : (m n limit : ℕ) → m ≤ n → is_within limit (pos n) ≡ true → is_within limit (pos m) ≡ true
within_less m n limit l e = let below : n < limit = ltb-true n limit e in lt-ltb m limit (omega arith)

pub least_count_grows : (m n : ℕ) → m ≤ n → length (least_count m) ≤ length (least_count n)
unfolding least_integer
least_count_grows m n l =
    let sizes = first_size_grows (is_within (2 ^ 7) (pos m)) (is_within (2 ^ 15) (pos m)) (is_within (2 ^ 31) (pos m)) (is_within (2 ^ 7) (pos n)) (is_within (2 ^ 15) (pos n)) (is_within (2 ^ 31) (pos n))
    (within_less m n (2 ^ 7) l) (within_less m n (2 ^ 15) l) (within_less m n (2 ^ 31) l) in
    omega (arith, length-int_bytes (least_size (pos m)) (pos m), length-int_bytes (least_size (pos n)) (pos n))

pub bytes_least : (s b : List ℕ) → SpellsBytes s b → length (canonical_bytes s) ≤ length b
bytes_least s b h = omega (arith, length_then h, ap length h.first, length_then h.second, ap length h.second.second, least_integer_least _ _ h.second.first, length-append (least_count (length s)) s)

pub utf8_least : (s b : List ℕ) → SpellsText s b → length (canonical_text s) ≤ length b
utf8_least s b h = omega (arith, length_then h, ap length h.first, length_then h.second, ap length h.second.second.1, least_integer_least _ _ h.second.first, length-append (least_count (length s)) s)

pub length-key : (c : Bool) (k : List ℕ) → length (cond c (canonical_text k) (canonical_bytes k)) ≡ length (canonical_bytes k)
length-key true k = refl
length-key false k = refl

pub key_least : (k b : List ℕ) → SpellsString k b → length (canonical_key k) ≤ length b
unfolding canonical_key
key_least k b h = elim h [
  | inl p ↦ omega (arith, length-key (is_utf8 k) k, bytes_least k b p)
  | inr p ↦ omega (arith, length-key (is_utf8 k) k, utf8_least k b p)
]

-- ---- entries

-- what the entries weigh, each by its key and its value
abbrev pub weigh : (List ℕ → ℕ) → (Tree → ℕ) → List (List ℕ × Tree) → ℕ
weigh of_key of_value [] = 0
weigh of_key of_value (e ∷ es) = of_key e.0 + of_value e.1 + weigh of_key of_value es

abbrev pub key_size : List ℕ → ℕ
key_size k = length (canonical_key k)

abbrev pub body_size : Tree → ℕ
body_size t = length (canonical_body t)

-- how long the entries are in the canonical form
abbrev pub weight : List (List ℕ × Tree) → ℕ
weight es = weigh key_size body_size es

pub weight_is : (es : List (List ℕ × Tree)) → length (canonical_entries (entries_of es)) ≡ weight es
weight_is [] = refl
weight_is (e ∷ es) = omega (arith, length-append (canonical_key e.0 ++ canonical_body e.1) (canonical_entries (entries_of es)), length-append (canonical_key e.0) (canonical_body e.1), weight_is es)

pub length-entries_of : (es : List (List ℕ × Tree)) → length (entries (entries_of es)) ≡ length es
length-entries_of [] = refl
length-entries_of (e ∷ es) = ap suc (length-entries_of es)

abbrev pub put : List (List ℕ × Tree) → List ℕ → Tree → List (List ℕ × Tree)
put es k t = insert_entry (slice_cmp nat_cmp) es k t

abbrev Lighter : (List ℕ → ℕ) → (Tree → ℕ) → List (List ℕ × Tree) → List ℕ → Tree → List (List ℕ × Tree) → Type 0
Lighter of_key of_value es k t new = (weigh of_key of_value new ≤ weigh of_key of_value es + of_key k + of_value t) × (length new ≤ suc (length es)) × (length es ≤ length new)

put_lighter : (of_key : List ℕ → ℕ) (of_value : Tree → ℕ) (es : List (List ℕ × Tree)) (k : List ℕ) (t : Tree) → Lighter of_key of_value es k t (put es k t)
put_lighter of_key of_value [] k t = (omega arith, omega arith, omega arith)
put_lighter of_key of_value (e ∷ es) k t = go (slice_cmp nat_cmp k e.0) (put_lighter of_key of_value es k t)
  where
    go : (o : Ordering) → Lighter of_key of_value es k t (put es k t) → Lighter of_key of_value (e ∷ es) k t (match_ordering o ((k, t) ∷ e ∷ es) ((e.0, t) ∷ es) (e ∷ put es k t))
    go Less h = (omega arith, omega arith, omega arith)
    go Equal h = (omega arith, omega arith, omega arith)
    go Greater h = (omega arith, omega arith, omega arith)

abbrev pub put_all : List (List ℕ × Tree) → List (List ℕ × Tree) → List (List ℕ × Tree)
put_all m es = fold (λ n e. put n e.0 e.1) m es

-- what stays where each key is kept once weighs no more
pub puts_lighter : (of_key : List ℕ → ℕ) (of_value : Tree → ℕ) (m es : List (List ℕ × Tree))
    → (weigh of_key of_value (put_all m es) ≤ weigh of_key of_value m + weigh of_key of_value es) × (length (put_all m es) ≤ length m + length es) × (length m ≤ length (put_all m es))
puts_lighter of_key of_value m [] = (omega arith, omega arith, omega arith)
puts_lighter of_key of_value m (e ∷ es) =
    let one = put_lighter of_key of_value m e.0 e.1 in
    let more = puts_lighter of_key of_value (put m e.0 e.1) es in
    (omega arith, omega arith, omega arith)

-- ---- values

abbrev pub Least : (Tree → Format) → Type 0
Least F = (t : Tree) (b : List ℕ) (u : Tree) → F t b → normal t ≡ Some u → length (canonical_body u) ≤ length b

items_least : (F : Tree → Format) → Least F → (ts : Items) (b : List ℕ) (us : Items) → Each F (items ts) b → normal_items ts ≡ Some us
    → (length (canonical_items us) ≤ length b) × (length (items us) ≡ length (items ts))
items_least F one no_items b us h e = let same : no_items ≡ us = same_Some no_items us e in
    (subst (λ vs. length (canonical_items vs) ≤ length b) same (omega arith), ap (λ vs. length (items vs)) (sym same))
items_least F one (item t ts) b us h e =
    then_some _ (normal t) us e λ u first more. map_some (item u) (normal_items ts) us more λ vs rest same.
    let others = items_least F one ts h.rest vs h.second rest in
    let here = one t h.front u h.first first in (
      subst (λ ws. length (canonical_items ws) ≤ length b) same (omega (arith, length_then h, length-append (canonical_body u) (canonical_items vs))),
      subst (λ ws. length (items ws) ≡ suc (length (items ts))) same (ap suc others.1),
    )

entries_least : (F : Tree → Format) → Least F → (es : Entries) (b : List ℕ) (m : List (List ℕ × Tree)) → Each (SpellsEntry F) (entries es) b → normal_entries es ≡ Some m
    → (weight m ≤ length b) × (length m ≡ length (entries es))
entries_least F one no_entries b m h e = let same : [] ≡ m = same_Some [] m e in
    (subst (λ vs. weight vs ≤ length b) same (omega arith), ap length (sym same))
entries_least F one (entry k t es) b m h e =
    then_some _ (normal t) m (guard_some (is_utf8 k) _ m e) λ u first more. map_some (λ vs. (k, u) ∷ vs) (normal_entries es) m more λ vs rest same.
    let others = entries_least F one es h.rest vs h.second rest in
    let here = one t h.first.rest u h.first.second first in (
      subst (λ ws. weight ws ≤ length b) same (omega (arith, length_then h, length_then h.first, key_least k h.first.front h.first.first)),
      subst (λ ws. length ws ≡ suc (length (entries es))) same (ap suc others.1),
    )

same_text : (t u : Tree) (b : List ℕ) → length (canonical_body t) ≤ length b → Some t ≡ Some u → length (canonical_body u) ≤ length b
same_text t u b l e = subst (λ v. length (canonical_body v) ≤ length b) (same_Some t u e) l

pub text_least : (n : ℕ) → Least (Spells n)
text_least n null b u h e = same_text null u b (omega (arith, ap length h)) e
text_least n (boolean v) b u h e = same_text (boolean v) u b (omega (arith, ap length h)) e
text_least n (integer v) b u h e = same_text (integer v) u b (least_integer_least v b h) e
text_least n (real r) b u h e = same_text (real r) u b (omega (arith, ap length h.1)) e
text_least n (bytes s) b u h e = same_text (bytes s) u b (bytes_least s b h) e
text_least n (text s) b u h e = same_text (text s) u b (utf8_least s b h) e
text_least zero (array ts) b u h e = absurd h
text_least (suc n) (array ts) b u h e = map_some array (normal_items ts) u e λ us some same.
    let inside = items_least (Spells n) (text_least n) ts h.second.rest us h.second.second some in
    subst (λ v. length (canonical_body v) ≤ length b) same
    (omega (arith, length_then h, ap length h.first, length_then h.second, least_integer_least _ _ h.second.first, ap (λ k. length (least_count k)) inside.1, length-append (least_count (length (items us))) (canonical_items us)))
text_least zero (object es) b u h e = absurd h
text_least (suc n) (object es) b u h e = map_some (λ m. object (entries_of (last_entries m))) (normal_entries es) u e λ m some same.
    let inside = entries_least (Spells n) (text_least n) es h.second.rest m h.second.second some in
    let fewer = puts_lighter key_size body_size [] m in
    let k : ℕ = length (entries (entries_of (last_entries m))) in
    let counted : k ≤ length (entries es) = omega (arith, length-entries_of (last_entries m)) in
    subst (λ v. length (canonical_body v) ≤ length b) same
    (omega (
      arith,
      length_then h,
      ap length h.first,
      length_then h.second,
      least_integer_least _ _ h.second.first,
      least_count_grows k (length (entries es)) counted,
      weight_is (last_entries m),
      length-append (least_count k) (canonical_entries (entries_of (last_entries m))),
    ))
text_least n (template ks rs) b u h e = cc
