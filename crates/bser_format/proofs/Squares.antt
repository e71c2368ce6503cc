-- A value's depth is below twice the levels, and its text is at most the square of its bytes.
use Rattle.std.proofs.Common.{◌≡◌, ℕ, zero, suc, ◌+◌, ◌-◌, ◌*◌, ◌≤◌, List, [], ◌∷◌, length, Some, sym, ap, subst, arith}
use Rattle.std.proofs.lemmas.List.{length-append}
use Rattle.std.proofs.lemmas.Option.{same_Some}
use Rattle.std.proofs.Math.Nat.{mul-le-mul_left}
use Rattle.std.specs.Str.{is_utf8}
use Rattle.bser_format.specs.Tree.{Tree, null, boolean, integer, real, bytes, text, array, object, template, Items, no_items, item, Entries, no_entries, entry, Rows, no_rows, row, Fields, no_fields, skip, field, items, entries, fields, rows, entries_of}
use Rattle.bser_format.specs.Grammar.{Format, Each, SpellsEntry, SpellsField, IsTemplate, Spells}
use Rattle.bser_format.specs.Expand.{expand, expand_items, expand_entries, expand_rows, expand_fields}
use Rattle.bser_format.specs.Normal.{normal, normal_items, normal_entries, last_entries}
use Rattle.bser_format.specs.Canonical.{least_count, canonical_key, canonical_body, canonical_items, canonical_entries}
use Rattle.bser_format.specs.Measures.{depth, items_depth, entries_depth}
use Rattle.bser_format.proofs.Canon.{least_integer_least}
use Rattle.bser_format.proofs.Sizes.{length_then, nodes_below}
use Rattle.bser_format.proofs.Least.{map_some, then_some, guard_some, least_count_grows, bytes_least, utf8_least, key_least, key_size, body_size, weight, weight_is, length-entries_of, puts_lighter}
use Rattle.bser_format.proofs.Lengths.{names, keys_least, head_size}

-- ---- depth

abbrev pub Deep : (Tree → Format) → ℕ → Type 0
Deep F d = (t : Tree) (b : List ℕ) → F t b → depth (expand t) ≤ d

items_deep : (F : Tree → Format) (d : ℕ) → Deep F d → (ts : Items) (b : List ℕ) → Each F (items ts) b → items_depth (expand_items ts) ≤ d
items_deep F d one no_items b h = omega arith
items_deep F d one (item t ts) b h = omega (arith, one t h.front h.first, items_deep F d one ts h.rest h.second)

entries_deep : (F : Tree → Format) (d : ℕ) → Deep F d → (es : Entries) (b : List ℕ) → Each (SpellsEntry F) (entries es) b → entries_depth (expand_entries es) ≤ d
entries_deep F d one no_entries b h = omega arith
entries_deep F d one (entry k t es) b h = omega (arith, one t h.first.rest h.first.second, entries_deep F d one es h.rest h.second)

fields_deep : (F : Tree → Format) (d : ℕ) → Deep F d → (ks : List (List ℕ)) (fs : Fields) (b : List ℕ) → Each (SpellsField F) (fields fs) b → entries_depth (expand_fields ks fs) ≤ d
fields_deep F d one [] fs b h = omega arith
fields_deep F d one (k ∷ ks) no_fields b h = omega arith
fields_deep F d one (k ∷ ks) (skip fs) b h = omega (arith, fields_deep F d one ks fs h.rest h.second)
fields_deep F d one (k ∷ ks) (field t fs) b h = omega (arith, one t h.front h.first, fields_deep F d one ks fs h.rest h.second)

rows_deep : (F : Tree → Format) (d : ℕ) → Deep F d → (ks : List (List ℕ)) (rs : Rows) (b : List ℕ) → Each (Each (SpellsField F)) (rows rs) b → items_depth (expand_rows ks rs) ≤ suc d
rows_deep F d one ks no_rows b h = omega arith
rows_deep F d one ks (row fs rs) b h = omega (arith, fields_deep F d one ks fs h.front h.first, rows_deep F d one ks rs h.rest h.second)

pub depth_below : (n : ℕ) → Deep (Spells n) (2 * n - 1)
depth_below n null b h = omega arith
depth_below zero (array ts) b h = absurd h
depth_below (suc n) (array ts) b h = omega (arith, items_deep (Spells n) (2 * n - 1) (depth_below n) ts h.second.rest h.second.second)
depth_below zero (object es) b h = absurd h
depth_below (suc n) (object es) b h = omega (arith, entries_deep (Spells n) (2 * n - 1) (depth_below n) es h.second.rest h.second.second)
depth_below zero (template ks rs) b h = absurd h
depth_below (suc zero) (template ks rs) b h = absurd h
depth_below (suc (suc n)) (template ks rs) b h =
    let rest = h.1.second.second.second.second in
    omega (arith, rows_deep (Spells (suc n)) (2 * suc n - 1) (depth_below (suc n)) ks rs rest.rest rest.second)
depth_below n other b h = omega arith

-- ---- size

squares_add : (a b m n k : ℕ) → a ≤ m * m → b ≤ n * n → k ≡ m + n → a + b ≤ k * k
squares_add a b m n k p q e = subst (λ j. a + b ≤ j * j) (sym e) (omega arith)

le_square : (n : ℕ) → n ≤ n * n
le_square zero = omega arith
le_square (suc n) = omega arith

abbrev pub Squared : (Tree → Format) → Type 0
Squared F = (t : Tree) (b : List ℕ) (u : Tree) → F t b → normal (expand t) ≡ Some u → length (canonical_body u) ≤ length b * length b

items_squared : (F : Tree → Format) → Squared F → (ts : Items) (b : List ℕ) (us : Items) → Each F (items ts) b → normal_items (expand_items ts) ≡ Some us
    → (length (canonical_items us) ≤ length b * length b) × (length (items us) ≡ length (items ts))
items_squared F one no_items b us h e = let same : no_items ≡ us = same_Some no_items us e in
    (subst (λ vs. length (canonical_items vs) ≤ length b * length b) same (omega arith), ap (λ vs. length (items vs)) (sym same))
items_squared F one (item t ts) b us h e =
    then_some _ (normal (expand t)) us e λ u first more. map_some (item u) (normal_items (expand_items ts)) us more λ vs rest same.
    let others = items_squared F one ts h.rest vs h.second rest in
    let here = one t h.front u h.first first in
    let sum = squares_add _ _ (length h.front) (length h.rest) (length b) here others.0 (length_then h) in (
      subst (λ ws. length (canonical_items ws) ≤ length b * length b) same (omega (arith, sum, length-append (canonical_body u) (canonical_items vs))),
      subst (λ ws. length (items ws) ≡ suc (length (items ts))) same (ap suc others.1),
    )

entries_squared : (F : Tree → Format) → Squared F → (es : Entries) (b : List ℕ) (m : List (List ℕ × Tree)) → Each (SpellsEntry F) (entries es) b → normal_entries (expand_entries es) ≡ Some m
    → (weight m ≤ length b * length b) × (length m ≡ length (entries es))
entries_squared F one no_entries b m h e = let same : [] ≡ m = same_Some [] m e in
    (subst (λ vs. weight vs ≤ length b * length b) same (omega arith), ap length (sym same))
entries_squared F one (entry k t es) b m h e =
    then_some _ (normal (expand t)) m (guard_some (is_utf8 k) _ m e) λ u first more. map_some (λ vs. (k, u) ∷ vs) (normal_entries (expand_entries es)) m more λ vs rest same.
    let others = entries_squared F one es h.rest vs h.second rest in
    let here = one t h.first.rest u h.first.second first in
    let name : length (canonical_key k) ≤ length h.first.front * length h.first.front = omega (arith, key_least k h.first.front h.first.first, le_square (length h.first.front)) in
    let pair = squares_add _ _ (length h.first.front) (length h.first.rest) (length h.front) name here (length_then h.first) in
    let sum = squares_add _ _ (length h.front) (length h.rest) (length b) pair others.0 (length_then h) in
    (subst (λ ws. weight ws ≤ length b * length b) same (omega (arith, sum)), subst (λ ws. length ws ≡ suc (length (entries es))) same (ap suc others.1))

-- ---- templates

fields_squared : (F : Tree → Format) → Squared F → (ks : List (List ℕ)) (fs : Fields) (b : List ℕ) (m : List (List ℕ × Tree)) → Each (SpellsField F) (fields fs) b
    → normal_entries (expand_fields ks fs) ≡ Some m → (weight m ≤ names ks + length b * length b) × (length m ≤ length ks)
fields_squared F one [] fs b m h e = let same : [] ≡ m = same_Some [] m e in
    (subst (λ vs. weight vs ≤ 0 + length b * length b) same (omega arith), subst (λ (vs : List (List ℕ × Tree)). length vs ≤ 0) same (omega arith))
fields_squared F one (k ∷ ks) no_fields b m h e = let same : [] ≡ m = same_Some [] m e in
    (subst (λ vs. weight vs ≤ names (k ∷ ks) + length b * length b) same (omega arith), subst (λ (vs : List (List ℕ × Tree)). length vs ≤ length (k ∷ ks)) same (omega arith))
fields_squared F one (k ∷ ks) (skip fs) b m h e =
    map_some (λ vs. (k, null) ∷ vs) (normal_entries (expand_fields ks fs)) m (guard_some (is_utf8 k) _ m e) λ vs rest same.
    let others = fields_squared F one ks fs h.rest vs h.second rest in
    let one_byte : length h.front ≡ 1 = ap length h.first in
    let sum = squares_add 1 (length h.rest * length h.rest) (length h.front) (length h.rest) (length b) (omega (arith, le_square (length h.front))) (omega arith) (length_then h) in
    (subst (λ ws. weight ws ≤ names (k ∷ ks) + length b * length b) same (omega (arith, sum)), subst (λ ws. length ws ≤ length (k ∷ ks)) same (omega arith))
fields_squared F one (k ∷ ks) (field t fs) b m h e =
    then_some _ (normal (expand t)) m (guard_some (is_utf8 k) _ m e) λ u first more. map_some (λ vs. (k, u) ∷ vs) (normal_entries (expand_fields ks fs)) m more λ vs rest same.
    let others = fields_squared F one ks fs h.rest vs h.second rest in
    let here = one t h.front u h.first first in
    let sum = squares_add (length (canonical_body u)) (length h.rest * length h.rest) (length h.front) (length h.rest) (length b) here (omega arith) (length_then h) in
    (subst (λ ws. weight ws ≤ names (k ∷ ks) + length b * length b) same (omega (arith, sum)), subst (λ ws. length ws ≤ length (k ∷ ks)) same (omega arith))

object_text : (m : List (List ℕ × Tree)) (c w : ℕ) → length m ≤ c → weight m ≤ w → length (canonical_body (object (entries_of (last_entries m)))) ≤ 1 + length (least_count c) + w
object_text m c w l k =
    let fewer = puts_lighter key_size body_size [] m in
    let n : ℕ = length (entries (entries_of (last_entries m))) in
    let few : n ≤ c = omega (arith, length-entries_of (last_entries m)) in
    omega (arith, least_count_grows n c few, weight_is (last_entries m), length-append (least_count n) (canonical_entries (entries_of (last_entries m))))

rows_squared : (F : Tree → Format) → Squared F → (ks : List (List ℕ)) (rs : Rows) (b : List ℕ) (us : Items) → Each (Each (SpellsField F)) (rows rs) b → normal_items (expand_rows ks rs) ≡ Some us
    → (length (canonical_items us) ≤ length (rows rs) * head_size ks + length b * length b) × (length (items us) ≡ length (rows rs))
rows_squared F one ks no_rows b us h e = let same : no_items ≡ us = same_Some no_items us e in
    (subst (λ vs. length (canonical_items vs) ≤ 0 * head_size ks + length b * length b) same (omega arith), ap (λ vs. length (items vs)) (sym same))
rows_squared F one ks (row fs rs) b us h e =
    then_some _ (normal (object (expand_fields ks fs))) us e λ u first more. map_some (item u) (normal_items (expand_rows ks rs)) us more λ vs rest same.
    map_some (λ m. object (entries_of (last_entries m))) (normal_entries (expand_fields ks fs)) u first λ m some made.
    let others = rows_squared F one ks rs h.rest vs h.second rest in
    let here = fields_squared F one ks fs h.front m h.first some in
    let text : length (canonical_body u) ≤ 1 + length (least_count (length ks)) + (names ks + length h.front * length h.front) = subst (λ v. length (canonical_body v) ≤ 1 + length (least_count (length ks)) + (names ks + length h.front * length h.front)) made (object_text m (length ks) _ here.1 here.0) in
    let sum = squares_add (length h.front * length h.front) (length h.rest * length h.rest) (length h.front) (length h.rest) (length b) (omega arith) (omega arith) (length_then h) in (
      subst (λ ws. length (canonical_items ws) ≤ suc (length (rows rs)) * head_size ks + length b * length b) same (omega (arith, length-append (canonical_body u) (canonical_items vs))),
      subst (λ ws. length (items ws) ≡ suc (length (rows rs))) same (ap suc others.1),
    )

-- with a key, each row has a byte
rows_few : (n : ℕ) (ks : List (List ℕ)) (rs : Rows) (b : List ℕ) → IsTemplate ks (rows rs) → Each (Each (SpellsField (Spells n))) (rows rs) b → length (rows rs) ≤ length b
rows_few n ks no_rows b e h = omega arith
rows_few n [] (row fs rs) b e h = cc
rows_few n (k ∷ ks) (row no_fields rs) b e h = absurd (omega arith)
rows_few n (k ∷ ks) (row (skip fs) rs) b e h = omega (arith, length_then h, length_then h.first, ap length h.first.first, rows_few n (k ∷ ks) rs h.rest e.1 h.second)
rows_few n (k ∷ ks) (row (field t fs) rs) b e h = omega (arith, length_then h, length_then h.first, nodes_below n t h.first.front h.first.first, rows_few n (k ∷ ks) rs h.rest e.1 h.second)

table_square : (r s d a : ℕ) → r ≤ s → d ≤ a → 1 ≤ a → a + (r * d + s * s) ≤ (a + s) * (a + s)
table_square r s d a p q l =
    let x : r * d ≤ r * a = mul-le-mul_left r q in
    let y : a * r ≤ a * s = mul-le-mul_left a p in
    omega (arith, x, y, le_square a)

same_text : (t u : Tree) (b : List ℕ) → length (canonical_body t) ≤ length b → Some t ≡ Some u → length (canonical_body u) ≤ length b * length b
same_text t u b l e = subst (λ v. length (canonical_body v) ≤ length b * length b) (same_Some t u e) (omega (arith, le_square (length b)))

grow : (x c s k : ℕ) → x ≤ s * s → 1 + c + s ≤ k → 1 + c + x ≤ k * k
grow x c s k p q = let y : k * (1 + c + s) ≤ k * k = mul-le-mul_left k q in let z : (1 + c + s) * (1 + c + s) ≤ (1 + c + s) * k = mul-le-mul_left (1 + c + s) q in omega arith

pub text_squared : (n : ℕ) → Squared (Spells n)
text_squared n null b u h e = same_text null u b (omega (arith, ap length h)) e
text_squared n (boolean v) b u h e = same_text (boolean v) u b (omega (arith, ap length h)) e
text_squared n (integer v) b u h e = same_text (integer v) u b (least_integer_least v b h) e
text_squared n (real r) b u h e = same_text (real r) u b (omega (arith, ap length h.1)) e
text_squared n (bytes s) b u h e = same_text (bytes s) u b (bytes_least s b h) e
text_squared n (text s) b u h e = same_text (text s) u b (utf8_least s b h) e
text_squared zero (array ts) b u h e = absurd h
text_squared (suc n) (array ts) b u h e = map_some array (normal_items (expand_items ts)) u e λ us some same.
    let inside = items_squared (Spells n) (text_squared n) ts h.second.rest us h.second.second some in
    let c : ℕ = length (least_count (length (items us))) in
    let sizes : 1 + c + length h.second.rest ≤ length b = omega (arith, length_then h, ap length h.first, length_then h.second, least_integer_least _ _ h.second.first, ap (λ k. length (least_count k)) inside.1) in
    subst (λ v. length (canonical_body v) ≤ length b * length b) same (omega (arith, grow _ c _ _ inside.0 sizes, length-append (least_count (length (items us))) (canonical_items us)))
text_squared (suc n) (object es) b u h e = map_some (λ m. object (entries_of (last_entries m))) (normal_entries (expand_entries es)) u e λ m some same.
    let inside = entries_squared (Spells n) (text_squared n) es h.second.rest m h.second.second some in
    let c : ℕ = length (least_count (length (entries es))) in
    let sizes : 1 + c + length h.second.rest ≤ length b = omega (arith, length_then h, ap length h.first, length_then h.second, least_integer_least _ _ h.second.first) in
    subst (λ v. length (canonical_body v) ≤ length b * length b) same (omega (arith, grow _ c _ _ inside.0 sizes, object_text m (length (entries es)) (weight m) (omega arith) (omega arith)))
text_squared (suc zero) (template ks rs) b u h e = absurd h
text_squared (suc (suc n)) (template ks rs) b u h e = map_some array (normal_items (expand_rows ks rs)) u e λ us some same.
    let s = h.1 in
    let keyed = s.second.second in
    let rest = keyed.second.second in
    let inside = rows_squared (Spells (suc n)) (text_squared (suc n)) ks rs rest.rest us rest.second some in
    let few = rows_few (suc n) ks rs rest.rest h.0 rest.second in
    let key_part = keys_least ks keyed.second.front keyed.second.first in
    let key_count = least_integer_least _ _ keyed.first in
    let row_count = least_integer_least _ _ rest.first in
    let a : ℕ = 2 + length keyed.front + length keyed.second.front + length rest.front in
    let whole : length b ≡ a + length rest.rest = omega (arith, length_then s, ap length s.first, length_then s.second, ap length s.second.first, length_then keyed, length_then keyed.second, length_then rest) in
    let total = table_square (length (rows rs)) (length rest.rest) (head_size ks) a few (omega arith) (omega arith) in
    subst (λ v. length (canonical_body v) ≤ length b * length b) same
    (subst (λ k. length (canonical_body (array us)) ≤ k * k) (sym whole) (omega (arith, total, ap (λ k. length (least_count k)) inside.1, length-append (least_count (length (items us))) (canonical_items us))))
text_squared zero other b u h e = absurd h
