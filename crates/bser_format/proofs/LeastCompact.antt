-- The compact text is the shortest spelling, templates included.
use Rattle.std.proofs.Common.{◌≡◌, ℕ, zero, suc, ◌≤◌, List, [], ◌∷◌, length, Some, refl, sym, ap, subst, ◌∙◌, arith}
use Rattle.std.proofs.lemmas.Option.{same_Some}
use Rattle.std.specs.List.{AllByRecursion}
use Rattle.std.specs.Map.{keys_of}
use Rattle.std.specs.Str.{is_utf8}
use Rattle.bser_format.specs.Tree.{Tree, null, boolean, integer, real, bytes, text, array, object, template, Items, no_items, item, Entries, no_entries, entry, Rows, no_rows, row, Fields, no_fields, skip, field, items, entries, fields, rows, entries_of}
use Rattle.bser_format.specs.Grammar.{Format, Each, SpellsEntry, SpellsField, Spells}
use Rattle.bser_format.specs.Message.{IsMessage}
use Rattle.bser_format.specs.Expand.{expand, expand_items, expand_entries, expand_rows, expand_fields}
use Rattle.bser_format.specs.Normal.{last_entries, normal, normal_items, normal_entries}
use Rattle.bser_format.specs.Canonical.{least_count, canonical_body, canonical_items, canonical_rows, canonical_fields, canonical_message}
use Rattle.bser_format.specs.Compact.{keys, values, as_template, fold_templates, fold_items, fold_entries, compact_body, compact_message}
use Rattle.bser_format.proofs.Canon.{least_integer_least}
use Rattle.bser_format.proofs.Sizes.{length_then}
use Rattle.bser_format.proofs.Least.{map_some, then_some, guard_some, least_count_grows, bytes_least, utf8_least, key_least, weigh, key_size, length-entries_of, puts_lighter}
use Rattle.bser_format.proofs.TemplateRows.{AreRows}
use Rattle.bser_format.proofs.Lengths.{keys_least, length-item, length-row, length-field, length-array, length-pairs, length-message, message_least}
use Rattle.bser_format.proofs.FoldedFits.{items_stay, entries_stay}
use Rattle.bser_format.proofs.Shorter.{template_shorter, rows_bound, folded_shorter}
use Rattle.bser_format.proofs.LastKeys.{compact_size, load, folded_length, last_keys, same_last_keys, fewer_keys, one_key, head_grows}

-- ---- values

-- no spelling is shorter than the compact body of what it reads as
abbrev LeastBy : (Tree → Format) → Type 0
LeastBy F = (t : Tree) (b : List ℕ) (u : Tree) → F t b → normal (expand t) ≡ Some u → length (compact_body u) ≤ length b

items_least : (F : Tree → Format) → LeastBy F → (ts : Items) (b : List ℕ) (us : Items) → Each F (items ts) b → normal_items (expand_items ts) ≡ Some us
    → (length (canonical_items (fold_items us)) ≤ length b) × (length (items us) ≡ length (items ts))
items_least F one no_items b us h e = subst (λ vs. (length (canonical_items (fold_items vs)) ≤ length b) × (length (items vs) ≡ 0)) (same_Some no_items us e) (omega arith, refl)
items_least F one (item t ts) b us h e =
    then_some _ (normal (expand t)) us e λ u first more. map_some (item u) (normal_items (expand_items ts)) us more λ vs rest same.
    let others = items_least F one ts h.rest vs h.second rest in
    let here = one t h.front u h.first first in
    subst (λ ws. (length (canonical_items (fold_items ws)) ≤ length b) × (length (items ws) ≡ suc (length (items ts)))) same
    (omega (arith, length_then h, length-item (fold_templates u) (fold_items vs)), ap suc others.1)

entries_least : (F : Tree → Format) → LeastBy F → (es : Entries) (b : List ℕ) (m : List (List ℕ × Tree)) → Each (SpellsEntry F) (entries es) b → normal_entries (expand_entries es) ≡ Some m
    → (weigh key_size compact_size m ≤ length b) × (length m ≡ length (entries es))
entries_least F one no_entries b m h e = subst (λ vs. (weigh key_size compact_size vs ≤ length b) × (length vs ≡ 0)) (same_Some [] m e) (omega arith, refl)
entries_least F one (entry k t es) b m h e =
    then_some _ (normal (expand t)) m (guard_some (is_utf8 k) _ m e) λ u first more. map_some (λ vs. (k, u) ∷ vs) (normal_entries (expand_entries es)) m more λ vs rest same.
    let others = entries_least F one es h.rest vs h.second rest in
    let here = one t h.first.rest u h.first.second first in
    subst (λ ws. (weigh key_size compact_size ws ≤ length b) × (length ws ≡ suc (length (entries es)))) same
    (omega (arith, length_then h, length_then h.first, key_least k h.first.front h.first.first), ap suc others.1)

-- ---- rows

row_least : (F : Tree → Format) → LeastBy F → (ks : List (List ℕ)) (fs : Fields) (b : List ℕ) (m : List (List ℕ × Tree)) → length (fields fs) ≡ length ks → Each (SpellsField F) (fields fs) b → normal_entries (expand_fields ks fs) ≡ Some m
    → (keys_of m ≡ ks) × (load m ≤ length b)
row_least F one [] fs b m even h e = subst (λ vs. (keys_of vs ≡ []) × (load vs ≤ length b)) (same_Some [] m e) (refl, omega arith)
row_least F one (k ∷ ks) no_fields b m even h e = absurd (omega arith)
row_least F one (k ∷ ks) (skip fs) b m even h e =
    then_some _ (normal null) m (guard_some (is_utf8 k) _ m e) λ u first more. map_some (λ vs. (k, u) ∷ vs) (normal_entries (expand_fields ks fs)) m more λ vs rest same.
    let others = row_least F one ks fs h.rest vs (omega arith) h.second rest in
    let here : length (compact_body u) ≤ 1 = subst (λ v. length (compact_body v) ≤ 1) (same_Some null u first) (omega arith) in
    subst (λ ws. (keys_of ws ≡ k ∷ ks) × (load ws ≤ length b)) same (ap (λ l. k ∷ l) others.0, omega (arith, length_then h, ap length h.first))
row_least F one (k ∷ ks) (field t fs) b m even h e =
    then_some _ (normal (expand t)) m (guard_some (is_utf8 k) _ m e) λ u first more. map_some (λ vs. (k, u) ∷ vs) (normal_entries (expand_fields ks fs)) m more λ vs rest same.
    let others = row_least F one ks fs h.rest vs (omega arith) h.second rest in
    let here = one t h.front u h.first first in
    subst (λ ws. (keys_of ws ≡ k ∷ ks) × (load ws ≤ length b)) same (ap (λ l. k ∷ l) others.0, omega (arith, length_then h))

folded_row_keys : (es : List (List ℕ × Tree)) → keys (fold_entries (entries_of es)) ≡ keys_of es
folded_row_keys [] = refl
folded_row_keys (e ∷ es) = ap (λ l. e.0 ∷ l) (folded_row_keys es)

folded_row : (es : List (List ℕ × Tree)) → length (canonical_fields (values (fold_entries (entries_of es)))) ≡ load es
folded_row [] = refl
folded_row (e ∷ es) = omega (arith, length-field (fold_templates e.1) (values (fold_entries (entries_of es))), folded_row es)

-- the items are objects of these keys, and their values take at most so many bytes
abbrev HasRows : List (List ℕ) → ℕ → ℕ → Items → Type 0
HasRows ks count size ts = (rs : Rows) × AreRows ks ts rs × (length (canonical_rows rs) ≤ size) × (length (rows rs) ≡ count)

rows_least : (F : Tree → Format) → LeastBy F → (ks : List (List ℕ)) (rs : Rows) (b : List ℕ) (us : Items) → AllByRecursion (λ r. length r ≡ length ks) (rows rs) → Each (Each (SpellsField F)) (rows rs) b
    → normal_items (expand_rows ks rs) ≡ Some us → HasRows (last_keys ks) (length (rows rs)) (length b) (fold_items us)
rows_least F one ks no_rows b us even h e = subst (λ vs. HasRows (last_keys ks) 0 (length b) (fold_items vs)) (same_Some no_items us e) (no_rows, tt, omega arith, refl)
rows_least F one ks (row fs rs) b us even h e =
    then_some _ (normal (object (expand_fields ks fs))) us e λ u first more. map_some (item u) (normal_items (expand_rows ks rs)) us more λ vs rest same.
    map_some (λ m. object (entries_of (last_entries m))) (normal_entries (expand_fields ks fs)) u first λ m some made.
    let here = row_least F one ks fs h.front m even.0 h.first some in
    let others = rows_least F one ks rs h.rest vs even.1 h.second rest in
    let lighter = puts_lighter (λ k. 0) compact_size [] m in
    let es : Entries = fold_entries (entries_of (last_entries m)) in
    let named : keys es ≡ last_keys ks = folded_row_keys (last_entries m) ∙ same_last_keys ks m here.0 in
    let size : length (canonical_rows (row (values es) others.0)) ≤ length b = omega (arith, length-row (values es) others.0, folded_row (last_entries m), length_then h) in
    let all : HasRows (last_keys ks) (suc (length (rows rs))) (length b) (item (object es) (fold_items vs)) = (row (values es) others.0, (named, refl, others.1), size, ap suc others.3) in
    subst (λ ws. HasRows (last_keys ks) (suc (length (rows rs))) (length b) (fold_items ws)) same
    (subst (λ v. HasRows (last_keys ks) (suc (length (rows rs))) (length b) (item (fold_templates v) (fold_items vs))) made all)

no_keys : (rs : Rows) (us : Items) → rows rs ≡ [] → normal_items (expand_rows [] rs) ≡ Some us → us ≡ no_items
no_keys no_rows us h e = sym (same_Some no_items us e)
no_keys (row fs rs) us h e = cc

template_least : (n : ℕ) → LeastBy (Spells (suc n)) → (ks : List (List ℕ)) (rs : Rows) (b : List ℕ) (us : Items) → Spells (suc (suc n)) (template ks rs) b → normal_items (expand_rows ks rs) ≡ Some us → length (canonical_body (as_template (fold_items us))) ≤ length b
template_least n one [] rs b us h e =
    let s = h.1 in
    let last = s.second.second.second.second in
    let none : us ≡ no_items = no_keys rs us h.0 e in
    let short : length (canonical_body (array no_items)) ≤ length b =
    omega (
      arith,
      length-array no_items,
      length_then s,
      ap length s.first,
      length_then s.second,
      ap length s.second.first,
      length_then s.second.second,
      length_then s.second.second.second,
      length_then last,
      least_integer_least _ _ last.first,
      ap (λ r. length (least_count (length r))) h.0,
    ) in
    subst (λ vs. length (canonical_body (as_template (fold_items vs))) ≤ length b) (sym none) short
template_least n one (k ∷ ks) rs b us h e =
    let s = h.1 in
    let keyed = s.second.second.second in
    let last = keyed.second in
    let made = rows_least (Spells (suc n)) one (k ∷ ks) rs last.rest us h.0 last.second e in
    let fewer = fewer_keys (k ∷ ks) in
    omega (
      arith,
      rows_bound (last_keys (k ∷ ks)) (fold_items us) made.0 (one_key k ks) made.1,
      head_grows (last_keys (k ∷ ks)) (k ∷ ks) fewer.1 fewer.0,
      ap (λ m. length (least_count m)) made.3,
      length_then s,
      ap length s.first,
      length_then s.second,
      ap length s.second.first,
      length_then s.second.second,
      least_integer_least _ _ s.second.second.first,
      length_then keyed,
      keys_least (k ∷ ks) keyed.front keyed.first,
      length_then last,
      least_integer_least _ _ last.first,
    )

-- ---- bodies

same_text : (t u : Tree) (b : List ℕ) → length (compact_body t) ≤ length b → Some t ≡ Some u → length (compact_body u) ≤ length b
same_text t u b l e = subst (λ v. length (compact_body v) ≤ length b) (same_Some t u e) l

pub compact_least : (n : ℕ) → LeastBy (Spells n)
compact_least n null b u h e = same_text null u b (omega (arith, ap length h)) e
compact_least n (boolean v) b u h e = same_text (boolean v) u b (omega (arith, ap length h)) e
compact_least n (integer v) b u h e = same_text (integer v) u b (least_integer_least v b h) e
compact_least n (real r) b u h e = same_text (real r) u b (omega (arith, ap length h.1)) e
compact_least n (bytes s) b u h e = same_text (bytes s) u b (bytes_least s b h) e
compact_least n (text s) b u h e = same_text (text s) u b (utf8_least s b h) e
compact_least zero (array ts) b u h e = absurd h
compact_least (suc n) (array ts) b u h e = map_some array (normal_items (expand_items ts)) u e λ us some same.
    let inside = items_least (Spells n) (compact_least n) ts h.second.rest us h.second.second some in
    subst (λ v. length (compact_body v) ≤ length b) same
    (omega (
      arith,
      template_shorter (fold_items us),
      length-array (fold_items us),
      ap (λ k. length (least_count k)) (items_stay us ∙ inside.1),
      length_then h,
      ap length h.first,
      length_then h.second,
      least_integer_least _ _ h.second.first,
    ))
compact_least (suc n) (object es) b u h e = map_some (λ m. object (entries_of (last_entries m))) (normal_entries (expand_entries es)) u e λ m some same.
    let inside = entries_least (Spells n) (compact_least n) es h.second.rest m h.second.second some in
    let lighter = puts_lighter key_size compact_size [] m in
    let last : Entries = fold_entries (entries_of (last_entries m)) in
    let counted : length (entries last) ≤ length (entries es) = omega (arith, entries_stay (entries_of (last_entries m)), length-entries_of (last_entries m)) in
    subst (λ v. length (compact_body v) ≤ length b) same
    (omega (
      arith,
      length-pairs last,
      folded_length (last_entries m),
      least_count_grows (length (entries last)) (length (entries es)) counted,
      length_then h,
      ap length h.first,
      length_then h.second,
      least_integer_least _ _ h.second.first,
    ))
compact_least (suc zero) (template ks rs) b u h e = absurd h
compact_least (suc (suc n)) (template ks rs) b u h e = map_some array (normal_items (expand_rows ks rs)) u e λ us some same.
    subst (λ v. length (compact_body v) ≤ length b) same (template_least n (compact_least (suc n)) ks rs b us h some)
compact_least zero other b u h e = absurd h

-- ---- messages

pub least_compact : (n c : ℕ) (u v : Tree) (b : List ℕ) → IsMessage n c u b → normal (expand u) ≡ Some v → length (compact_message v) ≤ length b
least_compact n c u v b m e = message_least n c (fold_templates v) u b m (compact_least n u m.body v m.value e)

pub compact_no_longer : (t : Tree) → length (compact_message t) ≤ length (canonical_message t)
compact_no_longer t = omega (arith, length-message (fold_templates t), length-message t, folded_shorter t, least_count_grows (length (compact_body t)) (length (canonical_body t)) (folded_shorter t))
