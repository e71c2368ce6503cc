-- Where a value can be written, its compact tree can.
use Rattle.std.proofs.Common.{◌≡◌, ℕ, suc, ◌+◌, ◌≤◌, ◌<◌, ◌^◌, List, [], ◌∷◌, length, refl, sym, ap, subst, arith, IsUtf8}
use Rattle.std.proofs.lemmas.List.{length-append}
use Rattle.std.specs.List.{AllByRecursion}
use Rattle.bser_format.specs.Tree.{Tree, null, boolean, integer, real, bytes, text, array, object, template, Items, no_items, item, Entries, no_entries, entry, Rows, no_rows, row, items, entries}
use Rattle.bser_format.specs.Canonical.{least_count, canonical_body, canonical_items, canonical_entries, canonical_rows, canonical_fields, IsCount, IsWritableText, IsWritable, ItemsAreWritable, EntriesAreWritable, RowsAreWritable, FieldsAreWritable}
use Rattle.bser_format.specs.Compact.{keys, values, as_template, fold_templates, fold_items, fold_entries}
use Rattle.bser_format.specs.ValueTree.{IsValueTree, ItemsAreValueTrees, EntriesAreValueTrees}
use Rattle.bser_format.proofs.Fits.{writable}
use Rattle.bser_format.proofs.TemplateRows.{AreRows, as_template_cases, rows_even, rows_length, keys_length}
use Rattle.bser_format.proofs.Lengths.{head_size, key_long, length-item, length-entry, length-row, length-array, length-template, object_row, items_few, entries_few, values_few}

-- ---- an array of items that can be written

keys_writable : (es : Entries) → EntriesAreWritable es → AllByRecursion IsUtf8 (keys es) → AllByRecursion IsWritableText (keys es)
keys_writable no_entries h u = tt
keys_writable (entry k t es) h u = ((u.0, h.0), keys_writable es h.2 u.1)

values_writable : (es : Entries) → EntriesAreWritable es → FieldsAreWritable (values es)
values_writable no_entries h = tt
values_writable (entry k t es) h = (h.1, values_writable es h.2)

rows_writable : (ks : List (List ℕ)) (ts : Items) (rs : Rows) → AreRows ks ts rs → ItemsAreWritable ts → RowsAreWritable rs
rows_writable ks no_items no_rows made h = tt
rows_writable ks (item (object es) ts) (row fs rs) made h = (subst FieldsAreWritable made.1 (values_writable es h.0.1), rows_writable ks ts rs made.2 h.1)
rows_writable ks no_items (row fs rs) made h = absurd made
rows_writable ks (item t ts) rs made h = absurd made

abbrev object_keys : Tree → List (List ℕ)
object_keys (object es) = keys es
object_keys _ = []

abbrev first_keys : Items → List (List ℕ)
first_keys no_items = []
first_keys (item t ts) = object_keys t

template_keys : (ks : List (List ℕ)) (ts : Items) (rs : Rows) → AreRows ks ts rs → 1 ≤ length (items ts) → ItemsAreWritable ts → AllByRecursion IsUtf8 (first_keys ts) → IsCount (length ks) × AllByRecursion IsWritableText ks
template_keys ks no_items rs made some h u = absurd (omega arith)
template_keys ks (item (object es) ts) (row fs rs) made some h u = (
  subst (λ l. IsCount (length l)) made.0 (subst IsCount (keys_length es) h.0.0),
  subst (AllByRecursion IsWritableText) made.0 (keys_writable es h.0.1 u),
)
template_keys ks (item t ts) rs made some h u = absurd made

template_writable : (ts : Items) → IsCount (length (items ts)) → ItemsAreWritable ts → AllByRecursion IsUtf8 (first_keys ts) → IsWritable (as_template ts)
template_writable ts few h u = as_template_cases IsWritable ts (few, h) λ k ks rs two made.
    let named = template_keys (k ∷ ks) ts rs made (omega arith) h u in (
      rows_even (k ∷ ks) ts rs made,
      named.0,
      named.1,
      subst IsCount (sym (rows_length (k ∷ ks) ts rs made)) few,
      rows_writable (k ∷ ks) ts rs made h,
    )

-- ---- the keys stay

no_object : (ts : Items) → object_keys (as_template ts) ≡ []
no_object ts = as_template_cases (λ u. object_keys u ≡ []) ts refl λ k ks rs two made. refl

pub folded_keys : (es : Entries) → keys (fold_entries es) ≡ keys es
folded_keys no_entries = refl
folded_keys (entry k t es) = ap (λ ks. k ∷ ks) (folded_keys es)

object_keys_stay : (t : Tree) → object_keys (fold_templates t) ≡ object_keys t
object_keys_stay null = refl
object_keys_stay (array ts) = no_object (fold_items ts)
object_keys_stay (object es) = folded_keys es
object_keys_stay other = refl

entries_texts : (es : Entries) → EntriesAreValueTrees es → AllByRecursion IsUtf8 (keys es)
entries_texts no_entries h = tt
entries_texts (entry k t es) h = (h.0, entries_texts es h.2)

object_texts : (t : Tree) → IsValueTree t → AllByRecursion IsUtf8 (object_keys t)
object_texts (object es) h = entries_texts es h.1
object_texts t h = tt

first_texts : (ts : Items) → ItemsAreValueTrees ts → AllByRecursion IsUtf8 (first_keys (fold_items ts))
first_texts no_items h = tt
first_texts (item t ts) h = subst (AllByRecursion IsUtf8) (sym (object_keys_stay t)) (object_texts t h.0)

-- ---- the compact tree of a tree that can be written

pub items_stay : (ts : Items) → length (items (fold_items ts)) ≡ length (items ts)
items_stay no_items = refl
items_stay (item t ts) = ap suc (items_stay ts)

pub entries_stay : (es : Entries) → length (entries (fold_entries es)) ≡ length (entries es)
entries_stay no_entries = refl
entries_stay (entry k t es) = ap suc (entries_stay es)

mutual
  pub folded_writable : (t : Tree) → IsValueTree t → IsWritable t → IsWritable (fold_templates t)
  folded_writable null h w = w
  folded_writable (array ts) h w = template_writable (fold_items ts) (subst IsCount (sym (items_stay ts)) w.0) (folded_items_writable ts h w.1) (first_texts ts h)
  folded_writable (object es) h w = (subst IsCount (sym (entries_stay es)) w.0, folded_entries_writable es h.1 w.1)
  folded_writable (template ks rs) h w = absurd h
  folded_writable other h w = w

  folded_items_writable : (ts : Items) → ItemsAreValueTrees ts → ItemsAreWritable ts → ItemsAreWritable (fold_items ts)
  folded_items_writable no_items h w = tt
  folded_items_writable (item t ts) h w = (folded_writable t h.0 w.0, folded_items_writable ts h.1 w.1)

  folded_entries_writable : (es : Entries) → EntriesAreValueTrees es → EntriesAreWritable es → EntriesAreWritable (fold_entries es)
  folded_entries_writable no_entries h w = tt
  folded_entries_writable (entry k t es) h w = (w.0, folded_writable t h.1 w.1, folded_entries_writable es h.2 w.2)

-- ---- a compact tree whose body fits

-- the body of each item is at most i64::MAX bytes
abbrev EachFits : Items → Type 0
EachFits no_items = Unit {0}
EachFits (item t ts) = (length (canonical_body t) < 2 ^ 63) × EachFits ts

items_fit : (ts : Items) → length (canonical_items ts) < 2 ^ 63 → EachFits ts
items_fit no_items l = tt
items_fit (item t ts) l = (omega (arith, length-item t ts), items_fit ts (omega (arith, length-item t ts)))

-- each object is shorter than the template
rows_fit : (ks : List (List ℕ)) (ts : Items) (rs : Rows) → AreRows ks ts rs → head_size ks + length (canonical_rows rs) < 2 ^ 63 → EachFits ts
rows_fit ks no_items no_rows made l = tt
rows_fit ks (item (object es) ts) (row fs rs) made l = (
  omega (arith, object_row ks es fs made.0 made.1, length-row fs rs),
  rows_fit ks ts rs made.2 (omega (arith, length-row fs rs)),
)
rows_fit ks no_items (row fs rs) made l = absurd made
rows_fit ks (item t ts) rs made l = absurd made

rows_few : (k : List ℕ) (ks : List (List ℕ)) (ts : Items) (rs : Rows) → AreRows (k ∷ ks) ts rs → length (items ts) ≤ length (canonical_rows rs)
rows_few k ks no_items no_rows made = omega arith
rows_few k ks (item (object es) ts) (row fs rs) made =
    let some : 1 ≤ length (canonical_fields fs) = subst (λ f. 1 ≤ length (canonical_fields f)) made.1 (omega (arith, values_few es, ap length made.0)) in
    omega (arith, length-row fs rs, rows_few k ks ts rs made.2)
rows_few k ks no_items (row fs rs) made = absurd made
rows_few k ks (item t ts) rs made = absurd made

parts_fit : (ts : Items) → length (canonical_body (as_template ts)) < 2 ^ 63 → IsCount (length (items ts)) × EachFits ts
parts_fit ts = as_template_cases (λ u. length (canonical_body u) < 2 ^ 63 → IsCount (length (items ts)) × EachFits ts) ts
    (λ l.
    let few : length (items ts) < 2 ^ 63 = omega (arith, length-array ts, items_few ts) in
    (few, items_fit ts (omega (arith, length-array ts))))
    (λ k ks rs two made l.
    let few : length (items ts) < 2 ^ 63 = omega (arith, length-template (k ∷ ks) rs, rows_few k ks ts rs made) in
    (few, rows_fit (k ∷ ks) ts rs made (omega (arith, length-template (k ∷ ks) rs))))

mutual
  pub short_writable : (t : Tree) → IsValueTree t → length (canonical_body (fold_templates t)) < 2 ^ 63 → IsWritable (fold_templates t)
  short_writable null h l = tt
  short_writable (boolean v) h l = tt
  short_writable (integer v) h l = h
  short_writable (real r) h l = h
  short_writable (bytes s) h l = writable (bytes s) h l
  short_writable (text s) h l = writable (text s) h l
  short_writable (array ts) h l =
      let parts = parts_fit (fold_items ts) l in
      template_writable (fold_items ts) parts.0 (short_items_writable ts h parts.1) (first_texts ts h)
  short_writable (object es) h l =
      let whole = length-append (least_count (length (entries (fold_entries es)))) (canonical_entries (fold_entries es)) in
      let few : length (entries (fold_entries es)) < 2 ^ 63 = omega (arith, whole, entries_few (fold_entries es)) in
      (few, short_entries_writable es h.1 (omega (arith, whole)))
  short_writable (template ks rs) h l = absurd h

  short_items_writable : (ts : Items) → ItemsAreValueTrees ts → EachFits (fold_items ts) → ItemsAreWritable (fold_items ts)
  short_items_writable no_items h l = tt
  short_items_writable (item t ts) h l = (short_writable t h.0 l.0, short_items_writable ts h.1 l.1)

  short_entries_writable : (es : Entries) → EntriesAreValueTrees es → length (canonical_entries (fold_entries es)) < 2 ^ 63 → EntriesAreWritable (fold_entries es)
  short_entries_writable no_entries h l = tt
  short_entries_writable (entry k t es) h l =
      let whole = length-entry k (fold_templates t) (fold_entries es) in
      let name : length k < 2 ^ 63 = omega (arith, whole, key_long k) in
      (name, short_writable t h.1 (omega (arith, whole)), short_entries_writable es h.2 (omega (arith, whole)))
