-- A template is no longer than its objects as an array.
use Rattle.std.proofs.Common.{◌≡◌, ℕ, ◌+◌, ◌≤◌, List, ◌∷◌, length, Some, sym, ap, subst, arith}
use Rattle.std.specs.Prelude.{unwrap_or, option_map}
use Rattle.bser_format.specs.Tree.{Tree, null, boolean, integer, real, bytes, text, array, object, template, Items, no_items, item, Entries, no_entries, entry, Rows, no_rows, row, items, rows}
use Rattle.bser_format.specs.Canonical.{least_count, canonical_body, canonical_items, canonical_entries, canonical_rows}
use Rattle.bser_format.specs.Compact.{keys, rows_with, as_template, fold_templates, fold_items, fold_entries}
use Rattle.bser_format.proofs.TemplateRows.{AreRows, as_template_cases, rows_taken, rows_length}
use Rattle.bser_format.proofs.Lengths.{head_size, length-item, length-entry, length-row, length-array, length-pairs, length-template, object_row}
use Rattle.bser_format.proofs.FoldedFits.{items_stay, entries_stay}

rows_sum : (ks : List (List ℕ)) (ts : Items) (rs : Rows) → AreRows ks ts rs → length (canonical_rows rs) ≤ length (canonical_items ts)
rows_sum ks no_items no_rows made = omega arith
rows_sum ks (item (object es) ts) (row fs rs) made = omega (arith, length-item (object es) ts, length-row fs rs, object_row ks es fs made.0 made.1, rows_sum ks ts rs made.2)
rows_sum ks no_items (row fs rs) made = absurd made
rows_sum ks (item t ts) rs made = absurd made

two_heads : (ks : List (List ℕ)) (ts : Items) (rs : Rows) → AreRows ks ts rs → 2 ≤ length (items ts) → head_size ks + head_size ks + length (canonical_rows rs) ≤ length (canonical_items ts)
two_heads ks (item (object es) (item (object ds) ts)) (row fs (row gs rs)) made two =
    omega (
      arith,
      length-item (object es) (item (object ds) ts),
      length-item (object ds) ts,
      length-row fs (row gs rs),
      length-row gs rs,
      object_row ks es fs made.0 made.1,
      object_row ks ds gs made.2.0 made.2.1,
      rows_sum ks ts rs made.2.2,
    )
two_heads ks no_items rs made two = absurd (omega arith)
two_heads ks (item t no_items) rs made two = absurd (omega arith)
two_heads ks (item (object es) (item t ts)) (row fs rs) made two = absurd made.2
two_heads ks (item t (item u ts)) rs made two = absurd made

pub template_shorter : (ts : Items) → length (canonical_body (as_template ts)) ≤ length (canonical_body (array ts))
template_shorter ts = as_template_cases (λ u. length (canonical_body u) ≤ length (canonical_body (array ts))) ts (omega arith) λ k ks rs two made.
    omega (
      arith,
      length-template (k ∷ ks) rs,
      length-array ts,
      ap (λ n. length (least_count n)) (rows_length (k ∷ ks) ts rs made),
      two_heads (k ∷ ks) ts rs made two,
    )

-- objects of these keys are no longer than the template of their rows, though they be fewer than two
pub rows_bound : (ks : List (List ℕ)) (ts : Items) (rs : Rows) → 1 ≤ length ks → AreRows ks ts rs → length (canonical_body (as_template ts)) ≤ 1 + head_size ks + length (least_count (length (rows rs))) + length (canonical_rows rs)
rows_bound ks no_items no_rows some made = omega (arith, length-array no_items)
rows_bound ks (item (object no_entries) ts) (row fs rs) some made = absurd (omega (arith, ap length made.0))
rows_bound ks (item (object (entry k t es)) no_items) (row fs no_rows) some made =
    omega (
      arith,
      length-array (item (object (entry k t es)) no_items),
      length-item (object (entry k t es)) no_items,
      length-row fs no_rows,
      object_row ks (entry k t es) fs made.0 made.1,
    )
rows_bound ks (item (object (entry k t es)) (item u us)) (row fs rs) some made =
    let ls : List (List ℕ) = k ∷ keys es in
    let ts : Items = item (object (entry k t es)) (item u us) in
    let taken : rows_with ls ts ≡ Some (row fs rs) = subst (λ l. rows_with l ts ≡ Some (row fs rs)) (sym made.0) (rows_taken ks ts (row fs rs) made) in
    let whole : as_template ts ≡ template ls (row fs rs) = ap (λ o. unwrap_or (option_map (template ls) o) (array ts)) taken in
    omega (arith, ap (λ v. length (canonical_body v)) whole, length-template ls (row fs rs), ap head_size made.0)
rows_bound ks (item (object (entry k t es)) no_items) (row fs (row gs rs)) some made = absurd made.2
rows_bound ks no_items (row fs rs) some made = absurd made
rows_bound ks (item t ts) rs some made = absurd made

-- ---- a compact tree is no longer than the tree

mutual
  pub folded_shorter : (t : Tree) → length (canonical_body (fold_templates t)) ≤ length (canonical_body t)
  folded_shorter null = omega arith
  folded_shorter (array ts) =
      omega (arith, template_shorter (fold_items ts), length-array (fold_items ts), length-array ts, ap (λ n. length (least_count n)) (items_stay ts), folded_items_shorter ts)
  folded_shorter (object es) =
      omega (arith, length-pairs (fold_entries es), length-pairs es, ap (λ n. length (least_count n)) (entries_stay es), folded_entries_shorter es)
  folded_shorter other = omega arith

  folded_items_shorter : (ts : Items) → length (canonical_items (fold_items ts)) ≤ length (canonical_items ts)
  folded_items_shorter no_items = omega arith
  folded_items_shorter (item t ts) = omega (arith, length-item (fold_templates t) (fold_items ts), length-item t ts, folded_shorter t, folded_items_shorter ts)

  folded_entries_shorter : (es : Entries) → length (canonical_entries (fold_entries es)) ≤ length (canonical_entries es)
  folded_entries_shorter no_entries = omega arith
  folded_entries_shorter (entry k t es) = omega (arith, length-entry k (fold_templates t) (fold_entries es), length-entry k t es, folded_shorter t, folded_entries_shorter es)
