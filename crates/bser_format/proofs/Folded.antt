-- A compact tree stands for what the tree stands for, and is no deeper.
use Rattle.std.proofs.Common.{◌≡◌, ℕ, suc, max, ◌≤◌, List, ◌∷◌, length, Some, refl, ap, subst, ◌∙◌, arith}
use Rattle.bser_format.specs.Tree.{Tree, null, boolean, integer, real, bytes, text, array, object, template, Items, no_items, item, Entries, no_entries, entry, Rows, no_rows, row, items}
use Rattle.bser_format.specs.Expand.{expand, expand_items, expand_entries, expand_rows, expand_fields}
use Rattle.bser_format.specs.Normal.{normal}
use Rattle.bser_format.specs.Measures.{depth, items_depth, entries_depth, rows_depth, fields_depth}
use Rattle.bser_format.specs.Compact.{keys, values, as_template, fold_templates, fold_items, fold_entries}
use Rattle.bser_format.specs.ValueTree.{IsValueTree}
use Rattle.bser_format.proofs.Fits.{value_reads_as_itself}
use Rattle.bser_format.proofs.TemplateRows.{AreRows, as_template_cases}

-- ---- what it stands for

row_stands : (es : Entries) → expand_fields (keys es) (values es) ≡ expand_entries es
row_stands no_entries = refl
row_stands (entry k t es) = ap (entry k (expand t)) (row_stands es)

rows_stand : (ks : List (List ℕ)) (ts : Items) (rs : Rows) → AreRows ks ts rs → expand_rows ks rs ≡ expand_items ts
rows_stand ks no_items no_rows h = refl
rows_stand ks (item (object es) ts) (row fs rs) h =
    let one : expand_fields ks fs ≡ expand_entries es = subst (λ f. expand_fields ks f ≡ expand_entries es) h.1 (subst (λ l. expand_fields l (values es) ≡ expand_entries es) h.0 (row_stands es)) in
    let more = rows_stand ks ts rs h.2 in
    rw (one, more) refl
rows_stand ks no_items (row fs rs) h = absurd h
rows_stand ks (item t ts) rs h = absurd h

template_stands : (ts : Items) → expand (as_template ts) ≡ array (expand_items ts)
template_stands ts = as_template_cases (λ u. expand u ≡ array (expand_items ts)) ts refl λ k ks rs two made. ap array (rows_stand (k ∷ ks) ts rs made)

mutual
  pub folded_stands : (t : Tree) → expand (fold_templates t) ≡ expand t
  folded_stands null = refl
  folded_stands (array ts) = template_stands (fold_items ts) ∙ ap array (folded_items_stand ts)
  folded_stands (object es) = ap object (folded_entries_stand es)
  folded_stands other = refl

  folded_items_stand : (ts : Items) → expand_items (fold_items ts) ≡ expand_items ts
  folded_items_stand no_items = refl
  folded_items_stand (item t ts) = let one = folded_stands t in let more = folded_items_stand ts in rw (one, more) refl

  folded_entries_stand : (es : Entries) → expand_entries (fold_entries es) ≡ expand_entries es
  folded_entries_stand no_entries = refl
  folded_entries_stand (entry k t es) = let one = folded_stands t in let more = folded_entries_stand es in rw (one, more) refl

pub folded_reads : (t : Tree) → IsValueTree t → normal (expand (fold_templates t)) ≡ Some t
folded_reads t h = ap normal (folded_stands t) ∙ value_reads_as_itself t h

-- ---- how deep it is

row_depth : (es : Entries) → fields_depth (values es) ≡ entries_depth es
row_depth no_entries = refl
row_depth (entry k t es) = ap (max (depth t)) (row_depth es)

rows_no_deeper : (ks : List (List ℕ)) (ts : Items) (rs : Rows) → AreRows ks ts rs → rows_depth rs ≤ items_depth ts
rows_no_deeper ks no_items no_rows h = omega arith
rows_no_deeper ks (item (object es) ts) (row fs rs) h = omega (arith, ap fields_depth h.1, row_depth es, rows_no_deeper ks ts rs h.2)
rows_no_deeper ks no_items (row fs rs) h = absurd h
rows_no_deeper ks (item t ts) rs h = absurd h

-- an object takes a level
objects_deep : (ks : List (List ℕ)) (ts : Items) (rs : Rows) → AreRows ks ts rs → 1 ≤ length (items ts) → 1 ≤ items_depth ts
objects_deep ks no_items rs h some = absurd (omega arith)
objects_deep ks (item (object es) ts) rs h some = omega arith
objects_deep ks (item t ts) rs h some = absurd h

template_depth : (ts : Items) → depth (as_template ts) ≤ suc (items_depth ts)
template_depth ts = as_template_cases (λ u. depth u ≤ suc (items_depth ts)) ts (omega arith) λ k ks rs two made.
    let one : 1 ≤ items_depth ts = objects_deep (k ∷ ks) ts rs made (omega arith) in
    omega (arith, rows_no_deeper (k ∷ ks) ts rs made)

mutual
  pub folded_depth : (t : Tree) → depth (fold_templates t) ≤ depth t
  folded_depth null = omega arith
  folded_depth (array ts) = omega (arith, template_depth (fold_items ts), folded_items_depth ts)
  folded_depth (object es) = omega (arith, folded_entries_depth es)
  folded_depth other = omega arith

  folded_items_depth : (ts : Items) → items_depth (fold_items ts) ≤ items_depth ts
  folded_items_depth no_items = omega arith
  folded_items_depth (item t ts) = omega (arith, folded_depth t, folded_items_depth ts)

  folded_entries_depth : (es : Entries) → entries_depth (fold_entries es) ≤ entries_depth es
  folded_entries_depth no_entries = omega arith
  folded_entries_depth (entry k t es) = omega (arith, folded_depth t, folded_entries_depth es)
