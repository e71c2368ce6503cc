-- A value can be written in the compact form, where its parts can.
use Rattle.std.proofs.Common.{◌≡◌, ◌<◌, ◌^◌, List, [], ◌∷◌, length, ℕ, Vec, Some, sym, subst, ap, ◌∙◌}
use Rattle.std.specs.List.{AllByRecursion}
use Rattle.std.specs.declared.alloc.Global.{Global}
use Rattle.std.proofs.lemmas.Option.{same_Some}
use Rattle.bser_format.specs.Tree.{object, Items, no_items, item, Rows, no_rows, row, items}
use Rattle.bser_format.specs.Canonical.{IsCount, IsWritableText, IsWritable, RowsAreWritable, FieldsAreWritable}
use Rattle.bser_format.specs.Compact.{as_template, fold_items, fold_templates}
use Rattle.bser_format.proofs.TemplateRows.{AreRows, as_template_cases, rows_even, rows_length, keys_length}
use Rattle.bser_format.proofs.FoldedFits.{items_stay}
use Rattle.bser_value.specs.declared.value.Value.{Value, Array}
use Rattle.bser_value.specs.ValueView.{items_view, entries_view}
use Rattle.bser_value.proofs.Views.{Entry, tree_of-Array, length-items, length-entries}
use Rattle.bser_value.specs.CompactTexts.{compact_tree, names_of, row_values, RowIsWritable, template_keys, template_names}

pub names_few : (es : List Entry) → length es < 2 ^ 63 → length (names_of es) < 2 ^ 63
names_few es few = subst IsCount (sym (length-entries es) ∙ keys_length (entries_view es)) few

-- each value of each item that is an object can be written
abbrev EachRow : Items → Type 0
EachRow no_items = Unit {0}
EachRow (item t ts) = FieldsAreWritable (row_values t) × EachRow ts

rows_writable : (ks : List (List ℕ)) (ts : Items) (rs : Rows) → AreRows ks ts rs → EachRow ts → RowsAreWritable rs
rows_writable ks no_items no_rows made h = tt
rows_writable ks (item (object es) ts) (row fs rs) made h = (subst FieldsAreWritable made.1 h.0, rows_writable ks ts rs made.2 h.1)
rows_writable ks no_items (row fs rs) made h = absurd made
rows_writable ks (item t ts) rs made h = absurd made

template_writable : (ts : Items) (ls : List (List ℕ)) → IsCount (length (items ts)) → IsCount (length ls) → AllByRecursion IsWritableText ls → EachRow ts → template_keys (as_template ts) ≡ Some ls → IsWritable (as_template ts)
template_writable ts ls few named texts h = as_template_cases (λ u. template_keys u ≡ Some ls → IsWritable u) ts (λ e. absurd cc) λ k ks rs two made e.
    let same : k ∷ ks ≡ ls = same_Some (k ∷ ks) ls e in (
      rows_even (k ∷ ks) ts rs made,
      subst (λ l. IsCount (length l)) (sym same) named,
      subst (AllByRecursion IsWritableText) (sym same) texts,
      subst IsCount (sym (rows_length (k ∷ ks) ts rs made)) few,
      rows_writable (k ∷ ks) ts rs made h,
    )

each_row : (vs : List Value) → AllByRecursion RowIsWritable vs → EachRow (fold_items (items_view vs))
each_row [] h = tt
each_row (v ∷ vs) h = (h.0, each_row vs h.1)

-- an array of which the items are a template's rows
pub Template-writable : (v : Vec Value Global) (seen : List Value) (ks : List (List ℕ)) → seen ≡ v.items → Some ks ≡ template_names seen → length v.items < 2 ^ 63 → length ks < 2 ^ 63 → AllByRecursion IsWritableText ks
    → AllByRecursion RowIsWritable v.items → IsWritable (compact_tree (Array v))
Template-writable v seen ks same h few named texts rows =
    let ts : Items = fold_items (items_view v.items) in
    let count = sym (items_stay (items_view v.items) ∙ length-items v.items) in
    subst IsWritable (sym (ap fold_templates (tree_of-Array v)))
    (template_writable ts ks (subst IsCount count few) named texts (each_row v.items rows) (ap template_names (sym same) ∙ sym h))
