-- The texts of a value's parts in the compact form, piece by piece.
use Rattle.std.proofs.Common.{◌≡◌, ℕ, List, [], ◌∷◌, ◌++◌, length, flat_map, Vec, BTreeMap, String, Some, string_bytes, refl, sym, ap, ◌∙◌, append_assoc, append-nil}
use Rattle.std.proofs.lemmas.Option.{same_Some}
use Rattle.std.specs.declared.alloc.Global.{Global}
use Rattle.bser_format.specs.Tree.{array, object, Items, no_items, item, Rows, no_rows, row, items, rows}
use Rattle.bser_format.specs.Canonical.{least_count, canonical_text, canonical_key, canonical_body, canonical_items, canonical_entries, canonical_rows, canonical_fields}
use Rattle.bser_format.specs.Compact.{values, as_template, fold_templates, fold_items, fold_entries}
use Rattle.bser_format.specs.Pieces.{array_head, object_head, template_tag}
use Rattle.bser_format.proofs.TemplateRows.{AreRows, as_template_cases, rows_length, keys_length}
use Rattle.bser_format.proofs.FoldedFits.{items_stay, entries_stay}
use Rattle.bser_value.specs.declared.value.Value.{Value, Array, Object}
use Rattle.bser_value.specs.ValueView.{items_view, entries_view}
use Rattle.bser_value.proofs.Views.{Entry, tree_of-Array, length-items, length-entries, tree_of-Object}
use Rattle.bser_value.specs.CompactTexts.{compact_tree, value_text, items_text, entries_text, names_of, template_keys, template_names, template_head, head_text, row_of, row_text, rows_text}

pub compact-Object : (m : BTreeMap (String Global) Value) → compact_tree (Object m) ≡ object (fold_entries (entries_view m.entries))
compact-Object m = ap fold_templates (tree_of-Object m)

-- ---- an array that is no template

-- ---- a template

-- the rows of the items, as they are
abbrev rows_of_items : Items → List ℕ
rows_of_items no_items = []
rows_of_items (item t ts) = row_of t ++ rows_of_items ts

rows_same : (ks : List (List ℕ)) (ts : Items) (rs : Rows) → AreRows ks ts rs → canonical_rows rs ≡ rows_of_items ts
rows_same ks no_items no_rows made = refl
rows_same ks (item (object es) ts) (row fs rs) made =
    let one : canonical_fields fs ≡ canonical_fields (values es) = sym (ap canonical_fields made.1) in
    let more = rows_same ks ts rs made.2 in
    rw (one, more) refl
rows_same ks no_items (row fs rs) made = absurd made
rows_same ks (item t ts) rs made = absurd made

folded_rows : (vs : List Value) → rows_of_items (fold_items (items_view vs)) ≡ rows_text vs
folded_rows [] = refl
folded_rows (v ∷ vs) = ap (λ b. row_text v ++ b) (folded_rows vs)

head_then : (ks : List (List ℕ)) (n : ℕ) (b : List ℕ) → 0x0b ∷ 0x00 ∷ (least_count (length ks) ++ (flat_map canonical_text ks ++ (least_count n ++ b))) ≡ template_head ks n ++ b
head_then ks n b = ap (λ l. 0x0b ∷ 0x00 ∷ l)
    (ap (λ l. least_count (length ks) ++ l) (sym (append_assoc (flat_map canonical_text ks) (least_count n) b)) ∙ sym (append_assoc (least_count (length ks)) (flat_map canonical_text ks ++ least_count n) b))

template_body : (ts : Items) (ls : List (List ℕ)) → template_keys (as_template ts) ≡ Some ls → canonical_body (as_template ts) ≡ template_head ls (length (items ts)) ++ rows_of_items ts
template_body ts ls = as_template_cases (λ u. template_keys u ≡ Some ls → canonical_body u ≡ template_head ls (length (items ts)) ++ rows_of_items ts) ts (λ e. cc)
    (λ k ks rs two made e.
    let same : k ∷ ks ≡ ls = same_Some (k ∷ ks) ls e in
    let counted = rows_length (k ∷ ks) ts rs made in
    let written = rows_same (k ∷ ks) ts rs made in
    head_then (k ∷ ks) (length (rows rs)) (canonical_rows rs)
    ∙ ap (λ l. template_head l (length (rows rs)) ++ canonical_rows rs) same
    ∙ ap (λ n. template_head ls n ++ canonical_rows rs) counted
    ∙ ap (λ b. template_head ls (length (items ts)) ++ b) written)

pub compact-Template : (v : Vec Value Global) (seen : List Value) (ks : List (List ℕ)) (count : ℕ) → seen ≡ v.items → Some ks ≡ template_names seen → count ≡ length v.items → value_text (Array v) ≡ template_head ks count ++ rows_text v.items
compact-Template v seen ks count same h counted =
    let ts : Items = fold_items (items_view v.items) in
    let named : template_names v.items ≡ Some ks = ap template_names (sym same) ∙ sym h in
    ap (λ t. canonical_body (fold_templates t)) (tree_of-Array v)
    ∙ template_body ts ks named
    ∙ ap (λ n. template_head ks n ++ rows_of_items ts) (items_stay (items_view v.items) ∙ length-items v.items ∙ sym counted)
    ∙ ap (λ b. template_head ks count ++ b) (folded_rows v.items)

-- ---- a template's head

pub head_pieces : (es : List Entry) (n count : ℕ) → count ≡ length es → head_text es n ≡ template_tag ++ (array_head count ++ (flat_map canonical_text (names_of es) ++ least_count n))
head_pieces es n count e = ap (λ k. template_tag ++ (array_head k ++ (flat_map canonical_text (names_of es) ++ least_count n))) (sym (e ∙ sym (length-entries es) ∙ keys_length (entries_view es)))

pub name_piece : (es left : List Entry) (e : Entry) (n : ℕ) → es ≡ e ∷ left → flat_map canonical_text (names_of es) ++ least_count n ≡ canonical_text (string_bytes e.0) ++ (flat_map canonical_text (names_of left) ++ least_count n)
name_piece es left e n step = ap (λ l. flat_map canonical_text (names_of l) ++ least_count n) step ∙ append_assoc (canonical_text (string_bytes e.0)) (flat_map canonical_text (names_of left)) (least_count n)

pub count_piece : (es : List Entry) (n : ℕ) → es ≡ [] → flat_map canonical_text (names_of es) ++ least_count n ≡ least_count n ++ []
count_piece es n none = ap (λ l. flat_map canonical_text (names_of l) ++ least_count n) none ∙ sym (append-nil (least_count n))

-- ---- items, entries and rows

pub array_pieces : (vs : List Value) (count : ℕ) → count ≡ length vs → items_text vs ≡ array_head count ++ canonical_items (fold_items (items_view vs))
array_pieces vs count e = ap (λ n. array_head n ++ canonical_items (fold_items (items_view vs))) (items_stay (items_view vs) ∙ length-items vs ∙ sym e)

pub object_pieces : (es : List Entry) (count : ℕ) → count ≡ length es → entries_text es ≡ object_head count ++ canonical_entries (fold_entries (entries_view es))
object_pieces es count e = ap (λ n. object_head n ++ canonical_entries (fold_entries (entries_view es))) (entries_stay (entries_view es) ∙ length-entries es ∙ sym e)

pub item_piece : (vs left : List Value) (v : Value) → vs ≡ v ∷ left → canonical_items (fold_items (items_view vs)) ≡ value_text v ++ canonical_items (fold_items (items_view left))
item_piece vs left v step = ap (λ l. canonical_items (fold_items (items_view l))) step

pub entry_piece : (es left : List Entry) (e : Entry) → es ≡ e ∷ left
    → canonical_entries (fold_entries (entries_view es)) ≡ (canonical_key (string_bytes e.0) ++ value_text e.1) ++ canonical_entries (fold_entries (entries_view left))
entry_piece es left e step = ap (λ l. canonical_entries (fold_entries (entries_view l))) step

pub field_piece : (es left : List Entry) (e : Entry) → es ≡ e ∷ left → canonical_fields (values (fold_entries (entries_view es))) ≡ value_text e.1 ++ canonical_fields (values (fold_entries (entries_view left)))
field_piece es left e step = ap (λ l. canonical_fields (values (fold_entries (entries_view l)))) step

-- the row of an object is its values, and what is no object has none
pub row_of_object : (m : BTreeMap (String Global) Value) → row_text (Object m) ≡ canonical_fields (values (fold_entries (entries_view m.entries)))
row_of_object m = ap row_of (compact-Object m)
