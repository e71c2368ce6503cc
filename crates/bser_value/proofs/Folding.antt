-- Which arrays are written as templates.
use Rattle.std.proofs.Common.{◌≡◌, ℕ, ◌≤◌, ◌<◌, ◌+◌, Bool, true, false, List, [], ◌∷◌, length, drop, get_or, BTreeMap, String, Option, Some, None, option_map, refl, sym, ap, ◌∙◌, arith}
use Rattle.std.specs.Prelude.{unwrap_or, is_some, ◌&&◌, if◌then◌else◌}
use Rattle.std.proofs.lemmas.List.{drop_all}
use Rattle.std.specs.declared.alloc.Global.{Global}
use Rattle.bser_format.specs.Tree.{Tree, null, boolean, integer, real, bytes, text, array, object, template, Items, no_items, item, Entries, no_entries, entry, Rows, row, items}
use Rattle.bser_format.specs.Compact.{keys, values, same_keys, rows_with, as_template, fold_templates, fold_items, fold_entries}
use Rattle.bser_source.proofs.Lists.{item_here}
use Rattle.bser_format.proofs.TemplateRows.{as_template_cases, same_keys_itself, keys_length}
use Rattle.bser_format.proofs.FoldedFits.{items_stay, folded_keys}
use Rattle.bser_value.specs.declared.value.Value.{Value, Object}
use Rattle.bser_value.specs.ValueView.{tree_of, items_view, entries_view}
use Rattle.bser_value.proofs.Views.{length-items, length-entries}
use Rattle.bser_value.specs.CompactTexts.{compact_tree, names_of, tree_has_keys, has_keys, template_keys, template_names}
use Rattle.bser_value.proofs.CompactPieces.{compact-Object}

-- ---- objects of the same keys

abbrev pub all_have : List (List ℕ) → List Value → Bool
all_have ks [] = true
all_have ks (v ∷ vs) = has_keys ks v && all_have ks vs

folded_has : (ks : List (List ℕ)) (t : Tree) → tree_has_keys ks (fold_templates t) ≡ tree_has_keys ks t
folded_has ks null = refl
folded_has ks (boolean v) = refl
folded_has ks (integer v) = refl
folded_has ks (real r) = refl
folded_has ks (bytes s) = refl
folded_has ks (text s) = refl
folded_has ks (array ts) = as_template_cases (λ u. tree_has_keys ks u ≡ false) (fold_items ts) refl (λ k ls rs two made. refl)
folded_has ks (object es) = ap (λ l. same_keys l ks) (folded_keys es)
folded_has ks (template ls rs) = refl

guarded : {A B : Type 0} (c : Bool) (f : A → B) (o : Option A) → is_some (if c then option_map f o else None) ≡ (c && is_some o)
guarded true f None = refl
guarded true f (Some x) = refl
guarded false f o = refl

one_row : (ks : List (List ℕ)) (t : Tree) (ts : Items) → is_some (rows_with ks (item t ts)) ≡ (tree_has_keys ks t && is_some (rows_with ks ts))
one_row ks (object es) ts = guarded (same_keys (keys es) ks) (row (values es)) (rows_with ks ts)
one_row ks t ts = refl

all_rows : (ks : List (List ℕ)) (vs : List Value) → is_some (rows_with ks (fold_items (items_view vs))) ≡ all_have ks vs
all_rows ks [] = refl
all_rows ks (v ∷ vs) =
    one_row ks (compact_tree v) (fold_items (items_view vs))
    ∙ ap (λ c. c && is_some (rows_with ks (fold_items (items_view vs)))) (folded_has ks (tree_of v))
    ∙ ap (λ c. has_keys ks v && c) (all_rows ks vs)

-- ---- the first item and the others

keys_made : (ks : List (List ℕ)) (ts : Items) (o : Option Rows) → template_keys (unwrap_or (option_map (template ks) o) (array ts)) ≡ (if is_some o then Some ks else None)
keys_made ks ts None = refl
keys_made ks ts (Some rs) = refl

first_and_rest : (es : Entries) (ts : Items) → 1 ≤ length (keys es) → 1 ≤ length (items ts) → template_keys (as_template (item (object es) ts)) ≡ (if is_some (rows_with (keys es) ts) then Some (keys es) else None)
first_and_rest no_entries ts some more = absurd (omega arith)
first_and_rest (entry k t es) no_items some more = absurd (omega arith)
first_and_rest (entry k t es) (item u us) some more =
    let ks : List (List ℕ) = k ∷ keys es in
    let ts : Items = item (object (entry k t es)) (item u us) in
    keys_made ks ts (rows_with ks ts)
    ∙ ap (λ c. if c then Some ks else None) (one_row ks (object (entry k t es)) (item u us) ∙ ap (λ c. c && is_some (rows_with ks (item u us))) (same_keys_itself ks))

-- an object that has keys, and others of which b says whether they have its keys
objects_keys : (es : Entries) (vs : List Value) (b : Bool) → 1 ≤ length (keys es) → 1 ≤ length vs → all_have (keys es) vs ≡ b
    → template_keys (as_template (item (object (fold_entries es)) (fold_items (items_view vs)))) ≡ (if b then Some (keys es) else None)
objects_keys es vs b some more h =
    let same = folded_keys es in
    let long : 1 ≤ length (keys (fold_entries es)) = omega (arith, ap length same) in
    let others : 1 ≤ length (items (fold_items (items_view vs))) = omega (arith, items_stay (items_view vs), length-items vs) in
    first_and_rest (fold_entries es) (fold_items (items_view vs)) long others
    ∙ ap (λ l. if is_some (rows_with l (fold_items (items_view vs))) then Some l else None) same
    ∙ ap (λ c. if c then Some (keys es) else None) (all_rows (keys es) vs ∙ h)

pub shared : (vs rest : List Value) (v : Value) (m : BTreeMap (String Global) Value) (b : Bool) → vs ≡ v ∷ rest → v ≡ Object m → 1 ≤ length m.entries → 1 ≤ length rest
    → all_have (names_of m.entries) rest ≡ b → template_names vs ≡ (if b then Some (names_of m.entries) else None)
shared vs rest v m b split is some more h =
    let es : Entries = entries_view m.entries in
    let named : 1 ≤ length (keys es) = omega (arith, length-entries m.entries, keys_length es) in
    ap template_names split
    ∙ ap (λ t. template_keys (as_template (item t (fold_items (items_view rest))))) (ap compact_tree is ∙ compact-Object m)
    ∙ objects_keys es rest b named more h

-- ---- arrays that are no templates

pub one_lacks : (ks : List (List ℕ)) (vs : List Value) (i : ℕ) (v : Value) → i < length vs → v ≡ get_or vs i v → has_keys ks v ≡ false → all_have ks (drop i vs) ≡ all_have ks vs → all_have ks vs ≡ false
one_lacks ks vs i v within is lacks same = sym same ∙ ap (all_have ks) (item_here vs i v within is) ∙ ap (λ c. c && all_have ks (drop (i + 1) vs)) lacks

pub none_lacks : (ks : List (List ℕ)) (vs : List Value) (i : ℕ) → length vs ≤ i → all_have ks (drop i vs) ≡ all_have ks vs → all_have ks vs ≡ true
none_lacks ks vs i past same = sym same ∙ ap (all_have ks) (drop_all i vs past)
