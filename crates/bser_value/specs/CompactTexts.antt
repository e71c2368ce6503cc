-- What the parts of a value are written as in the compact form.
use Rattle.std.specs.Prelude.{ℕ, Bool, false, List, [], ◌∷◌, ◌++◌, length, flat_map, Option, Some, None, String}
use Rattle.std.specs.declared.alloc.Global.{Global}
use Rattle.bser_format.specs.Tree.{Tree, array, object, template, Fields, no_fields}
use Rattle.bser_format.specs.Canonical.{least_count, canonical_text, canonical_body, canonical_fields, FieldsAreWritable}
use Rattle.bser_format.specs.Compact.{keys, values, same_keys, as_template, fold_templates, fold_items, fold_entries}
use Rattle.bser_format.specs.Pieces.{array_head, template_tag}
use Rattle.bser_value.specs.declared.value.Value.{Value}
use Rattle.bser_value.specs.ValueView.{tree_of, items_view, entries_view}

-- the compact tree of a value
abbrev pub compact_tree : Value → Tree
compact_tree v = fold_templates (tree_of v)

-- ---- values

abbrev pub value_text : Value → List ℕ
value_text v = canonical_body (compact_tree v)

-- an array that is no template
abbrev pub compact_items : List Value → Tree
compact_items vs = array (fold_items (items_view vs))

abbrev pub items_text : List Value → List ℕ
items_text vs = canonical_body (compact_items vs)

-- an object
abbrev pub compact_entries : List (String Global × Value) → Tree
compact_entries es = object (fold_entries (entries_view es))

abbrev pub entries_text : List (String Global × Value) → List ℕ
entries_text es = canonical_body (compact_entries es)

-- ---- templates

-- the keys of an object, in its order
abbrev pub names_of : List (String Global × Value) → List (List ℕ)
names_of es = keys (entries_view es)

-- whether it is an object of these keys
abbrev pub tree_has_keys : List (List ℕ) → Tree → Bool
tree_has_keys ks (object es) = same_keys (keys es) ks
tree_has_keys ks _ = false

abbrev pub has_keys : List (List ℕ) → Value → Bool
has_keys ks v = tree_has_keys ks (tree_of v)

-- a template's keys
abbrev pub template_keys : Tree → Option (List (List ℕ))
template_keys (template ks rs) = Some ks
template_keys _ = None

-- the keys of the template that an array of these items is written as, where it is written as one
abbrev pub template_names : List Value → Option (List (List ℕ))
template_names vs = template_keys (as_template (fold_items (items_view vs)))

-- a template's tag, its keys and the count of its rows
abbrev pub template_head : List (List ℕ) → ℕ → List ℕ
template_head ks n = template_tag ++ (array_head (length ks) ++ (flat_map canonical_text ks ++ least_count n))

-- the beginning of a template of so many objects, of which this is one
abbrev pub head_text : List (String Global × Value) → ℕ → List ℕ
head_text es n = template_head (names_of es) n

-- the values of an object, as a row
abbrev pub row_values : Tree → Fields
row_values (object es) = values es
row_values _ = no_fields

abbrev pub row_of : Tree → List ℕ
row_of t = canonical_fields (row_values t)

-- an object, as a row
abbrev pub row_text : Value → List ℕ
row_text v = row_of (compact_tree v)

-- each value of an object can be written
abbrev pub RowIsWritable : Value → Type 0
RowIsWritable v = FieldsAreWritable (row_values (compact_tree v))

abbrev pub rows_text : List Value → List ℕ
rows_text [] = []
rows_text (v ∷ vs) = row_text v ++ rows_text vs
