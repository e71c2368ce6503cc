-- Arrays of at least two objects that have one nonempty list of keys, as templates.
use Rattle.std.specs.Prelude.{ℕ, Bool, true, false, ◌&&◌, List, [], ◌∷◌, Option, Some, None, option_map, unwrap_or, bytes_eq, if◌then◌else◌}
use Rattle.bser_format.specs.Tree.{Tree, null, boolean, integer, real, bytes, text, array, object, template, Items, no_items, item, Entries, no_entries, entry, Rows, no_rows, row, Fields, no_fields, field}
use Rattle.bser_format.specs.Canonical.{canonical_body, canonical_message}

abbrev pub keys : Entries → List (List ℕ)
keys no_entries = []
keys (entry k t es) = k ∷ keys es

-- the entries' values, as a row with no field skipped
abbrev pub values : Entries → Fields
values no_entries = no_fields
values (entry k t es) = field t (values es)

abbrev pub same_keys : List (List ℕ) → List (List ℕ) → Bool
same_keys [] [] = true
same_keys (k ∷ ks) (l ∷ ls) = bytes_eq k l && same_keys ks ls
same_keys _ _ = false

-- the rows of objects that all have these keys
abbrev pub rows_with : List (List ℕ) → Items → Option Rows
rows_with ks no_items = Some no_rows
rows_with ks (item (object es) ts) = if same_keys (keys es) ks then option_map (row (values es)) (rows_with ks ts) else None
rows_with ks (item _ ts) = None

abbrev pub as_template : Items → Tree
as_template (item (object (entry k t es)) (item u us)) =
    let ts = item (object (entry k t es)) (item u us) in
    let ks = keys (entry k t es) in
    unwrap_or (option_map (template ks) (rows_with ks ts)) (array ts)
as_template ts = array ts

abbrev mutual
  pub fold_templates : Tree → Tree
  fold_templates null = null
  fold_templates (boolean v) = boolean v
  fold_templates (integer v) = integer v
  fold_templates (real r) = real r
  fold_templates (bytes s) = bytes s
  fold_templates (text s) = text s
  fold_templates (array ts) = as_template (fold_items ts)
  fold_templates (object es) = object (fold_entries es)
  fold_templates (template ks rs) = template ks rs

  pub fold_items : Items → Items
  fold_items no_items = no_items
  fold_items (item t ts) = item (fold_templates t) (fold_items ts)

  pub fold_entries : Entries → Entries
  fold_entries no_entries = no_entries
  fold_entries (entry k t es) = entry k (fold_templates t) (fold_entries es)

abbrev pub compact_body : Tree → List ℕ
compact_body t = canonical_body (fold_templates t)

-- the compact message
abbrev pub compact_message : Tree → List ℕ
compact_message t = canonical_message (fold_templates t)
