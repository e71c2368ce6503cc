-- The tree of the value that a tree without templates reads as: each object's entries in rising order of keys, each key once with its last value.
use Rattle.std.specs.Prelude.{ℕ, List, [], ◌∷◌, fold, Option, Some, None, option_map, option_and_then, if◌then◌else◌}
use Rattle.std.specs.Ordering.{nat_cmp}
use Rattle.std.specs.Cmp.Lexicographic.{slice_cmp}
use Rattle.std.specs.BTreeMap.{insert_entry}
use Rattle.std.specs.Str.{is_utf8}
use Rattle.bser_format.specs.Tree.{Tree, null, boolean, integer, real, bytes, text, array, object, template, Items, no_items, item, Entries, no_entries, entry, entries_of}

-- the entries in rising order of keys, each key once with its last value
abbrev pub last_entries : {X : Type 0} → List (List ℕ × X) → List (List ℕ × X)
last_entries es = fold (λ m e. insert_entry (slice_cmp nat_cmp) m e.0 e.1) [] es

abbrev mutual
  pub normal : Tree → Option Tree
  normal null = Some null
  normal (boolean v) = Some (boolean v)
  normal (integer v) = Some (integer v)
  normal (real r) = Some (real r)
  normal (bytes s) = Some (bytes s)
  normal (text s) = Some (text s)
  normal (array ts) = option_map array (normal_items ts)
  normal (object es) = option_map (λ m. object (entries_of (last_entries m))) (normal_entries es)
  normal (template ks rs) = None

  pub normal_items : Items → Option Items
  normal_items no_items = Some no_items
  normal_items (item t ts) = option_and_then (λ u. option_map (item u) (normal_items ts)) (normal t)

  pub normal_entries : Entries → Option (List (List ℕ × Tree))
  normal_entries no_entries = Some []
  normal_entries (entry k t es) = if is_utf8 k then option_and_then (λ u. option_map (λ m. (k, u) ∷ m) (normal_entries es)) (normal t) else None
