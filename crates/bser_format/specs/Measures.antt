-- How deep a tree nests, and how many values it has.
use Rattle.std.specs.Prelude.{ℕ, suc, max, ◌+◌}
use Rattle.bser_format.specs.Tree.{Tree, null, boolean, integer, real, bytes, text, array, object, template, Items, no_items, item, Entries, no_entries, entry, Rows, no_rows, row, Fields, no_fields, skip, field}

-- how deep containers nest; a template needs two levels, for its list of keys
abbrev mutual
  pub depth : Tree → ℕ
  depth null = 0
  depth (boolean v) = 0
  depth (integer v) = 0
  depth (real r) = 0
  depth (bytes s) = 0
  depth (text s) = 0
  depth (array ts) = suc (items_depth ts)
  depth (object es) = suc (entries_depth es)
  depth (template ks rs) = suc (max 1 (rows_depth rs))

  pub items_depth : Items → ℕ
  items_depth no_items = 0
  items_depth (item t ts) = max (depth t) (items_depth ts)

  pub entries_depth : Entries → ℕ
  entries_depth no_entries = 0
  entries_depth (entry k t es) = max (depth t) (entries_depth es)

  pub rows_depth : Rows → ℕ
  rows_depth no_rows = 0
  rows_depth (row fs rs) = max (fields_depth fs) (rows_depth rs)

  pub fields_depth : Fields → ℕ
  fields_depth no_fields = 0
  fields_depth (skip fs) = fields_depth fs
  fields_depth (field t fs) = max (depth t) (fields_depth fs)

-- how many values a tree without templates has, itself among them; keys are not counted
abbrev mutual
  pub nodes : Tree → ℕ
  nodes null = 1
  nodes (boolean v) = 1
  nodes (integer v) = 1
  nodes (real r) = 1
  nodes (bytes s) = 1
  nodes (text s) = 1
  nodes (array ts) = suc (items_nodes ts)
  nodes (object es) = suc (entries_nodes es)
  nodes (template ks rs) = 1

  pub items_nodes : Items → ℕ
  items_nodes no_items = 0
  items_nodes (item t ts) = nodes t + items_nodes ts

  pub entries_nodes : Entries → ℕ
  entries_nodes no_entries = 0
  entries_nodes (entry k t es) = nodes t + entries_nodes es
