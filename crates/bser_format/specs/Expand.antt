-- What a tree means: each template is the array of its rows, and a row is the object of its keys
-- and fields.
use Rattle.std.specs.Prelude.{ℕ, List, [], ◌∷◌, if◌then◌else◌}
use Rattle.std.specs.Str.{is_utf8}
use Rattle.bser_format.specs.Tree.{Tree, null, boolean, integer, real, bytes, text, array, object, template, Items, no_items, item, Entries, no_entries, entry, Rows, no_rows, row, Fields, no_fields, skip, field}

abbrev mutual
  pub expand : Tree → Tree
  expand null = null
  expand (boolean v) = boolean v
  expand (integer v) = integer v
  expand (real r) = real r
  expand (bytes s) = bytes s
  expand (text s) = text s
  expand (array ts) = array (expand_items ts)
  expand (object es) = object (expand_entries es)
  expand (template ks rs) = array (expand_rows ks rs)

  pub expand_items : Items → Items
  expand_items no_items = no_items
  expand_items (item t ts) = item (expand t) (expand_items ts)

  pub expand_entries : Entries → Entries
  expand_entries no_entries = no_entries
  expand_entries (entry k t es) = entry k (expand t) (expand_entries es)

  pub expand_rows : List (List ℕ) → Rows → Items
  expand_rows ks no_rows = no_items
  expand_rows ks (row fs rs) = item (object (expand_fields ks fs)) (expand_rows ks rs)

  -- a skipped field is null
  pub expand_fields : List (List ℕ) → Fields → Entries
  expand_fields [] fs = no_entries
  expand_fields (k ∷ ks) no_fields = no_entries
  expand_fields (k ∷ ks) (skip fs) = entry k null (expand_fields ks fs)
  expand_fields (k ∷ ks) (field t fs) = entry k (expand t) (expand_fields ks fs)

-- no template anywhere
abbrev mutual
  pub IsTemplateFree : Tree → Type 0
  IsTemplateFree null = Unit {0}
  IsTemplateFree (boolean v) = Unit {0}
  IsTemplateFree (integer v) = Unit {0}
  IsTemplateFree (real r) = Unit {0}
  IsTemplateFree (bytes s) = Unit {0}
  IsTemplateFree (text s) = Unit {0}
  IsTemplateFree (array ts) = ItemsAreTemplateFree ts
  IsTemplateFree (object es) = EntriesAreTemplateFree es
  IsTemplateFree (template ks rs) = ⊥

  pub ItemsAreTemplateFree : Items → Type 0
  ItemsAreTemplateFree no_items = Unit {0}
  ItemsAreTemplateFree (item t ts) = IsTemplateFree t × ItemsAreTemplateFree ts

  pub EntriesAreTemplateFree : Entries → Type 0
  EntriesAreTemplateFree no_entries = Unit {0}
  EntriesAreTemplateFree (entry k t es) = IsTemplateFree t × EntriesAreTemplateFree es

-- the tree of a key
abbrev pub key_tree : List ℕ → Tree
key_tree s = if is_utf8 s then text s else bytes s
