-- The meanings of the types that read every node.
use Rattle.std.specs.Prelude.{Bool, true, ◌&&◌, Some, None, option_map, if◌then◌else◌}
use Rattle.std.specs.Str.{is_utf8}
use Rattle.bser_format.specs.Tree.{Tree, array, object, Items, no_items, item, Entries, no_entries, entry}
use Rattle.bser_format.specs.Normal.{normal}
use Rattle.bser_format.specs.Content.{one, value, Meaning}

-- `Value`, whose content is its tree
abbrev pub reads_value : Meaning
reads_value t = option_map value (normal t)

-- whether each key of each object is UTF-8
abbrev mutual
  pub has_utf8_keys : Tree → Bool
  has_utf8_keys (array ts) = items_have_utf8_keys ts
  has_utf8_keys (object es) = entries_have_utf8_keys es
  has_utf8_keys _ = true

  pub items_have_utf8_keys : Items → Bool
  items_have_utf8_keys no_items = true
  items_have_utf8_keys (item t ts) = has_utf8_keys t && items_have_utf8_keys ts

  pub entries_have_utf8_keys : Entries → Bool
  entries_have_utf8_keys no_entries = true
  entries_have_utf8_keys (entry k t es) = is_utf8 k && has_utf8_keys t && entries_have_utf8_keys es

-- `Ignored`: any node whose objects have keys in UTF-8
abbrev pub reads_ignored : Meaning
reads_ignored t = if has_utf8_keys t then Some one else None
