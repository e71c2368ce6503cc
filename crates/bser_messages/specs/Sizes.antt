-- The size of a value with its templates written out.
use Rattle.std.specs.Prelude.{◌≡◌, ℕ, ◌+◌, ◌-◌, ◌^◌, min, length, Some, None, if◌then◌else◌}
use Rattle.bser_format.specs.Tree.{Tree, array, object, Items, no_items, item, Entries, no_entries, entry}
use Rattle.bser_format.specs.Measures.{nodes, depth}
use Rattle.bser_format.specs.Content.{Content, Meaning, value}
use Rattle.bser_format.specs.ReadsAny.{has_utf8_keys}
use Rattle.bser_messages.specs.declared.size.Size.{Size}

-- how many bytes all keys of all objects have, of a tree without templates, equal keys counted each
-- time
abbrev mutual
  pub key_bytes : Tree → ℕ
  key_bytes (array ts) = items_key_bytes ts
  key_bytes (object es) = entries_key_bytes es
  key_bytes _ = 0

  pub items_key_bytes : Items → ℕ
  items_key_bytes no_items = 0
  items_key_bytes (item t ts) = key_bytes t + items_key_bytes ts

  pub entries_key_bytes : Entries → ℕ
  entries_key_bytes no_entries = 0
  entries_key_bytes (entry k t es) = length k + key_bytes t + entries_key_bytes es

-- the number, or where it does not fit 64 bits the greatest that does
abbrev pub capped : ℕ → ℕ
capped n = min n (2 ^ 64 - 1)

-- the size is that of this tree
pub record IsSizeOf (s : Size) (t : Tree) : Type 0 where
  pub values : s.values ≡ capped (nodes t)
  pub keys : s.key_bytes ≡ capped (key_bytes t)
  pub levels : s.depth ≡ capped (depth t)

-- ---- a type that is read

-- `Size`: any node whose objects have keys in UTF-8, as its tree
abbrev pub reads_size : Meaning
reads_size t = if has_utf8_keys t then Some (value t) else None

-- the size is that of the tree that was read
pub record HoldsTreeSize (s : Size) (c : Content) : Type 0 where
  pub tree : Tree
  pub same : c ≡ value tree
  pub size : IsSizeOf s tree
