-- Whether two trees are the same, as a test.
use Rattle.std.specs.Prelude.{ℕ, Bool, true, false, ◌&&◌, List, nat_eq}
use Rattle.std.specs.Bool.{beq}
use Rattle.std.specs.Ordering.{int_eq}
use Rattle.std.specs.Cmp.Lexicographic.{pointwise}
use Rattle.bser_format.specs.Tree.{Tree, null, boolean, integer, real, bytes, text, array, object, template, Items, no_items, item, Entries, no_entries, entry, Rows, no_rows, row, Fields, no_fields, skip, field}

-- whether two byte lists are the same
abbrev pub same_bytes : List ℕ → List ℕ → Bool
same_bytes = pointwise nat_eq

-- whether two trees are the same: one kind, and the same parts in the same order
abbrev mutual
  pub same_tree : Tree → Tree → Bool
  same_tree null null = true
  same_tree (boolean v) (boolean w) = beq v w
  same_tree (integer v) (integer w) = int_eq v w
  same_tree (real r) (real q) = nat_eq r q
  same_tree (bytes s) (bytes b) = same_bytes s b
  same_tree (text s) (text b) = same_bytes s b
  same_tree (array ts) (array us) = same_items ts us
  same_tree (object es) (object fs) = same_entries es fs
  same_tree (template ks rs) (template ls qs) = pointwise same_bytes ks ls && same_rows rs qs
  same_tree _ _ = false

  pub same_items : Items → Items → Bool
  same_items no_items no_items = true
  same_items (item t ts) (item u us) = same_tree t u && same_items ts us
  same_items _ _ = false

  pub same_entries : Entries → Entries → Bool
  same_entries no_entries no_entries = true
  same_entries (entry k t es) (entry l u fs) = (same_bytes k l && same_tree t u) && same_entries es fs
  same_entries _ _ = false

  pub same_rows : Rows → Rows → Bool
  same_rows no_rows no_rows = true
  same_rows (row fs rs) (row gs qs) = same_fields fs gs && same_rows rs qs
  same_rows _ _ = false

  pub same_fields : Fields → Fields → Bool
  same_fields no_fields no_fields = true
  same_fields (skip fs) (skip gs) = same_fields fs gs
  same_fields (field t fs) (field u gs) = same_tree t u && same_fields fs gs
  same_fields _ _ = false
