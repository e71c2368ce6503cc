-- What the tree of every value is.
use Rattle.std.specs.Prelude.{◌<◌, ◌^◌, IsUtf8, FitsSigned}
use Rattle.std.specs.Int.{w64}
use Rattle.std.specs.Ordering.{nat_cmp}
use Rattle.std.specs.Cmp.Lexicographic.{slice_cmp}
use Rattle.std.specs.List.Sorted.{IsStrictlySortedBy}
use Rattle.bser_format.specs.Tree.{Tree, null, boolean, integer, real, bytes, text, array, object, template, Items, no_items, item, Entries, no_entries, entry}
use Rattle.bser_format.specs.Compact.{keys}

-- no template, numbers in their ranges, texts in UTF-8, and each object has its keys once, in rising order, in UTF-8
abbrev mutual
  pub IsValueTree : Tree → Type 0
  IsValueTree null = Unit {0}
  IsValueTree (boolean v) = Unit {0}
  IsValueTree (integer v) = FitsSigned w64 v
  IsValueTree (real r) = r < 2 ^ 64
  IsValueTree (bytes s) = Unit {0}
  IsValueTree (text s) = IsUtf8 s
  IsValueTree (array ts) = ItemsAreValueTrees ts
  IsValueTree (object es) = IsStrictlySortedBy (slice_cmp nat_cmp) (keys es) × EntriesAreValueTrees es
  IsValueTree (template ks rs) = ⊥

  pub ItemsAreValueTrees : Items → Type 0
  ItemsAreValueTrees no_items = Unit {0}
  ItemsAreValueTrees (item t ts) = IsValueTree t × ItemsAreValueTrees ts

  pub EntriesAreValueTrees : Entries → Type 0
  EntriesAreValueTrees no_entries = Unit {0}
  EntriesAreValueTrees (entry k t es) = IsUtf8 k × IsValueTree t × EntriesAreValueTrees es
