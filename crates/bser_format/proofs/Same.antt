-- The test `same_tree` is true exactly where two trees are the same.
use Rattle.std.proofs.Common.{◌≡◌, true, true≢false, ◌&&◌, refl, sym, ap, subst}
use Rattle.std.specs.Bool.{Decides}
use Rattle.std.specs.Cmp.Lexicographic.{pointwise, pointwise_decides, bytes_decides}
use Rattle.std.specs.Cmp.{IsEquivalence, IsPartialEquivalence, partial_equiv_from_equiv, booleans_Decides, signed_Decides, unsigned_Decides, decided, first_so, second_so}
use Rattle.bser_format.specs.Tree.{Tree, null, boolean, integer, real, bytes, text, array, object, template, Items, no_items, item, Entries, no_entries, entry, Rows, no_rows, row, Fields, no_fields, skip, field}
use Rattle.bser_format.specs.SameTree.{same_bytes, same_tree, same_items, same_entries, same_rows, same_fields}

mutual
  tree_from_same : (a b : Tree) → same_tree a b ≡ true → a ≡ b
  tree_from_same null null h = refl
  tree_from_same (boolean v) (boolean w) h = ap boolean ((booleans_Decides v w).0 h)
  tree_from_same (integer v) (integer w) h = ap integer ((signed_Decides v w).0 h)
  tree_from_same (real r) (real q) h = ap real ((unsigned_Decides r q).0 h)
  tree_from_same (bytes s) (bytes b) h = ap bytes ((bytes_decides s b).0 h)
  tree_from_same (text s) (text b) h = ap text ((bytes_decides s b).0 h)
  tree_from_same (array ts) (array us) h = ap array (items_from_same ts us h)
  tree_from_same (object es) (object fs) h = ap object (entries_from_same es fs h)
  tree_from_same (template ks rs) (template ls qs) h = λ i.
      template ((pointwise_decides bytes_decides ks ls).0 (first_so _ (same_rows rs qs) h) i) (rows_from_same rs qs (second_so (pointwise same_bytes ks ls) _ h) i)
  tree_from_same _ _ h = absurd (true≢false (sym h))

  items_from_same : (ts us : Items) → same_items ts us ≡ true → ts ≡ us
  items_from_same no_items no_items h = refl
  items_from_same (item t ts) (item u us) h = λ i.
      item (tree_from_same t u (first_so _ (same_items ts us) h) i) (items_from_same ts us (second_so (same_tree t u) _ h) i)
  items_from_same _ _ h = absurd (true≢false (sym h))

  entries_from_same : (es fs : Entries) → same_entries es fs ≡ true → es ≡ fs
  entries_from_same no_entries no_entries h = refl
  entries_from_same (entry k t es) (entry l u fs) h =
      let both = first_so (same_bytes k l && same_tree t u) (same_entries es fs) h in
      λ i. entry ((bytes_decides k l).0 (first_so _ (same_tree t u) both) i) (tree_from_same t u (second_so (same_bytes k l) _ both) i) (entries_from_same es fs (second_so (same_bytes k l && same_tree t u) _ h) i)
  entries_from_same _ _ h = absurd (true≢false (sym h))

  rows_from_same : (rs qs : Rows) → same_rows rs qs ≡ true → rs ≡ qs
  rows_from_same no_rows no_rows h = refl
  rows_from_same (row fs rs) (row gs qs) h = λ i.
      row (fields_from_same fs gs (first_so _ (same_rows rs qs) h) i) (rows_from_same rs qs (second_so (same_fields fs gs) _ h) i)
  rows_from_same _ _ h = absurd (true≢false (sym h))

  fields_from_same : (fs gs : Fields) → same_fields fs gs ≡ true → fs ≡ gs
  fields_from_same no_fields no_fields h = refl
  fields_from_same (skip fs) (skip gs) h = ap skip (fields_from_same fs gs h)
  fields_from_same (field t fs) (field u gs) h = λ i.
      field (tree_from_same t u (first_so _ (same_fields fs gs) h) i) (fields_from_same fs gs (second_so (same_tree t u) _ h) i)
  fields_from_same _ _ h = absurd (true≢false (sym h))

mutual
  tree_itself : (a : Tree) → same_tree a a ≡ true
  tree_itself null = refl
  tree_itself (boolean v) = (booleans_Decides v v).1 refl
  tree_itself (integer v) = (signed_Decides v v).1 refl
  tree_itself (real r) = (unsigned_Decides r r).1 refl
  tree_itself (bytes s) = (bytes_decides s s).1 refl
  tree_itself (text s) = (bytes_decides s s).1 refl
  tree_itself (array ts) = items_itself ts
  tree_itself (object es) = entries_itself es
  tree_itself (template ks rs) = λ i. (pointwise_decides bytes_decides ks ks).1 refl i && rows_itself rs i

  items_itself : (ts : Items) → same_items ts ts ≡ true
  items_itself no_items = refl
  items_itself (item t ts) = λ i. tree_itself t i && items_itself ts i

  entries_itself : (es : Entries) → same_entries es es ≡ true
  entries_itself no_entries = refl
  entries_itself (entry k t es) = λ i. ((bytes_decides k k).1 refl i && tree_itself t i) && entries_itself es i

  rows_itself : (rs : Rows) → same_rows rs rs ≡ true
  rows_itself no_rows = refl
  rows_itself (row fs rs) = λ i. fields_itself fs i && rows_itself rs i

  fields_itself : (fs : Fields) → same_fields fs fs ≡ true
  fields_itself no_fields = refl
  fields_itself (skip fs) = fields_itself fs
  fields_itself (field t fs) = λ i. tree_itself t i && fields_itself fs i

pub same_tree_decides : (a b : Tree) → Decides (same_tree a b) (a ≡ b)
same_tree_decides a b = (tree_from_same a b, λ e. subst (λ t. same_tree a t ≡ true) e (tree_itself a))

pub same_tree_equiv : IsEquivalence same_tree
same_tree_equiv = decided same_tree same_tree_decides

pub same_tree_partial_equiv : IsPartialEquivalence same_tree
same_tree_partial_equiv = partial_equiv_from_equiv same_tree_equiv
