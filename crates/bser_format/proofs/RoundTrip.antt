-- A tree without templates that can be written is read as itself, and by each type as it was.
use Rattle.std.proofs.Common.{◌≡◌, ℕ, ◌<◌, ◌≤◌, ◌^◌, List, ◌++◌, length, Option, Some, sym, ap, ◌∙◌}
use Rattle.bser_format.specs.Tree.{Tree, null, boolean, integer, real, bytes, text, array, object, template, Items, no_items, item, Entries, no_entries, entry}
use Rattle.bser_format.specs.Message.{IsMessage}
use Rattle.bser_format.specs.Expand.{expand, IsTemplateFree, ItemsAreTemplateFree, EntriesAreTemplateFree}
use Rattle.bser_format.specs.Canonical.{canonical_message, IsWritable}
use Rattle.bser_format.specs.Measures.{depth}
use Rattle.bser_format.specs.ValueTree.{IsValueTree, ItemsAreValueTrees, EntriesAreValueTrees}
use Rattle.bser_format.proofs.Back.{canon_message}
use Rattle.bser_format.proofs.GrammarLaws.{one_message}
use Rattle.bser_format.proofs.Values.{expand_free}

pub written_front : (n c : ℕ) (t u : Tree) (a x y : List ℕ) → IsWritable t → depth t ≤ n → length (canonical_message t) < 2 ^ 63 → IsMessage n c u a → canonical_message t ++ x ≡ a ++ y → (canonical_message t ≡ a) × (0 ≡ c) × (t ≡ u)
written_front n c t u a x y h l short m e = one_message n 0 c (canonical_message t) a x y t u (canon_message n t h l short) m e

pub meaning_stays : {C : Type 0} (f : Tree → Option C) (n c : ℕ) (t u : Tree) (a x y : List ℕ) (v : C) → IsTemplateFree t → IsWritable t → depth t ≤ n → length (canonical_message t) < 2 ^ 63 → IsMessage n c u a → canonical_message t ++ x ≡ a ++ y
    → f t ≡ Some v → f (expand u) ≡ Some v
meaning_stays f n c t u a x y v free h l short m e is =
    let same = (written_front n c t u a x y h l short m e).2 in
    ap f (sym (ap expand same) ∙ expand_free t free) ∙ is

-- ---- the tree of a value has no template

mutual
  pub value_free : (t : Tree) → IsValueTree t → IsTemplateFree t
  value_free null h = tt
  value_free (array ts) h = items_free ts h
  value_free (object es) h = entries_free es h.1
  value_free (template ks rs) h = absurd h
  value_free other h = tt

  items_free : (ts : Items) → ItemsAreValueTrees ts → ItemsAreTemplateFree ts
  items_free no_items h = tt
  items_free (item t ts) h = (value_free t h.0, items_free ts h.1)

  entries_free : (es : Entries) → EntriesAreValueTrees es → EntriesAreTemplateFree es
  entries_free no_entries h = tt
  entries_free (entry k t es) h = (value_free t h.1, entries_free es h.2)
