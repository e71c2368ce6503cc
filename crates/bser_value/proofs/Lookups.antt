-- Lemmas on looking a key of an object up.
use Rattle.std.proofs.Common.{◌≡◌, ℕ, List, [], ◌∷◌, Bool, true, false, Option, Some, None, Bor, nat_cmp, option_map, string_bytes, refl}
use Rattle.std.proofs.lemmas.Map.Text.{is_eq-slice_cmp}
use Rattle.std.specs.Prelude.{cond}
use Rattle.std.specs.Cmp.Lexicographic.{slice_cmp}
use Rattle.std.specs.BTreeMap.{is_at}
use Rattle.std.specs.Map.{lookup}
use Rattle.bser_format.specs.SameTree.{same_bytes}
use Rattle.bser_format.specs.Tree.{Tree}
use Rattle.bser_value.specs.declared.value.Value.{Value}
use Rattle.bser_value.specs.ValueView.{tree_of, entries_view}
use Rattle.bser_value.specs.Contents.{entry_under}
use Rattle.bser_value.proofs.Views.{Entry}

found_or : (b : Bool) (v : Value) (rest : Option Value) (found : Option Tree) → option_map tree_of rest ≡ found
    → option_map tree_of (cond b (Some v) rest) ≡ cond b (Some (tree_of v)) found
found_or true v rest found e = refl
found_or false v rest found e = e

-- the map's look-up finds the tree of the entry with the key
pub tree_of-lookup : (key : List ℕ) (es : List Entry) → option_map tree_of (lookup (is_at (λ k. slice_cmp nat_cmp key (string_bytes k))) es) ≡ entry_under key (entries_view es)
tree_of-lookup key [] = refl
tree_of-lookup key (e ∷ es) = rw (is_eq-slice_cmp key (string_bytes e.0)) (found_or (same_bytes key (string_bytes e.0)) e.1 _ _ (tree_of-lookup key es))

-- what a reference points to
pub tree_of-ref : (r : Option (Bor Value)) → option_map (λ x. tree_of x.now) r ≡ option_map tree_of (option_map (λ x. x.now) r)
tree_of-ref None = refl
tree_of-ref (Some x) = refl
