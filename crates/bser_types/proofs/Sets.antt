-- Sets, into which items are put one after another.
use Rattle.std.proofs.Common.{◌≡◌, List, [], ◌∷◌, ◌++◌, refl}
use Rattle.std.specs.declared.cmp.Ordering.{Ordering}
use Rattle.std.specs.BTreeSet.{insert_key}
use Rattle.bser_types.specs.HoldsSets.{insert_all}

pub insert_last : {A : Type 0} (cmp : A → A → Ordering) (keys vs : List A) (v : A) → insert_all cmp keys (vs ++ v ∷ []) ≡ insert_key cmp (insert_all cmp keys vs) v
insert_last cmp keys [] v = refl
insert_last cmp keys (w ∷ vs) v = insert_last cmp (insert_key cmp keys w) vs v
