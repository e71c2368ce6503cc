-- What sets hold.
use Rattle.std.specs.Prelude.{◌≡◌, List, [], ◌∷◌}
use Rattle.std.specs.declared.cmp.Ordering.{Ordering}
use Rattle.std.specs.BTreeSet.{insert_key}
use Rattle.bser_format.specs.Content.{Content}
use Rattle.bser_deserializer.specs.HoldsLists.{HoldsList}

-- one after another at its place in the order, unless an equal one is there
abbrev pub insert_all : {A : Type 0} → (A → A → Ordering) → List A → List A → List A
insert_all cmp keys [] = keys
insert_all cmp keys (v ∷ vs) = insert_all cmp (insert_key cmp keys v) vs

-- in rising order, and of equal ones the first: values that hold a list's items
pub record HoldsSet {A : Type 0} (cmp : A → A → Ordering) (holds : A → Content → Type 0) (keys : List A) (c : Content) : Type 0 where
  pub values : List A
  pub held : HoldsList holds values c
  pub ordered : keys ≡ insert_all cmp [] values
