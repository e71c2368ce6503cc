-- What lists and tuples hold.
use Rattle.std.specs.Prelude.{◌≡◌, List, [], ◌∷◌}
use Rattle.bser_format.specs.Content.{Content}
use Rattle.bser_format.specs.ReadsHolders.{list_of}

-- each item holds its content, as many
abbrev pub HoldsAll : {A : Type 0} → (A → Content → Type 0) → List A → List Content → Type 0
HoldsAll holds [] [] = Unit {0}
HoldsAll holds (v ∷ vs) (c ∷ cs) = holds v c × HoldsAll holds vs cs
HoldsAll holds _ _ = ⊥

-- a list of what the items hold
pub record HoldsList {A : Type 0} (holds : A → Content → Type 0) (vs : List A) (c : Content) : Type 0 where
  pub contents : List Content
  pub list : c ≡ list_of contents
  pub items : HoldsAll holds vs contents

-- each part holds its content, as many
abbrev pub HoldsEach : List (Content → Type 0) → List Content → Type 0
HoldsEach [] [] = Unit {0}
HoldsEach (h ∷ hs) (c ∷ cs) = h c × HoldsEach hs cs
HoldsEach _ _ = ⊥

-- a list of what the parts of a tuple hold
pub record HoldsTuple (parts : List (Content → Type 0)) (c : Content) : Type 0 where
  pub contents : List Content
  pub list : c ≡ list_of contents
  pub held : HoldsEach parts contents
