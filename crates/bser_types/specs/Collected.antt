-- What a collection holds whose items or entries were put into it one after another.
use Rattle.std.specs.Prelude.{◌≡◌, ◌||◌, ℕ, true, false, List, ◌∷◌, [], ◌++◌, map}
use Rattle.std.specs.BTreeMap.{insert_entry}
use Rattle.std.specs.Cmp.Lexicographic.{slice_cmp}
use Rattle.std.specs.Ordering.{nat_cmp}
use Rattle.bser_format.specs.Content.{Content, byte_list, pair}
use Rattle.bser_format.specs.ReadsHolders.{list_of}
use Rattle.bser_deserializer.specs.HoldsLists.{HoldsList}
use Rattle.bser_deserializer.specs.Reading.{Needs}

-- ---- items

-- where the old one is what these items make, the new one is what they and this one make
abbrev pub CollectsItem : {A C : Type 0} → (List A → C → Type 0) → C → C → A → Type 0
CollectsItem {A = A} collected old new v = (vs : List A) → collected vs old → collected (vs ++ v ∷ []) new

-- it is what items make that hold a list
pub record HoldsCollected {A C : Type 0} (collected : List A → C → Type 0) (holds : A → Content → Type 0) (v : C) (c : Content) : Type 0 where
  pub items : List A
  pub made : collected items v
  pub held : HoldsList holds items c

-- what a list needs of its items' needs, and memory
abbrev pub list_needs : Needs → Needs
list_needs needs = record { lent = needs.lent; memory = true; keys = false; copied = true }

-- ---- entries

-- the pairs so far, with one more, in rising order of their names; of equal names the last stays
abbrev pub with_pair : List (List ℕ × Content) → List ℕ × Content → List (List ℕ × Content)
with_pair ps p = insert_entry (slice_cmp nat_cmp) ps p.0 p.1

-- where the entries of the old one are pairs, those of the new one are these and that of the key's name and the value's content
abbrev pub PutsEntry : {K V M : Type 0} → (M → List (List ℕ × Content) → Type 0) → (K → List ℕ) → (V → Content → Type 0) → M → M → K → V → Type 0
PutsEntry pairs name holds old new k v =
    (c : Content) (ps : List (List ℕ × Content)) → holds v c → pairs old ps → pairs new (with_pair ps (name k, pair (byte_list (name k)) c))

-- a list of the pairs that its entries are
pub record HoldsPut {M : Type 0} (pairs : M → List (List ℕ × Content) → Type 0) (m : M) (c : Content) : Type 0 where
  pub entries : List (List ℕ × Content)
  pub list : c ≡ list_of (map (λ p. p.1) entries)
  pub held : pairs m entries

-- what a map needs of its keys' and its values' needs, and memory
abbrev pub map_needs : Needs → Needs → Needs
map_needs key some = record { lent = key.lent || some.lent; memory = true; keys = false; copied = true }
