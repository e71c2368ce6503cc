-- What maps hold.
use Rattle.std.specs.Prelude.{◌≡◌, ℕ, List, [], ◌∷◌, map, length, Option, Some, None}
use Rattle.std.specs.Cmp.Lexicographic.{slice_cmp}
use Rattle.std.specs.List.Sorted.{IsStrictlySortedBy}
use Rattle.std.specs.Map.{keys_of, lookup}
use Rattle.std.specs.Ordering.{nat_cmp}
use Rattle.std.specs.Str.{bytes_eq}
use Rattle.bser_format.specs.Content.{Content, byte_list, pair}
use Rattle.bser_format.specs.ReadsHolders.{list_of}

-- a pair of a key's bytes and what the value holds
pub record HoldsPair {V : Type 0} (holds : V → Content → Type 0) (name : List ℕ) (v : V) (c : Content) : Type 0 where
  pub value : Content
  pub pair : c ≡ pair (byte_list name) value
  pub held : holds v value

-- each entry holds its pair, under the key's bytes, as many
abbrev pub HoldsEntries : {K V : Type 0} → (K → List ℕ) → (V → Content → Type 0) → List (K × V) → List (List ℕ × Content) → Type 0
HoldsEntries bytes holds [] [] = Unit {0}
HoldsEntries bytes holds (e ∷ es) (p ∷ ps) = (bytes e.0 ≡ p.0) × HoldsPair holds p.0 e.1 p.1 × HoldsEntries bytes holds es ps
HoldsEntries bytes holds _ _ = ⊥

-- a list of pairs in the map's order of keys
pub record HoldsMap {K V : Type 0} (bytes : K → List ℕ) (holds : V → Content → Type 0) (es : List (K × V)) (c : Content) : Type 0 where
  pub pairs : List (List ℕ × Content)
  pub list : c ≡ list_of (map (λ p. p.1) pairs)
  pub held : HoldsEntries bytes holds es pairs

-- a value that holds the pair under this name, or neither
abbrev pub HoldsAt : {V : Type 0} → (V → Content → Type 0) → List ℕ → Option V → Option Content → Type 0
HoldsAt holds name None None = Unit {0}
HoldsAt holds name (Some v) (Some c) = HoldsPair holds name v c
HoldsAt holds name _ _ = ⊥

-- under each name the entries have a value that holds the pair's content, or neither has any; and there are as many
pub record HoldsNames {K V : Type 0} (bytes : K → List ℕ) (holds : V → Content → Type 0) (es : List (K × V)) (pairs : List (List ℕ × Content)) : Type 0 where
  pub rising : IsStrictlySortedBy (slice_cmp nat_cmp) (keys_of pairs)
  pub counted : length es ≡ length pairs
  pub at : (name : List ℕ) → HoldsAt holds name (lookup (λ k. bytes_eq name (bytes k)) es) (lookup (bytes_eq name) pairs)

-- a list of pairs in rising order of keys, whatever the order of the entries
pub record HoldsHashMap {K V : Type 0} (bytes : K → List ℕ) (holds : V → Content → Type 0) (es : List (K × V)) (c : Content) : Type 0 where
  pub pairs : List (List ℕ × Content)
  pub list : c ≡ list_of (map (λ p. p.1) pairs)
  pub held : HoldsNames bytes holds es pairs
