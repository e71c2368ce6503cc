-- What is put of a message: the bodies of values, one behind the other.
use Rattle.std.specs.Prelude.{◌≡◌, ℕ, ◌≤◌, List, [], ◌∷◌, ◌++◌, length, map, ⊤}
use Rattle.std.specs.Borrow.{Bor}
use Rattle.std.specs.List.{slice_range}
use Rattle.std.specs.Map.{keys_of}
use Rattle.bser_format.specs.Tree.{Tree}
use Rattle.bser_format.specs.Canonical.{canonical_body, canonical_key, canonical_message}
use Rattle.bser_format.specs.ValueTree.{IsValueTree}
use Rattle.bser_from_json.specs.Made.{Outcome, makes}
use Rattle.bser_from_json.specs.declared.body.EntrySpan.{EntrySpan}

-- the bytes are followed by the canonical body of a tree that a `Value` has
pub record Follows (bytes all : List ℕ) (t : Tree) : Type 0 where
  pub body : all ≡ bytes ++ canonical_body t
  pub value : IsValueTree t

-- the bytes are the canonical message of the tree that is made, which a `Value` has
pub record MakesMessage (o : Outcome) (bytes : List ℕ) : Type 0 where
  pub tree : Tree
  pub made : o ≡ makes tree
  pub message : bytes ≡ canonical_message tree
  pub value : IsValueTree tree

-- ---- the entries of an object

-- an object's names, and where each entry stands
abbrev pub Places : Type 0
Places = List (Bor (List ℕ) × EntrySpan)

-- these are the names of the entries
abbrev pub AreNamed : Places → List (List ℕ × Tree) → Type 0
AreNamed ps es = map (λ p. p.0.now) ps ≡ keys_of es

-- the piece stands in the bytes
pub record Stands (bytes : List ℕ) (s : EntrySpan) (piece : List ℕ) : Type 0 where
  pub ordered : s.start ≤ s.end
  pub within : s.end ≤ length bytes
  pub there : slice_range bytes s.start s.end ≡ piece

-- the entries stand in the bytes, each under its name
abbrev pub EntriesStand : List ℕ → Places → List (List ℕ × Tree) → Type 0
EntriesStand bytes [] [] = ⊤
EntriesStand bytes (p ∷ ps) (e ∷ es) = (p.0.now ≡ e.0) × Stands bytes p.1 (canonical_key e.0 ++ canonical_body e.1) × EntriesStand bytes ps es
EntriesStand bytes _ _ = ⊥
