-- What is said of a worked byte list.
use Rattle.std.specs.Prelude.{◌≡◌, ◌≢◌, ◌≤◌, ◌<◌, ◌^◌, ℕ, List, [], ◌++◌, length, Some, None}
use Rattle.bser_format.specs.Tree.{Tree}
use Rattle.bser_format.specs.Grammar.{Spells}
use Rattle.bser_format.specs.Message.{IsMessage}
use Rattle.bser_format.specs.Canonical.{canonical_body, canonical_message}
use Rattle.bser_format.specs.Plain.{message, value}
use Rattle.bser_format.specs.Expand.{expand}
use Rattle.bser_format.specs.Normal.{normal}
use Rattle.bser_format.specs.Measures.{depth, nodes}
use Rattle.bser_format.specs.ValueTree.{IsValueTree}

-- the whole list is a message of tree t, without capabilities and with at most n levels, and the plain reader gives it
abbrev pub IsRead : ℕ → List ℕ → Tree → Type 0
IsRead n b t = IsMessage n 0 t b × (message n b ≡ Some ((0, t), []))

-- the plain reader gives nothing, and no front of the list is a message of at most n levels
abbrev pub HasNoMessage : ℕ → List ℕ → Type 0
HasNoMessage n b = (message n b ≡ None) × ((c : ℕ) (t : Tree) (a x : List ℕ) → IsMessage n c t a → b ≢ a ++ x)

-- the canonical message of t, which is read as t
abbrev pub IsWritten : Tree → List ℕ → Type 0
IsWritten t b = (canonical_message t ≡ b) × IsRead 128 b t

-- the list is the body of tree t with at most n levels, and the plain reader gives it
abbrev pub IsBody : ℕ → List ℕ → Tree → Type 0
IsBody n b t = Spells n t b × (value n b ≡ Some (t, []))

-- the tree t reads as the value v
abbrev pub IsValueOf : Tree → Tree → Type 0
IsValueOf t v = (normal (expand t) ≡ Some v) × IsValueTree v

-- v is a value of at most n levels whose message has k bytes, fewer than 2^63, and is read as v
abbrev pub IsReadBack : ℕ → Tree → ℕ → Type 0
IsReadBack n v k = IsValueOf v v × (depth v ≤ n) × (length (canonical_message v) ≡ k) × (k < 2 ^ 63) × IsRead n (canonical_message v) v

-- v has k values and d levels, and its canonical body has l bytes
abbrev pub HasSize : Tree → ℕ → ℕ → ℕ → Type 0
HasSize v k d l = (nodes v ≡ k) × (depth v ≡ d) × (length (canonical_body v) ≡ l)
