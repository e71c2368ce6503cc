-- The laws of the grammar.
use Rattle.std.specs.Prelude.{◌≡◌, ◌↔◌, ◌≤◌, ◌<◌, ℕ, ℤ, List, ◌++◌, length, reverse, Option, Some, FitsSigned, bytes_eq}
use Rattle.std.specs.Int.{w64}
use Rattle.std.specs.List.{All, AllByRecursion, Contains}
use Rattle.std.specs.List.Sorted.{IsStrictlySortedBy}
use Rattle.std.specs.Map.{keys_of, lookup}
use Rattle.std.specs.Ordering.{nat_cmp}
use Rattle.std.specs.Cmp.Lexicographic.{slice_cmp}
use Rattle.bser_format.specs.Tree.{Tree}
use Rattle.bser_format.specs.Grammar.{SpellsInteger, Spells}
use Rattle.bser_format.specs.Message.{IsMessage}
use Rattle.bser_format.specs.Canonical.{least_integer, canonical_body, IsWritable}
use Rattle.bser_format.specs.Measures.{depth}
use Rattle.bser_format.specs.Plain.{value, message}
use Rattle.bser_format.specs.Normal.{last_entries}

-- no integer's bytes begin another's
abbrev pub OneInteger : Type 0
OneInteger = (a b x y : List ℕ) (v w : ℤ) → SpellsInteger v a → SpellsInteger w b → a ++ x ≡ b ++ y → (a ≡ b) × (v ≡ w)

-- the least bytes of an integer spell it
abbrev pub LeastIntegerIsSpelled : Type 0
LeastIntegerIsSpelled = (v : ℤ) → FitsSigned w64 v → SpellsInteger v (least_integer v)

-- no bytes of an integer are shorter than its least ones
abbrev pub LeastIntegerIsLeast : Type 0
LeastIntegerIsLeast = (v : ℤ) (b : List ℕ) → SpellsInteger v b → length (least_integer v) ≤ length b

-- no value's bytes begin another's
abbrev pub OneValue : Type 0
OneValue = (n : ℕ) (a b x y : List ℕ) (t u : Tree) → Spells n t a → Spells n u b → a ++ x ≡ b ++ y → (a ≡ b) × (t ≡ u)

-- what is spelled with n levels left is spelled with more
abbrev pub MoreLevels : Type 0
MoreLevels = (n m : ℕ) (b : List ℕ) (t : Tree) → n ≤ m → Spells n t b → Spells m t b

-- the canonical body of a tree spells it
abbrev pub CanonicalBodyIsSpelled : Type 0
CanonicalBodyIsSpelled = (n : ℕ) (t : Tree) → IsWritable t → depth t ≤ n → Spells n t (canonical_body t)

-- a byte list begins with one message at most, of one tree and one number of capabilities
abbrev pub OneFront : Type 0
OneFront = (n c d : ℕ) (a b x y : List ℕ) (t u : Tree) → IsMessage n c t a → IsMessage n d u b → a ++ x ≡ b ++ y → (a ≡ b) × (c ≡ d) × (t ≡ u)

-- the plain reader gives a tree exactly where a prefix of the bytes spells it
abbrev pub ReadingIsExact : Type 0
ReadingIsExact = (n : ℕ) (b y : List ℕ) (t : Tree) → AllByRecursion (λ x. x < 256) b → (value n b ≡ Some (t, y)) ↔ ((a : List ℕ) × (b ≡ a ++ y) × Spells n t a)

-- the plain reader gives a message's capabilities and its tree exactly where a prefix of the bytes
-- is that message
abbrev pub MessageReadingIsExact : Type 0
MessageReadingIsExact = (n c : ℕ) (b y : List ℕ) (t : Tree) → AllByRecursion (λ x. x < 256) b → (message n b ≡ Some ((c, t), y)) ↔ ((a : List ℕ) × (b ≡ a ++ y) × IsMessage n c t a)

-- ---- the last entries of equal keys

-- the value of the last entry of this key
abbrev pub last_value : {X : Type 0} → List ℕ → List (List ℕ × X) → Option X
last_value k es = lookup (bytes_eq k) (reverse es)

-- each key has the value of its last entry, and a key of no entry has none
abbrev pub LastValuesStay : Type 0 → Type 0
LastValuesStay X = (k : List ℕ) (es : List (List ℕ × X)) → lookup (bytes_eq k) (last_entries es) ≡ last_value k es

-- each key once, in rising byte order
abbrev pub KeysRise : Type 0 → Type 0
KeysRise X = (es : List (List ℕ × X)) → IsStrictlySortedBy (slice_cmp nat_cmp) (keys_of (last_entries es))

-- no key but those of the entries
abbrev pub NoOtherKeys : Type 0 → Type 0
NoOtherKeys X = (es : List (List ℕ × X)) → All (Contains (keys_of es)) (keys_of (last_entries es))
