-- The laws of the compact form.
use Rattle.std.specs.Prelude.{◌≡◌, ◌↔◌, ◌≤◌, ◌<◌, ◌^◌, ℕ, List, ◌++◌, length, Some}
use Rattle.bser_format.specs.Tree.{Tree}
use Rattle.bser_format.specs.Message.{IsMessage}
use Rattle.bser_format.specs.Expand.{expand}
use Rattle.bser_format.specs.Content.{Content, Meaning}
use Rattle.bser_format.specs.Measures.{depth}
use Rattle.bser_format.specs.Canonical.{canonical_message, IsWritable}
use Rattle.bser_format.specs.Compact.{fold_templates, compact_body, compact_message}
use Rattle.bser_format.specs.ValueTree.{IsValueTree}
use Rattle.serde_bser.specs.Laws.{ReadsAs}

-- the compact body is at most i64::MAX bytes
abbrev pub CompactFits : Tree → Type 0
CompactFits t = length (compact_body t) < 2 ^ 63

-- a value of at most n levels, whose compact message is at most i64::MAX bytes
abbrev pub IsCompactReadable : ℕ → Tree → Type 0
IsCompactReadable n t = IsValueTree t × (depth t ≤ n) × (length (compact_message t) < 2 ^ 63)

-- ---- the compact tree

-- the compact tree means what the tree means
abbrev pub FoldedStandsForTheSame : Type 0
FoldedStandsForTheSame = (t : Tree) → expand (fold_templates t) ≡ expand t

-- the compact tree of a value reads as that value
abbrev pub CompactReadsAsItself : Type 0
CompactReadsAsItself = (t : Tree) → IsValueTree t → ReadsAs (fold_templates t) t

-- the compact tree is no deeper
abbrev pub CompactIsNoDeeper : Type 0
CompactIsNoDeeper = (t : Tree) → depth (fold_templates t) ≤ depth t

-- where a value can be written, its compact tree can
abbrev pub CompactIsWritable : Type 0
CompactIsWritable = (t : Tree) → IsValueTree t → IsWritable t → IsWritable (fold_templates t)

-- a value's compact tree can be written where its body is at most i64::MAX bytes
abbrev pub ShortCompactIsWritable : Type 0
ShortCompactIsWritable = (t : Tree) → IsValueTree t → CompactFits t → IsWritable (fold_templates t)

-- ---- messages

-- the compact message of a value is a message
abbrev pub CompactIsMessage : Type 0
CompactIsMessage = (n : ℕ) (t : Tree) → IsCompactReadable n t → IsMessage n 0 (fold_templates t) (compact_message t)

-- whatever follows a compact message, it is the only prefix that is a message
abbrev pub CompactIsTheFront : Type 0
CompactIsTheFront = (n c : ℕ) (t u : Tree) (a x y : List ℕ) → IsCompactReadable n t → IsMessage n c u a → compact_message t ++ x ≡ a ++ y → (compact_message t ≡ a) × (0 ≡ c) × (fold_templates t ≡ u)

-- a type that reads a value's tree as c reads its compact message, whatever follows, as c
abbrev pub CompactMeaningStays : Type 0
CompactMeaningStays = (reads : Meaning) (n k : ℕ) (t u : Tree) (a x y : List ℕ) (c : Content) → IsCompactReadable n t → IsMessage n k u a → compact_message t ++ x ≡ a ++ y → reads t ≡ Some c → reads (expand u) ≡ Some c

-- two values have one compact message exactly where they are equal
abbrev pub EqualCompactMessages : Type 0
EqualCompactMessages = (t u : Tree) → IsValueTree t → IsValueTree u → CompactFits t → CompactFits u → (compact_message t ≡ compact_message u) ↔ (t ≡ u)

-- ---- least length

-- no message that reads as a value is shorter than the value's compact message
abbrev pub LeastCompact : Type 0
LeastCompact = (n c : ℕ) (u v : Tree) (b : List ℕ) → IsMessage n c u b → ReadsAs u v → length (compact_message v) ≤ length b

-- the compact message is no longer than the canonical one
abbrev pub CompactIsNoLonger : Type 0
CompactIsNoLonger = (t : Tree) → length (compact_message t) ≤ length (canonical_message t)
