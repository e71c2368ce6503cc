-- The laws of the format, over the trees of values.
use Rattle.std.specs.Prelude.{◌≡◌, ◌↔◌, ◌≤◌, ◌<◌, ◌^◌, ◌*◌, ◌-◌, ℕ, suc, List, ◌++◌, length, Option, Some, option_map}
use Rattle.bser_format.specs.Tree.{Tree, Rows, template}
use Rattle.bser_format.specs.Grammar.{Spells}
use Rattle.bser_format.specs.Message.{IsMessage}
use Rattle.bser_format.specs.Expand.{expand, IsTemplateFree}
use Rattle.bser_format.specs.Content.{Content, Meaning}
use Rattle.bser_format.specs.Normal.{normal}
use Rattle.bser_format.specs.Measures.{depth, nodes}
use Rattle.bser_format.specs.Canonical.{canonical_body, canonical_message, IsWritable}
use Rattle.bser_format.specs.ValueTree.{IsValueTree}
use Rattle.bser_format.specs.WrittenOut.{written_out, row_objects}
use Rattle.bser_messages.specs.Sizes.{key_bytes}
use Rattle.bser_document.specs.declared.item.Item.{Item}
use Rattle.bser_document.specs.Holds.{HoldsItem, item_value}
use Rattle.bser_document.specs.Pairs.{FindsItem}

-- the body is at most i64::MAX bytes
abbrev pub BodyFits : Tree → Type 0
BodyFits t = length (canonical_body t) < 2 ^ 63

-- a value of at most n levels, whose message is at most i64::MAX bytes
abbrev pub IsReadable : ℕ → Tree → Type 0
IsReadable n t = IsValueTree t × (depth t ≤ n) × (length (canonical_message t) < 2 ^ 63)

-- the tree t reads as the value v
abbrev pub ReadsAs : Tree → Tree → Type 0
ReadsAs t v = normal (expand t) ≡ Some v

-- ---- messages

-- the canonical message of a value is a message
abbrev pub CanonicalIsMessage : Type 0
CanonicalIsMessage = (n : ℕ) (t : Tree) → IsReadable n t → IsMessage n 0 t (canonical_message t)

-- whatever follows a canonical message, it is the only prefix that is a message
abbrev pub CanonicalIsTheFront : Type 0
CanonicalIsTheFront = (n c : ℕ) (t u : Tree) (a x y : List ℕ) → IsReadable n t → IsMessage n c u a → canonical_message t ++ x ≡ a ++ y → (canonical_message t ≡ a) × (0 ≡ c) × (t ≡ u)

-- the tree of a value reads as that value
abbrev pub ValueReadsAsItself : Type 0
ValueReadsAsItself = (t : Tree) → IsValueTree t → ReadsAs t t

-- two values have one canonical message exactly where they are equal
abbrev pub EqualMessages : Type 0
EqualMessages = (t u : Tree) → IsValueTree t → IsValueTree u → BodyFits t → BodyFits u → (canonical_message t ≡ canonical_message u) ↔ (t ≡ u)

-- the canonical message of what a canonical message reads as is that message
abbrev pub TwiceIsOnce : Type 0
TwiceIsOnce = (n c : ℕ) (t u v : Tree) (a x y : List ℕ) → IsReadable n t → IsMessage n c u a → canonical_message t ++ x ≡ a ++ y → ReadsAs u v → canonical_message v ≡ canonical_message t

-- ---- what is read, and what any type writes

-- what a message reads as is the tree of a value
abbrev pub ReadIsValueTree : Type 0
ReadIsValueTree = (n c : ℕ) (u v : Tree) (b : List ℕ) → IsMessage n c u b → ReadsAs u v → IsValueTree v

-- a tree without templates that can be written, of at most n levels, whose message is at most i64::MAX bytes
abbrev pub IsReturned : ℕ → Tree → Type 0
IsReturned n t = IsTemplateFree t × IsWritable t × (depth t ≤ n) × (length (canonical_message t) < 2 ^ 63)

-- the tree of a value is such a tree
abbrev pub ValueIsReturned : Type 0
ValueIsReturned = (n : ℕ) (t : Tree) → IsReadable n t → IsReturned n t

-- the canonical message of such a tree is a message
abbrev pub WrittenIsMessage : Type 0
WrittenIsMessage = (n : ℕ) (t : Tree) → IsReturned n t → IsMessage n 0 t (canonical_message t)

-- whatever follows it, it is the only prefix that is a message
abbrev pub WrittenIsTheFront : Type 0
WrittenIsTheFront = (n c : ℕ) (t u : Tree) (a x y : List ℕ) → IsReturned n t → IsMessage n c u a → canonical_message t ++ x ≡ a ++ y → (canonical_message t ≡ a) × (0 ≡ c) × (t ≡ u)

-- a tree without templates means itself
abbrev pub StandsForItself : Type 0
StandsForItself = (t : Tree) → IsTemplateFree t → expand t ≡ t

-- a type that reads such a tree as c reads its canonical message, whatever follows, as c
abbrev pub MeaningStays : Type 0
MeaningStays = (reads : Meaning) (n k : ℕ) (t u : Tree) (a x y : List ℕ) (c : Content) → IsReturned n t → IsMessage n k u a → canonical_message t ++ x ≡ a ++ y → reads t ≡ Some c → reads (expand u) ≡ Some c

-- ---- bounds

-- no message without templates that reads as a value is shorter than the value's canonical message
abbrev pub LeastLength : Type 0
LeastLength = (n c : ℕ) (u v : Tree) (b : List ℕ) → IsMessage n c u b → IsTemplateFree u → ReadsAs u v → length (canonical_message v) ≤ length b

-- a value has at most two values for each byte of its body
abbrev pub NodesBound : Type 0
NodesBound = (n : ℕ) (u v : Tree) (b : List ℕ) → Spells n u b → ReadsAs u v → nodes v ≤ 2 * length b

-- a value has no more values, bytes of keys and levels than the tree that reads as it, its templates
-- written out
abbrev pub SizeBoundsValue : Type 0
SizeBoundsValue = (t v : Tree) → ReadsAs t v → (nodes v ≤ nodes (expand t)) × (key_bytes v ≤ key_bytes (expand t)) × (depth v ≤ depth (expand t))

-- the canonical body is at most the square of the body's length
abbrev pub BodyBound : Type 0
BodyBound = (n : ℕ) (u v : Tree) (b : List ℕ) → Spells n u b → ReadsAs u v → length (canonical_body v) ≤ length b * length b

-- a value is not as deep as twice the levels, and has no depth where there is no level
abbrev pub DepthBound : Type 0
DepthBound = (n : ℕ) (u v : Tree) (b : List ℕ) → Spells n u b → ReadsAs u v → depth v ≤ 2 * n - 1

-- what reads from a body of at most 3037000499 bytes can be written
abbrev pub ShortBodiesFit : Type 0
ShortBodiesFit = (n : ℕ) (u v : Tree) (b : List ℕ) → Spells n u b → ReadsAs u v → length b ≤ 3037000499 → BodyFits v

-- ---- templates written out

-- a template's spelling, written out, spells the array of its rows with one level more
abbrev pub WrittenOutIsSpelled : Type 0
WrittenOutIsSpelled = (n : ℕ) (ks : List (List ℕ)) (rs : Rows) (b : List ℕ) (h : Spells n (template ks rs) b) → Spells (suc n) (row_objects ks rs) (written_out n ks rs b h)

-- a template's spelling, written out, spells no other tree
abbrev pub WrittenOutIsOneTree : Type 0
WrittenOutIsOneTree = (n : ℕ) (ks : List (List ℕ)) (rs : Rows) (b : List ℕ) (h : Spells n (template ks rs) b) (u : Tree) → Spells (suc n) u (written_out n ks rs b h) → row_objects ks rs ≡ u

-- a template and the array of its rows have one expansion, so every type reads both alike
abbrev pub WrittenOutReadsAlike : Type 0
WrittenOutReadsAlike = (ks : List (List ℕ)) (rs : Rows) → expand (row_objects ks rs) ≡ expand (template ks rs)

-- ---- parts of a document

-- an item that holds a value is written as that value
abbrev pub HeldIsWritten : Type 0
HeldIsWritten = (i : Item) (u : Tree) → HoldsItem i u → item_value i ≡ u

-- where a value is found, it is what the item is written as, and where none is, there is no item
abbrev pub FoundIsWritten : Type 0
FoundIsWritten = (v : Option Tree) (found : Option Item) → FindsItem v found → option_map item_value found ≡ v
