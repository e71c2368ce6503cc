-- The kinds of values, by what is where they are expected.
use Rattle.std.specs.Prelude.{◌≡◌, ◌≢◌, ℕ, zero, suc, false, List, [], ◌∷◌, Option, Some, None, ◌==◌, ◌||◌, if◌then◌else◌}
use Rattle.bser_format.specs.Grammar.{Format}
use Rattle.bser_format.specs.Tree.{null}
use Rattle.bser_format.specs.Expected.{Due, Fills, nothing_due, node_due, key_due, field_due, name_due, row_due}
use Rattle.bser_format.specs.DueReaders.{Seen, tag, name, row}
use Rattle.bser_source.specs.Window.{Window, Peeks, Took}
use Rattle.bser_deserializer.specs.Dues.{IsTagged}
use Rattle.bser_deserializer.specs.State.{State, past, with_source}
use Rattle.bser_deserializer.specs.declared.node.Node.{Node}
use Rattle.bser_deserializer.specs.declared.node.Node.TheVariants as kinds

-- the entry at this place
abbrev pub entry_at : ℕ → List (Option Node) → Option Node
entry_at n [] = None
entry_at zero (k ∷ ks) = k
entry_at (suc n) (k ∷ ks) = entry_at n ks

-- the kinds of values, by their tags; a skip is none
abbrev pub tag_kinds : List (Option Node)
tag_kinds = Some kinds.Array ∷ Some kinds.Object ∷ Some kinds.Bytes ∷ Some kinds.Integer ∷ Some kinds.Integer ∷ Some kinds.Integer ∷ Some kinds.Integer
    ∷ Some kinds.Real ∷ Some kinds.Bool ∷ Some kinds.Bool ∷ Some kinds.Null ∷ Some kinds.Array ∷ None ∷ Some kinds.Text ∷ []

-- the kind of a value with this tag
abbrev pub tag_node : ℕ → Option Node
tag_node t = entry_at t tag_kinds

-- the kind of a key with this tag
abbrev pub key_node : ℕ → Option Node
key_node t = if (t == 0x02) || (t == 0x0d) then Some kinds.Key else None

-- the kind of a field with this tag
abbrev pub field_node : ℕ → Option Node
field_node t = if t == 0x0c then Some kinds.Null else tag_node t

-- the kind of what is where this is expected, or none where such a tag may not be there
abbrev pub node_at : Due → Seen → Option Node
node_at node_due (tag t) = tag_node t
node_at key_due (tag t) = key_node t
node_at field_due (tag t) = field_node t
node_at _ (tag t) = None
node_at _ (name k) = Some kinds.Key
node_at _ (row ks) = Some kinds.Object

-- what is where something is expected; a row and its keys have no tag, and of them nothing is
-- buffered
abbrev pub Stands : State → Window → Seen → Type 0
Stands s now (tag t) = IsTagged s.due × Peeks s.source now t
Stands s now (name k) = (s.due ≡ name_due k) × (s.source.failed ≡ false) × (now ≡ s.source)
Stands s now (row ks) = (s.due ≡ row_due ks) × (s.source.failed ≡ false) × (now ≡ s.source)

-- something is expected and is of this kind, and nothing is taken
pub record SeesNode (old new : State) (k : Node) : Type 0 where
  pub seen : Seen
  pub stands : Stands old new.source seen
  pub kind : node_at old.due seen ≡ Some k
  pub state : new ≡ with_source old new.source

-- a tag that may be where this is expected; a row and its keys have none
abbrev pub BeginsNode : Due → Format
BeginsNode nothing_due b = ⊥
BeginsNode node_due b = (t : ℕ) × (k : Node) × (b ≡ t ∷ []) × (tag_node t ≡ Some k)
BeginsNode key_due b = (t : ℕ) × (k : Node) × (b ≡ t ∷ []) × (key_node t ≡ Some k)
BeginsNode field_due b = (t : ℕ) × (k : Node) × (b ≡ t ∷ []) × (field_node t ≡ Some k)
BeginsNode (name_due k) b = b ≡ []
BeginsNode (row_due ks) b = b ≡ []

-- the null that was expected was taken
pub record TookNull (old new : State) : Type 0 where
  pub text : List ℕ
  pub filled : Fills old.levels old.due null text
  pub took : Took old.source new.source text
  pub state : new ≡ past old new.source

-- another kind of value is expected, and nothing is taken
pub record IsOther (old new : State) : Type 0 where
  pub kind : Node
  pub sees : SeesNode old new kind
  pub other : kind ≢ kinds.Null
