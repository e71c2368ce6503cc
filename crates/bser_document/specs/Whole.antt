-- What holds of the nodes and strings of every document: they are those of one tree, as a value is read from.
use Rattle.std.specs.Prelude.{◌≡◌, ℕ, List, length, map, Some, unwrap_or}
use Rattle.std.specs.List.{AllByRecursion}
use Rattle.bser_format.specs.Tree.{Tree, null}
use Rattle.bser_format.specs.Expand.{expand}
use Rattle.bser_format.specs.Normal.{normal}
use Rattle.bser_format.specs.ValueTree.{IsValueTree}
use Rattle.bser_events.specs.Events.{events}
use Rattle.bser_deserializer.specs.WholeRows.{HasWholeRows}
use Rattle.bser_document.specs.declared.document.DocumentNode.{DocumentNode}
use Rattle.bser_document.specs.Nodes.{event_of, Within, string_lens, end_of, marks, unmarked}
use Rattle.bser_document.specs.Spelled.{tree_told}

-- the tree of these nodes over these strings, as it is spelled
abbrev pub tree_in : List DocumentNode → List ℕ → Tree
tree_in ns s = tree_told (map (event_of s) ns)

-- the value that is read of that tree, and null where it is none
abbrev pub value_in : List DocumentNode → List ℕ → Tree
value_in ns s = unwrap_or (normal (expand (tree_in ns s))) null

-- ---- what is known

-- the nodes mean the events of their tree, and no others
abbrev pub TellsTree : List DocumentNode → List ℕ → Type 0
TellsTree ns s = map (event_of s) ns ≡ events (tree_in ns s)

-- each string lies within the bytes, and texts and keys are UTF-8
abbrev pub HoldsStrings : List DocumentNode → List ℕ → Type 0
HoldsStrings ns s = AllByRecursion (Within s) ns

-- there is no byte beside those of the tree's strings
abbrev pub HoldsNoMore : List DocumentNode → List ℕ → Type 0
HoldsNoMore ns s = length s ≡ string_lens (events (tree_in ns s))

-- each container has the place behind it as its end
abbrev pub HasEnds : List DocumentNode → List ℕ → Type 0
HasEnds ns s = map end_of ns ≡ (marks (events (tree_in ns s)) unmarked).ends

-- each row of each template has a field for each key
abbrev pub HasWholeRowsIn : List DocumentNode → List ℕ → Type 0
HasWholeRowsIn ns s = HasWholeRows (tree_in ns s)

-- a value is read of the tree
abbrev pub ReadsValue : List DocumentNode → List ℕ → Type 0
ReadsValue ns s = normal (expand (tree_in ns s)) ≡ Some (value_in ns s)

-- it has what each value has: numbers in their ranges, texts in UTF-8, and keys once, in rising order
abbrev pub HoldsValueTree : List DocumentNode → List ℕ → Type 0
HoldsValueTree ns s = IsValueTree (value_in ns s)
