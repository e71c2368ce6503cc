-- The events that a document keeps.
use Rattle.std.specs.Prelude.{◌≡◌, ℕ, ◌+◌, List, [], ◌∷◌, ◌++◌, length, map, Some}
use Rattle.bser_format.specs.Tree.{Tree}
use Rattle.bser_format.specs.Expand.{expand}
use Rattle.bser_format.specs.Normal.{normal}
use Rattle.bser_format.specs.Content.{Content, value}
use Rattle.bser_format.specs.ValueTree.{IsValueTree}
use Rattle.bser_events.specs.Events.{Event, events}
use Rattle.bser_deserializer.specs.WholeRows.{HasWholeRows}
use Rattle.bser_document.specs.Whole.{value_in}
use Rattle.bser_document.specs.declared.document.Document.{Document}
use Rattle.bser_document.specs.declared.builder.DocumentBuilder.{DocumentBuilder}
pub use Rattle.bser_document.specs.Nodes.{piece, event_of, IsInside, IsText, Within, string_len, string_lens, weight, Shows, end_of, Marks, with_end, change, closed, noted, innermost, begun, mark, marks, unmarked, Marked, Linked, ClosesTo, ClosesNodes, SameEvents}

-- the same of a builder
abbrev pub Closes : DocumentBuilder → DocumentBuilder → Type 0
Closes old new = ClosesNodes old.nodes.items new.nodes.items old.innermost new.innermost

-- what was reported up to now
pub record Views (b : DocumentBuilder) (es : List Event) : Type 0 where
  pub shows : Shows b.nodes.items b.strings.items es
  pub marked : Marked b.nodes.items b.innermost es

-- all that was reported is the events of one tree, of which a value is read
pub record ViewsValue (b : DocumentBuilder) : Type 0 where
  pub tree : Tree
  pub read : Tree
  pub normal : normal (expand tree) ≡ Some read
  pub values : IsValueTree read
  pub rows : HasWholeRows tree
  pub views : Views b (events tree)

-- the nodes of a document mean these events, and have their ends
pub record ViewsDocument (d : Document) (es : List Event) : Type 0 where
  pub shows : Shows d.nodes.items d.strings.items es
  pub ends : map end_of d.nodes.items ≡ (marks es unmarked).ends

-- an event was taken
abbrev pub Takes : DocumentBuilder → Event → DocumentBuilder → Type 0
Takes old e new = (es : List Event) → Views old es → Views new (es ++ e ∷ [])

-- a document holds the value of a tree whose events it keeps
pub record HoldsDocument (d : Document) (c : Content) : Type 0 where
  pub tree : Tree
  pub read : Tree
  pub normal : normal (expand tree) ≡ Some read
  pub values : IsValueTree read
  pub rows : HasWholeRows tree
  pub views : ViewsDocument d (events tree)
  pub same : c ≡ value read

-- the value that a document holds
abbrev pub value_of : Document → Tree
value_of d = value_in d.nodes.items d.strings.items

-- how many nodes a document has, and how many bytes of strings
abbrev pub weight_of : Document → ℕ
weight_of d = length d.nodes.items + length d.strings.items
