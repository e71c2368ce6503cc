-- What was read as a document.
use Rattle.std.specs.Prelude.{◌≡◌, ◌≤◌, ℕ, ◌+◌, List, length, Some}
use Rattle.bser_format.specs.Tree.{Tree}
use Rattle.bser_format.specs.Expand.{expand}
use Rattle.bser_format.specs.Normal.{normal}
use Rattle.bser_format.specs.Expected.{node_due, Fills}
use Rattle.bser_format.specs.Grammar.{Spells}
use Rattle.bser_format.specs.ValueTree.{IsValueTree}
use Rattle.bser_events.specs.Events.{events}
use Rattle.bser_source.specs.Window.{Took}
use Rattle.bser_deserializer.specs.State.{State, past}
use Rattle.bser_deserializer.specs.Seen.{Seen}
use Rattle.bser_deserializer.specs.WholeRows.{HasWholeRows}
use Rattle.bser_document.specs.declared.document.Document.{Document}
use Rattle.bser_document.specs.DocumentView.{ViewsDocument}

-- what was expected was taken, and the document keeps the events of its tree
pub record TookDocument (old new : State) (d : Document) : Type 0 where
  pub tree : Tree
  pub read : Tree
  pub text : List ℕ
  pub filled : Fills old.levels old.due (expand tree) text
  -- a value is kept as it is spelled
  pub spelled : old.due ≡ node_due → Spells old.levels tree text
  pub normal : normal (expand tree) ≡ Some read
  pub values : IsValueTree read
  pub rows : HasWholeRows tree
  pub views : ViewsDocument d (events tree)
  -- no more is kept of a value than its bytes
  pub linear : old.due ≡ node_due → length d.nodes.items + length d.strings.items ≤ length text
  pub took : Took old.source new.source text
  pub state : new ≡ past old new.source

-- what was expected is read, and kept as it is spelled
abbrev pub ReadsDocument : Seen → Seen → Document → Type 0
ReadsDocument old new d = TookDocument old.state new.state d
