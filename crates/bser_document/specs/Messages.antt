-- Whole messages that are kept as documents.
use Rattle.std.specs.Prelude.{◌≡◌, ◌≤◌, ℕ, ◌+◌, List, ◌++◌, length, Option, Some, None}
use Rattle.std.specs.Io.KnownBytes.{Consumes}
use Rattle.bser_format.specs.Expand.{expand}
use Rattle.bser_format.specs.Message.{IsMessage}
use Rattle.bser_format.specs.Normal.{normal}
use Rattle.bser_format.specs.Tree.{Tree}
use Rattle.bser_events.specs.Events.{events}
use Rattle.bser_messages.specs.Streams.{StaysAtEnd}
use Rattle.bser_messages.specs.declared.limits.Limits.{Limits}
use Rattle.bser_document.specs.declared.document.Document.{Document}
use Rattle.bser_document.specs.DocumentView.{ViewsDocument, value_of}

-- the text is a message within the limits, and the document keeps its tree as it is spelled: no more
-- nodes and bytes of strings, counted together, than the body has bytes
pub record KeepsMessage (limits : Limits) (text : List ℕ) (d : Document) : Type 0 where
  pub capabilities : ℕ
  pub tree : Tree
  pub message : IsMessage limits.levels capabilities tree text
  pub short : length message.body ≤ limits.bytes
  pub views : ViewsDocument d (events tree)
  pub value : normal (expand tree) ≡ Some (value_of d)
  pub linear : length d.nodes.items + length d.strings.items ≤ length message.body

-- the document keeps the message that a prefix of the bytes is
pub record BeginsWithKept (limits : Limits) (bytes : List ℕ) (d : Document) : Type 0 where
  pub text : List ℕ
  pub rest : List ℕ
  pub front : bytes ≡ text ++ rest
  pub keeps : KeepsMessage limits text d

-- the document keeps exactly the message that was taken
pub record TookKept (limits : Limits) (old new : Option (List ℕ)) (d : Document) : Type 0 where
  pub text : List ℕ
  pub bytes : Consumes old new text
  pub keeps : KeepsMessage limits text d

-- the next message was kept, or nothing was left
abbrev pub IsNextKept : Limits → Option (List ℕ) → Option (List ℕ) → Option Document → Type 0
IsNextKept limits old new None = StaysAtEnd old new
IsNextKept limits old new (Some d) = TookKept limits old new d
