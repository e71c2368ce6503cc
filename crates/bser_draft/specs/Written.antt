-- The messages that are written part by part.
use Rattle.std.specs.Prelude.{◌≡◌, ℕ, List}
use Rattle.bser_format.specs.Tree.{Tree}
use Rattle.bser_format.specs.Canonical.{canonical_message}
use Rattle.bser_format.specs.Expand.{IsTemplateFree}
use Rattle.bser_format.specs.Message.{IsMessage}
use Rattle.bser_deserializer.specs.declared.deserializer.TheConstants.{LEVELS}

-- the text is a message of at most 128 levels, without capabilities and without templates, each
-- integer, length and count in its least width
pub record IsLeastMessage (text : List ℕ) : Type 0 where
  pub tree : Tree
  pub message : IsMessage LEVELS 0 tree text
  pub plain : IsTemplateFree tree
  pub least : text ≡ canonical_message tree
