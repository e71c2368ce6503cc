-- The messages that types with derives are read from.
use Rattle.std.specs.Prelude.{◌≡◌, ◌≤◌, ℕ, List, ◌++◌, length, Option}
use Rattle.std.specs.Io.KnownBytes.{Consumes}
use Rattle.bser_format.specs.Message.{IsMessage}
use Rattle.bser_format.specs.NamedLaws.{HasTextKeys}
use Rattle.bser_format.specs.Tree.{Tree}
use Rattle.bser_messages.specs.declared.limits.Limits.{Limits}

-- the text is a well-formed message within the limits, all of whose keys are UTF-8
pub record IsWellFormed (limits : Limits) (text : List ℕ) : Type 0 where
  pub capabilities : ℕ
  pub tree : Tree
  pub message : IsMessage limits.levels capabilities tree text
  pub short : length message.body ≤ limits.bytes
  pub keys : HasTextKeys tree

-- a prefix of the bytes is such a message
pub record BeginsWithMessage (limits : Limits) (bytes : List ℕ) : Type 0 where
  pub text : List ℕ
  pub rest : List ℕ
  pub front : bytes ≡ text ++ rest
  pub message : IsWellFormed limits text

-- the first n bytes are such a message
abbrev pub BeginsWithMessageOf : Limits → List ℕ → ℕ → Type 0
BeginsWithMessageOf limits bytes n = (b : BeginsWithMessage limits bytes) × (length b.text ≡ n)

-- exactly such a message was taken
pub record TookMessage (limits : Limits) (old new : Option (List ℕ)) : Type 0 where
  pub text : List ℕ
  pub bytes : Consumes old new text
  pub message : IsWellFormed limits text
