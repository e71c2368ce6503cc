-- The size that a message has.
use Rattle.std.specs.Prelude.{◌≡◌, ℕ, ℤ, List, codes, Option, option_and_then}
use Rattle.serde_bser.specs.Content.{Content, Meaning}
use Rattle.serde_bser.specs.Contents.{get, as_i64}
use Rattle.serde_bser.specs.Messages.{BeginsWith}
use Rattle.serde_bser.specs.ReadsAny.{reads_value}
use Rattle.serde_bser.specs.Tree.{Tree}
use Rattle.serde_bser.specs.Values.{Value}
use Rattle.serde_bser.specs.ValueView.{HoldsValue, tree_of}
use Rattle.example_use.specs.declared.file.File.{File}

-- the integer under the key "size" of an object
abbrev pub size_of : Tree → Option ℤ
size_of t = option_and_then as_i64 (get (codes "size") t)

-- the bytes begin with a message whose value has this size, or has none
pub record HasSize (bytes : List ℕ) (size : Option ℤ) : Type 0 where
  pub value : Value
  pub message : BeginsWith 128 reads_value HoldsValue bytes value
  pub told : size_of (tree_of value) ≡ size

-- the bytes begin with a message that is read as a file, and the file has this size
pub record IsFileOfSize (reads : Meaning) (holds : File → Content → Type 0) (bytes : List ℕ) (size : ℕ) : Type 0 where
  pub file : File
  pub message : BeginsWith 128 reads holds bytes file
  pub told : file.size ≡ size
