-- A message at the start of some bytes.
use Rattle.std.specs.Prelude.{◌≡◌, ◌≤◌, ℕ, ◌+◌, List, ◌++◌, length}
use Rattle.bser_format.specs.Message.{IsMessage}
use Rattle.bser_format.specs.Named.{reads, head, with_text_keys}
use Rattle.bser_format.specs.NamedLaws.{HasTextKeys}
use Rattle.bser_format.specs.Tree.{Tree}
use Rattle.bser_events.specs.Takes.{Takes}
use Rattle.bser_serde.specs.declared.message.Headed.{Headed}

-- a header of so many bytes and a body of so many are the front of the bytes: a well-formed message of at most so many levels, whose body has at most so many bytes, and all of whose keys are UTF-8
pub record HasMessage (levels most : ℕ) (bytes : List ℕ) (header len : ℕ) : Type 0 where
  pub text : List ℕ
  pub rest : List ℕ
  pub capabilities : ℕ
  pub tree : Tree
  pub front : bytes ≡ text ++ rest
  pub message : IsMessage levels capabilities tree text
  pub short : length message.body ≤ most
  pub keys : HasTextKeys tree
  pub body : length message.body ≡ len
  pub whole : length text ≡ header + len

-- a header stands before the body, which it announces with at most so many bytes
pub record HasHeader (most : ℕ) (bytes : List ℕ) (b : Headed) : Type 0 where
  pub capabilities : ℕ
  pub read : head bytes ≡ reads (capabilities, b.len) b.bytes.now
  pub short : b.len ≤ most
  pub whole : b.start + length b.bytes.now ≡ length bytes

-- a value of at most so many levels stands there, of the announced bytes
pub record IsFilled (levels : ℕ) (b : Headed) : Type 0 where
  pub rest : List ℕ
  pub value : Takes (with_text_keys levels) b.bytes.now rest
  pub whole : length rest + b.len ≡ length b.bytes.now
