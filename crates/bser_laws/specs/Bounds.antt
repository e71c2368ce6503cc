-- How much a message's body reads as.
use Rattle.std.specs.Prelude.{◌≡◌, ℕ, ◌*◌, ◌≤◌, ◌<◌, ◌^◌, List, ◌++◌, length}
use Rattle.bser_format.specs.Tree.{Tree}
use Rattle.bser_format.specs.Message.{IsMessage}
use Rattle.bser_format.specs.Canonical.{canonical_body}
use Rattle.bser_format.specs.Measures.{depth, nodes}
use Rattle.serde_bser.specs.Laws.{ReadsAs}

-- a message in front reads as the value, which has at most two values for each byte of the body, 255 levels, and a canonical body of at most the body's square
pub record IsBoundedByBody (bytes : List ℕ) (v : Tree) : Type 0 where
  pub text : List ℕ
  pub rest : List ℕ
  pub front : bytes ≡ text ++ rest
  pub capabilities : ℕ
  pub tree : Tree
  pub message : IsMessage 128 capabilities tree text
  pub read : ReadsAs tree v
  pub nodes : nodes v ≤ 2 * length message.body
  pub depth : depth v ≤ 255
  pub body : length (canonical_body v) ≤ length message.body * length message.body
  pub fits : length message.body ≤ 3037000499 → length (canonical_body v) < 2 ^ 63
