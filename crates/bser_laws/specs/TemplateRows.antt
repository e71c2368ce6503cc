-- A template, and its rows written out as objects.
use Rattle.std.specs.Prelude.{◌≡◌, ℕ, ◌<◌, ◌^◌, List, [], ◌∷◌, ◌++◌, length, Some}
use Rattle.std.specs.Int.{w32, to_le_bytes}
use Rattle.bser_format.specs.Tree.{Tree, Rows, template}
use Rattle.bser_format.specs.Grammar.{Bytes, SpellsCount, ◌then◌}
use Rattle.bser_format.specs.Message.{IsMessage}
use Rattle.bser_format.specs.Content.{Content, Meaning}
use Rattle.bser_format.specs.Expand.{expand}
use Rattle.bser_format.specs.WrittenOut.{written_out}

-- a message's frame with these capabilities, round this body
pub record IsFrameOf (capabilities : ℕ) (body b : List ℕ) : Type 0 where
  pub fits : capabilities < 2 ^ 32
  pub whole : (Bytes (0x00 ∷ 0x02 ∷ []) then Bytes (to_le_bytes w32 capabilities) then SpellsCount (length body) then Bytes body) b
  pub short : length b < 2 ^ 63

-- the first bytes begin with a message of a template of at most n levels, and the second with a message whose body is that template's written out
pub record IsWrittenOut (n : ℕ) (first second : List ℕ) : Type 0 where
  pub text : List ℕ
  pub rest : List ℕ
  pub front : first ≡ text ++ rest
  pub capabilities : ℕ
  pub keys : List (List ℕ)
  pub rows : Rows
  pub message : IsMessage n capabilities (template keys rows) text
  pub out : List ℕ
  pub out_rest : List ℕ
  pub out_front : second ≡ out ++ out_rest
  pub out_capabilities : ℕ
  pub out_message : IsFrameOf out_capabilities (written_out n keys rows message.body message.value) out

-- the template
abbrev pub template_of : {n : ℕ} {first second : List ℕ} → IsWrittenOut n first second → Tree
template_of w = template w.keys w.rows

-- both values hold the one content that the tree reads as
pub record HoldOne {A : Type 0} (reads : Meaning) (holds : A → Content → Type 0) (t : Tree) (v w : A) : Type 0 where
  pub content : Content
  pub read : reads (expand t) ≡ Some content
  pub first : holds v content
  pub second : holds w content
