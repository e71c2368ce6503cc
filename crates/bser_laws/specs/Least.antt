-- Messages that are no longer than others.
use Rattle.std.specs.Prelude.{◌≡◌, ◌⊎◌, ℕ, ◌≤◌, List, ◌++◌, length, Option, Ok}
use Rattle.bser_format.specs.Tree.{Tree}
use Rattle.bser_format.specs.Message.{IsMessage}
use Rattle.bser_format.specs.Content.{Meaning}
use Rattle.bser_format.specs.declared.errors.Error.{Error}
use Rattle.bser_ser.specs.Message.{IsUnmeasured}
use Rattle.bser_value.specs.declared.value.Value.{Value}
use Rattle.serde_bser.specs.Laws.{ReadsAs}
use Rattle.serde_bser.specs.Messages.{BeginsWith, RefusesSlice}
use Rattle.serde_bser.specs.Reading.{Asking, Needs}
use Rattle.serde_bser.specs.ValueView.{HoldsValue, tree_of}

-- any tree
abbrev pub IsAny : Tree → Type 0
IsAny t = Unit {0}

-- no message of such a tree that reads as the value is shorter
abbrev pub IsLeast : (Tree → Type 0) → Tree → List ℕ → Type 0
IsLeast P v written = (n c : ℕ) (u : Tree) (b : List ℕ) → IsMessage n c u b → P u → ReadsAs u v → length written ≤ length b

-- what is written is the message of the value that the message in front reads as, and is no longer than that one, if its tree is such
pub record Rewritten (message_of : Tree → List ℕ) (P : Tree → Type 0) (bytes written : List ℕ) : Type 0 where
  pub text : List ℕ
  pub rest : List ℕ
  pub front : bytes ≡ text ++ rest
  pub capabilities : ℕ
  pub tree : Tree
  pub message : IsMessage 128 capabilities tree text
  pub value : Tree
  pub read : ReadsAs tree value
  pub is : written ≡ message_of value
  pub short : P tree → length written ≤ length text

-- the bytes are refused, or the value that their message reads as has no message in this form
abbrev pub IsNotRewritten : (Tree → Tree) → (reads : Meaning) → Option (Asking reads) → Needs → List ℕ → Error → Type 0
IsNotRewritten form reads asks needs bytes e =
    RefusesSlice 128 reads asks needs e bytes ⊎ ((v : Value) × BeginsWith 128 reads HoldsValue bytes v × IsUnmeasured (Ok (form (tree_of v))) e)
