-- What a slice and a reader of the same bytes are read as.
use Rattle.std.specs.Prelude.{◌≡◌, ◌⊎◌, ℕ, List, ◌++◌, Option, Some, None}
use Rattle.bser_format.specs.Content.{Content, Meaning}
use Rattle.bser_format.specs.Expected.{node_due}
use Rattle.bser_format.specs.declared.errors.Error.{Error}
use Rattle.bser_format.specs.declared.errors.Error.TheVariants.{OutOfMemory}
use Rattle.bser_format.specs.Named as named
use Rattle.serde_bser.specs.Messages.{ReadsMessageAs, IsOutside}
use Rattle.serde_bser.specs.Reading.{Asking}

-- both values hold the content of one message in front of the bytes, and what follows it is left
pub record ReadAlike {A : Type 0} (n : ℕ) (reads : Meaning) (holds : A → Content → Type 0) (bytes : List ℕ) (left : Option (List ℕ)) (v w : A) : Type 0 where
  pub text : List ℕ
  pub rest : List ℕ
  pub front : bytes ≡ text ++ rest
  pub content : Content
  pub message : ReadsMessageAs n reads text content
  pub first : holds v content
  pub second : holds w content
  pub behind : left ≡ Some rest

-- two refusals have one name, where the type tells of names, or one has a reason outside the bytes
abbrev pub SameName : {R : Meaning} → ℕ → Option (Asking R) → List ℕ → ℕ → ℕ → Error → Error → Type 0
SameName n None bytes before after e f = Unit {0}
SameName n (Some a) bytes before after e f =
    (e ≡ f) ⊎ (e ≡ OutOfMemory) ⊎ IsOutside (named.message (a.asks 0 n node_due)) (Some bytes) before after f
