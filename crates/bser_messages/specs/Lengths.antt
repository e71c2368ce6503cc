-- How long a message is, by its first bytes.
use Rattle.std.specs.Prelude.{◌≡◌, ◌≢◌, ◌⊎◌, ◌≤◌, ℕ, ◌+◌, ◌^◌, List, ◌++◌, length}
use Rattle.bser_format.specs.Tree.{Tree}
use Rattle.bser_format.specs.Message.{Head, IsMessage}
use Rattle.bser_format.specs.declared.errors.Error.{Error}
use Rattle.bser_format.specs.declared.errors.Complaint.TheVariants.{CountTooGreat}
use Rattle.bser_format.specs.Named as named
use Rattle.bser_bunser.specs.Names.{Agree}

-- a header is at the start, and it has n bytes together with the body that it announces
pub record HasLength (bytes : List ℕ) (n : ℕ) : Type 0 where
  pub capabilities : ℕ
  pub announced : ℕ
  pub text : List ℕ
  pub rest : List ℕ
  pub front : bytes ≡ text ++ rest
  pub head : Head capabilities announced text
  pub total : n ≡ length text + announced

-- each message that begins with the bytes, or that they begin with, has n bytes
abbrev pub IsLengthOfEach : List ℕ → ℕ → Type 0
IsLengthOfEach bytes n =
    (levels capabilities : ℕ) (t : Tree) (text : List ℕ)
    → IsMessage levels capabilities t text → Agree text bytes → length text ≡ n

-- the header gives this error, and not an early end
pub record RefusesHead (bytes : List ℕ) (e : Error) : Type 0 where
  pub name : named.head bytes ≡ named.refuses e
  pub whole : e ≢ named.eof

-- header and body together have more bytes than any slice
pub record TooGreat (bytes : List ℕ) (e : Error) : Type 0 where
  pub size : ℕ
  pub length : HasLength bytes size
  pub more : 2 ^ 63 ≤ size
  pub name : e ≡ named.complain CountTooGreat

-- the bytes begin with no header, or with that of too long a message
abbrev pub RefusesLength : List ℕ → Error → Type 0
RefusesLength bytes e = RefusesHead bytes e ⊎ TooGreat bytes e
