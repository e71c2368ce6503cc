-- What the first bytes of a message show of how long its header is.
use Rattle.std.specs.Prelude.{◌≡◌, ◌≤◌, ◌<◌, ℕ, List, [], ◌++◌, length}
use Rattle.bser_format.specs.Message.{Head}
use Rattle.bser_format.specs.Named.{head, refuses, eof}
use Rattle.bser_messages.specs.Lengths.{HasLength}

-- the bytes are a header and as many more as it announces
abbrev pub IsFrame : List ℕ → Type 0
IsFrame bytes = HasLength bytes (length bytes)

-- each message that begins with these bytes has at least n
abbrev pub AtLeast : List ℕ → ℕ → Type 0
AtLeast bytes n = (more : List ℕ) (k : ℕ) → HasLength (bytes ++ more) k → n ≤ k

-- the header of each message that begins with these bytes has at least n
abbrev pub HeaderAtLeast : List ℕ → ℕ → Type 0
HeaderAtLeast bytes n =
    (c k : ℕ) (text more rest : List ℕ) → Head c k text → bytes ++ more ≡ text ++ rest → n ≤ length text

-- how long the header is, as far as the bytes show
pub record IsHeaderLength (bytes : List ℕ) (n : ℕ) : Type 0 where
  pub least : HeaderAtLeast bytes n
  pub whole : (c k : ℕ) (text rest : List ℕ) → Head c k text → bytes ≡ text ++ rest → n ≡ length text
  pub cut : head bytes ≡ refuses eof → length bytes < n
  pub most : n ≤ 15

-- exactly a header, which announces so many bytes
abbrev pub Announces : List ℕ → ℕ → Type 0
Announces bytes k = (c : ℕ) × Head c k bytes

-- what came of a message that is due: no more than it has, and nothing of a body of more than
-- `most` bytes
pub record IsDue (most : ℕ) (came : List ℕ) : Type 0 where
  pub least : AtLeast came (length came)
  pub short : (c k : ℕ) (text rest : List ℕ) → Head c k text → came ≡ text ++ rest → most < k → rest ≡ []
