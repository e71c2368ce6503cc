-- Bytes that a reader gave, in a buffer that is kept.
use Rattle.std.specs.Prelude.{ℕ, List}

-- the bytes, and for how many there is room
pub record Held : Type 0 where
  pub bytes : List ℕ
  pub room : ℕ
