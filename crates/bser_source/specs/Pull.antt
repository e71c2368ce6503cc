-- What a reader gives to a scratch.
use Rattle.std.specs.Prelude.{◌≡◌, ℕ, List, ◌++◌, Option}
use Rattle.std.specs.Io.KnownBytes.{Consumes}

-- the bytes that a reader gave were added to those that were there
pub record Reads (before after : Option (List ℕ)) (old new : List ℕ) : Type 0 where
  pub more : List ℕ
  pub items : new ≡ old ++ more
  pub device : Consumes before after more
