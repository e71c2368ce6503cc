-- Bytes at the front of a slice.
use Rattle.std.specs.Prelude.{◌≡◌, ◌≤◌, ◌<◌, ◌+◌, ℕ, List, ◌++◌, length, take, Option, Some, None}
use Rattle.bser_c.specs.declared.front.Front.{Front}

-- the bytes that stand there
abbrev pub bytes_in : Front → List ℕ
bytes_in f = take f.len f.out.now

-- these bytes were put behind those that were there
pub record Put (old new : Front) (bytes : List ℕ) : Type 0 where
  pub through : new.out.ghost_name ≡ old.out.ghost_name
  pub room : length new.out.now ≡ length old.out.now
  pub longer : new.len ≡ old.len + length bytes
  pub fits : new.len ≤ length new.out.now
  pub put : bytes_in new ≡ bytes_in old ++ bytes

-- they were put, or have no room there
abbrev pub Puts : {A : Type 0} → Front → Front → List ℕ → Option A → Type 0
Puts old new bytes (Some done) = Put old new bytes
Puts old new bytes None = length old.out.now < old.len + length bytes
