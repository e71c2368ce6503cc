-- What a device shows of itself: what it took, and a count of failures, which stays at the greatest
-- u64.
use Rattle.std.specs.Prelude.{◌≡◌, ℕ, ◌+◌, ◌-◌, ◌^◌, ◌<◌, ◌≤◌, max, min, nat_lt, ◌&&◌, ◌⊎◌, Bool, true, if◌then◌else◌, MatchResult, Result, Ok, Err, List, length}

-- one failure more, where the count is below the greatest u64
abbrev pub one_more : ℕ → ℕ
one_more n = if nat_lt n (2 ^ 64 - 1) then n + 1 else n

-- an error of a reader raises the count, and all else keeps it
abbrev pub PullCounts : {E : Type 0} → ℕ → ℕ → Result ℕ E → Type 0
PullCounts old new r = MatchResult r (λ _. new ≡ old) (λ _. new ≡ one_more old)

-- whether a writer's answer is a failure: an error, or nothing taken of something
abbrev pub has_failed : {E : Type 0} → Result ℕ E → List ℕ → Bool
has_failed (Ok n) bytes = nat_lt n 1 && nat_lt 0 (length bytes)
has_failed (Err e) bytes = true

-- the count after an answer
abbrev pub counted : Bool → ℕ → ℕ
counted failed n = if failed then one_more n else n

-- the device failed between the two counts, or had failed too often to count
abbrev pub Blamed : ℕ → ℕ → Type 0
Blamed before after = (before < after) ⊎ (2 ^ 64 - 1 ≤ before)

-- a count of bytes that stops at the greatest usize
abbrev pub counts_to : ℕ → ℕ → ℕ
counts_to n k = max n (min (n + k) (2 ^ 64 - 1))
