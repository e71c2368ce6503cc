-- The least spelling of an integer, size by size, and how it comes to stand in a buffer.
use Rattle.std.proofs.Common.{◌≡◌, ℕ, ℤ, suc, ◌<◌, ◌≤◌, ◌^◌, true, false, nat_lt, List, [], ◌∷◌, ◌++◌, length, take, slice_set, refl, ap, arith, append_assoc}
use Rattle.std.proofs.lemmas.Grind.{common_steps}
use Rattle.bser_format.specs.Grammar.{int8, int16, int32, int64, int_bytes}
use Rattle.bser_format.specs.Canonical.{least_integer, least_count, is_within}

pub least_int8 : (v : ℤ) → is_within (2 ^ 7) v ≡ true → least_integer v ≡ int_bytes int8 v
unfolding least_integer
least_int8 v a = rw a

pub least_int16 : (v : ℤ) → is_within (2 ^ 7) v ≡ false → is_within (2 ^ 15) v ≡ true → least_integer v ≡ int_bytes int16 v
unfolding least_integer
least_int16 v a b = rw (a, b)

pub least_int32 : (v : ℤ) → is_within (2 ^ 7) v ≡ false → is_within (2 ^ 15) v ≡ false → is_within (2 ^ 31) v ≡ true → least_integer v ≡ int_bytes int32 v
unfolding least_integer
least_int32 v a b c = rw (a, b, c)

pub least_int64 : (v : ℤ) → is_within (2 ^ 7) v ≡ false → is_within (2 ^ 15) v ≡ false → is_within (2 ^ 31) v ≡ false → least_integer v ≡ int_bytes int64 v
unfolding least_integer
least_int64 v a b c = rw (a, b, c)

-- a count below 128 takes two bytes
pub short_count : (n : ℕ) → n < 128 → least_count n ≡ 3 ∷ n ∷ []
unfolding least_integer
short_count n h =
    let within : nat_lt n 128 ≡ true = grind (arith, h) in
    rw (within) (ap (λ (m : ℕ). 3 ∷ m ∷ []) (omega (arith, h)))

-- a tag and a byte, at the front of a buffer
pub two_set : (xs : List ℕ) (a b : ℕ) → 2 ≤ length xs → take 2 (slice_set (slice_set xs 0 a) 1 b) ≡ a ∷ b ∷ []
two_set [] a b h = absurd (omega arith)
two_set (x ∷ []) a b h = absurd (omega arith)
two_set (x ∷ y ∷ xs) a b h = refl

take_front : (xs ys : List ℕ) → take (length xs) (xs ++ ys) ≡ xs
take_front xs ys = grind (arith, common_steps)

-- a tag, and bytes that were written after it
pub tag_set : (xs ys bytes rest post : List ℕ) (tag k n : ℕ) → 0 < length xs → ys ≡ bytes ++ rest → length bytes ≡ k → n ≡ suc k
    → take n (take 1 (slice_set xs 0 tag) ++ (ys ++ post)) ≡ tag ∷ bytes
tag_set [] ys bytes rest post tag k n h e l m = absurd (omega arith)
tag_set (x ∷ xs) ys bytes rest post tag k n h e l m = rw (m, ← l, e, append_assoc) (ap (λ zs. tag ∷ zs) (take_front bytes (rest ++ post)))
