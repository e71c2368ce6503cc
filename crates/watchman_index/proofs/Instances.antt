-- What stands before a clock's last colon.
use Rattle.std.proofs.Common.{◌≡◌, ◌≢◌, ℕ, ◌+◌, ◌-◌, ◌<◌, ◌≤◌, List, [], length, get_or, take, ap, ◌∙◌, All, arith}
use Rattle.std.specs.Prelude.{not, ◌==◌}
use Rattle.std.specs.List.{suffix_len}
use Rattle.std.proofs.lemmas.Bool.{eq-eqb, ne_eqb}
use Rattle.std.proofs.lemmas.List.Elements.{All-get_or}
use Rattle.std.proofs.lemmas.List.Sums.{suffix_len_is}
use Rattle.watchman_index.specs.Clocks.{colon, instance_of}

-- the byte is no colon
abbrev pub IsNoColon : ℕ → Type 0
IsNoColon b = b ≢ colon

pub instance_at_last : (xs : List ℕ) (i : ℕ) → i < length xs → get_or xs i 0 ≡ colon
    → ((k : ℕ) → i + 1 ≤ k → k < length xs → get_or xs k 0 ≢ colon) → instance_of xs ≡ take i xs
instance_at_last xs i inside here after =
    let last : i + 1 - 1 ≡ i = omega arith in
    let behind : suffix_len (λ b. not (b == colon)) xs ≡ length xs - (i + 1)
    = suffix_len_is (λ b. not (b == colon)) xs (i + 1) 0 (omega arith)
    (λ k from below. ap not (ne_eqb (get_or xs k 0) colon (after k from below)))
    (λ _. ap (λ j. not (get_or xs j 0 == colon)) last ∙ ap not (eq-eqb (get_or xs i 0) colon here)) in
    let place : length xs - suffix_len (λ b. not (b == colon)) xs - 1 ≡ i = omega arith in
    ap (λ n. take n xs) place

pub instance_without_colon : (xs : List ℕ) → All IsNoColon xs → instance_of xs ≡ []
instance_without_colon xs none =
    let behind : suffix_len (λ b. not (b == colon)) xs ≡ length xs - 0
    = suffix_len_is (λ b. not (b == colon)) xs 0 0 (omega arith)
    (λ k from below. ap not (ne_eqb (get_or xs k 0) colon (All-get_or IsNoColon xs k 0 below none)))
    (λ l. absurd (omega arith)) in
    let place : length xs - suffix_len (λ b. not (b == colon)) xs - 1 ≡ 0 = omega arith in
    ap (λ n. take n xs) place
