-- What stands behind a name's last dot.
use Rattle.std.proofs.Common.{◌≡◌, ◌≢◌, ◌+◌, ◌<◌, ◌≤◌, ℕ, zero, suc, Bool, true, false, List, [], ◌∷◌, length, get_or, drop, All, refl, ap, ◌∙◌, arith}
use Rattle.std.specs.Prelude.{Some, None, not, if◌then◌else◌, ◌==◌, ◌&&◌, ◌||◌}
use Rattle.std.specs.Option.{option_or}
use Rattle.std.proofs.lemmas.Bool.{eq-eqb}
use Rattle.std.proofs.lemmas.List.Elements.{All-get_or}
use Rattle.watchman_index.specs.Suffixes.{dot, slash, is_mark, has_slash, suffix_of}

or_false : (a b : Bool) → (a || b) ≡ false → (a ≡ false) × (b ≡ false)
or_false a b e = grind (arith, e)

and_false : (a : Bool) → (a && false) ≡ false
and_false true = refl
and_false false = refl

-- bytes that are neither have no suffix, and no slash
plain : (xs : List ℕ) → ((k : ℕ) → k < length xs → is_mark (get_or xs k 0) ≡ false) → (suffix_of xs ≡ None) × (has_slash xs ≡ false)
plain [] h = (refl, refl)
plain (x ∷ xs) h =
    let head = or_false (x == dot) (x == slash) (h 0 (omega arith)) in
    let rest = plain xs (λ k below. h (suc k) (omega arith)) in
    let none : suffix_of (x ∷ xs) ≡ None
    = ap (λ o. option_or o (if x == dot && not (has_slash xs) then Some xs else None)) rest.0
    ∙ ap (λ b. if b && not (has_slash xs) then Some xs else None) head.0 in
    let no_slash : has_slash (x ∷ xs) ≡ false
    = ap (λ b. b || has_slash xs) head.1 ∙ rest.1 in
    (none, no_slash)

slash_at : (xs : List ℕ) (i : ℕ) → i < length xs → get_or xs i 0 ≡ slash → has_slash xs ≡ true
slash_at [] i inside here = absurd (omega arith)
slash_at (x ∷ xs) zero inside here = ap (λ b. b || has_slash xs) (eq-eqb x slash here)
slash_at (x ∷ xs) (suc i) inside here = ap (λ b. (x == slash) || b) (slash_at xs i (omega arith) here) ∙ or_true (x == slash)
  where
    or_true : (a : Bool) → (a || true) ≡ true
    or_true true = refl
    or_true false = refl

-- behind the last dot, and no slash, stands the suffix
pub suffix_at : (xs : List ℕ) (i : ℕ) → i < length xs → get_or xs i 0 ≡ dot → ((k : ℕ) → i + 1 ≤ k → k < length xs → is_mark (get_or xs k 0) ≡ false) → suffix_of xs ≡ Some (drop (suc i) xs)
suffix_at [] i inside here after = absurd (omega arith)
suffix_at (x ∷ xs) zero inside here after =
    let rest = plain xs (λ k below. after (suc k) (omega arith) (omega arith)) in
    ap (λ o. option_or o (if x == dot && not (has_slash xs) then Some xs else None)) rest.0
    ∙ ap (λ b. if b && not (has_slash xs) then Some xs else None) (eq-eqb x dot here)
    ∙ ap (λ b. if not b then Some xs else None) rest.1
suffix_at (x ∷ xs) (suc i) inside here after =
    ap (λ o. option_or o (if x == dot && not (has_slash xs) then Some xs else None))
    (suffix_at xs i (omega arith) here (λ k from below. after (suc k) (omega arith) (omega arith)))

-- behind the last slash stands no dot
pub no_suffix_at : (xs : List ℕ) (i : ℕ) → i < length xs → get_or xs i 0 ≡ slash → ((k : ℕ) → i + 1 ≤ k → k < length xs → is_mark (get_or xs k 0) ≡ false) → suffix_of xs ≡ None
no_suffix_at [] i inside here after = absurd (omega arith)
no_suffix_at (x ∷ xs) zero inside here after =
    let rest = plain xs (λ k below. after (suc k) (omega arith) (omega arith)) in
    ap (λ o. option_or o (if x == dot && not (has_slash xs) then Some xs else None)) rest.0
    ∙ ap (λ b. if b == dot && not (has_slash xs) then Some xs else None) here
no_suffix_at (x ∷ xs) (suc i) inside here after =
    ap (λ o. option_or o (if x == dot && not (has_slash xs) then Some xs else None))
    (no_suffix_at xs i (omega arith) here (λ k from below. after (suc k) (omega arith) (omega arith)))
    ∙ ap (λ b. if x == dot && not b then Some xs else None) (slash_at xs i (omega arith) here)
    ∙ ap (λ b. if b then Some xs else None) (and_false (x == dot))

-- a mark that is no dot is a slash
pub other_mark : (b : ℕ) → is_mark b ≡ true → b ≢ dot → b ≡ slash
other_mark b mark differs = grind (arith, mark, differs)

pub no_suffix : (xs : List ℕ) → All (λ b. is_mark b ≡ false) xs → suffix_of xs ≡ None
no_suffix xs none = (plain xs (λ k below. All-get_or (λ b. is_mark b ≡ false) xs k 0 below none)).0
