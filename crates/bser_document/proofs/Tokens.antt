-- The tokens of a path, cut off one after the other, and the index that a token writes.
use Rattle.std.proofs.Common.{◌≡◌, ◌<◌, ◌≤◌, ◌^◌, ◌+◌, ◌==◌, not, ℕ, suc, Bool, true, false, cond, eqb, List, [], ◌∷◌, length, length-drop, get_or, take, drop, Some, None, refl, sym, ap, subst, ◌∙◌, arith, Bor}
use Rattle.std.specs.Fmt.{decimal}
use Rattle.std.specs.List.{position_or_len}
use Rattle.std.specs.Str.Parse.{AllDigits, IsNumeral, digits_value, without_leading_plus}
use Rattle.std.proofs.lemmas.Bool.Decides.{nat_tests}
use Rattle.std.proofs.lemmas.Fmt.{decimal_is_IsNumeral, decimal_digit, first_decimal, decimal-digits_value, decimal_injective}
use Rattle.std.proofs.lemmas.Str.Parse.{IsNumeralModel}
use Rattle.std.proofs.lemmas.Str.Pattern.{IsSplitOnceResult, split_once_first}
use Rattle.bser_document.specs.Pointer.{before, behind_slashes, between_slashes, has_only_escapes, tokens, is_plain}

-- ---- tokens

abbrev is_slash : ℕ → Bool
is_slash b = eqb b 47

-- the place of the first slash
abbrev place : List ℕ → ℕ
place s = position_or_len is_slash s

first_part : (s : List ℕ) → place s < length s → between_slashes s ≡ take (place s) s ∷ between_slashes (drop (place s + 1) s)
first_part [] less = absurd (omega (arith, less))
first_part (b ∷ s) less = of_test (λ h. first_part s h) (eqb b 47) less
  where
    of_test : (place s < length s → between_slashes s ≡ take (place s) s ∷ between_slashes (drop (place s + 1) s)) → (t : Bool) → cond (not t) (1 + place s) 0 < suc (length s)
        → cond t ([] ∷ between_slashes s) (before b (between_slashes s)) ≡ take (cond (not t) (1 + place s) 0) (b ∷ s) ∷ between_slashes (drop (cond (not t) (1 + place s) 0 + 1) (b ∷ s))
    of_test step true less = refl
    of_test step false less =
        let one : suc (place s) ≡ 1 + place s = omega arith in
        let two : suc (place s + 1) ≡ 1 + place s + 1 = omega arith in
        ap (before b) (step (omega (arith, less))) ∙ ap (λ n. take n (b ∷ s) ∷ between_slashes (drop (suc (place s + 1)) (b ∷ s))) one ∙ ap (λ n. take (1 + place s) (b ∷ s) ∷ between_slashes (drop n (b ∷ s))) two

last_part : (s : List ℕ) → place s ≡ length s → between_slashes s ≡ s ∷ []
last_part [] all = refl
last_part (b ∷ s) all = of_test (λ h. last_part s h) (eqb b 47) all
  where
    of_test : (place s ≡ length s → between_slashes s ≡ s ∷ []) → (t : Bool) → cond (not t) (1 + place s) 0 ≡ suc (length s) → cond t ([] ∷ between_slashes s) (before b (between_slashes s)) ≡ (b ∷ s) ∷ []
    of_test step true all = absurd (omega (arith, all))
    of_test step false all = ap (before b) (step (omega (arith, all)))

-- a token is cut off at a slash, and what is left is shorter
pub part_cut : (s : List ℕ) (x : Bor (List ℕ) × Bor (List ℕ)) → IsSplitOnceResult 47 s (Some x) → (between_slashes s ≡ x.0.now ∷ between_slashes x.1.now) × (length x.1.now < length s)
part_cut s x h =
    let c = split_once_first 47 s (Some x) h (omega arith) in
    (first_part s c.0 ∙ ap (λ p. p ∷ between_slashes (drop (place s + 1) s)) (sym c.1) ∙ ap (λ r. x.0.now ∷ between_slashes r) (sym c.2), omega (arith, ap length c.2, length-drop (place s + 1) s, c.0))

pub part_left : (s : List ℕ) → IsSplitOnceResult 47 s None → between_slashes s ≡ s ∷ []
part_left s h = last_part s (split_once_first 47 s None h (omega arith))

-- the tokens of a path are what is behind its slashes where its tildes are escapes, and there are none where not
pub tokens_where : (s : List ℕ) (t : Bool) → has_only_escapes s ≡ t → tokens s ≡ cond t (behind_slashes s) None
tokens_where s t h = ap (λ t. cond t (behind_slashes s) None) h

-- a path that is not empty has a slash first
pub no_slash : (s : List ℕ) → (length s == 0) ≡ false → ((r : List ℕ) → s ≡ 47 ∷ r → ⊥) → behind_slashes s ≡ None
no_slash [] some wrong = cc
no_slash (b ∷ s) some wrong = let no : b ≡ 47 → ⊥ = λ e. wrong s (ap (λ b. b ∷ s) e) in grind (arith, nat_tests)

-- ---- indexes

no_plus : (b : ℕ) (s : List ℕ) → AllDigits 10 (b ∷ s) → b ≡ 43 → ⊥
no_plus b s h e = let d : 36 < 10 = (subst (λ b. AllDigits 10 (b ∷ [])) e (h.0, tt)).0 in omega (arith, d)

-- a decimal text has no plus, and no zero before others
pub plain_decimal : (n : ℕ) → n < 2 ^ 64 → (s : List ℕ) → s ≡ decimal n → is_plain s ≡ true
plain_decimal n h [] e = refl
plain_decimal n h (b ∷ []) e = let no = no_plus b [] (subst (AllDigits 10) (sym e) (decimal_is_IsNumeral n h).0.1) in grind (arith, nat_tests)
plain_decimal n h (b ∷ c ∷ s) e =
    let no = no_plus b (c ∷ s) (subst (AllDigits 10) (sym e) (decimal_is_IsNumeral n h).0.1) in
    let zero : n ≡ 0 → ⊥ = λ z. let two : suc (suc (length s)) ≡ 1 = ap length (e ∙ ap decimal z ∙ decimal_digit 0 (omega arith)) in omega (arith, two) in
    let first : 48 < b = subst (λ l. 48 < get_or l 0 0) (sym e) (first_decimal n (omega (arith, zero)) h) in
    grind (arith, nat_tests)

own : IsNumeralModel (AllDigits 10) (digits_value 10)
own = record { to = λ ds h. h; from = λ ds h. h; same = λ ds h. refl }

no_sign : (s : List ℕ) → is_plain s ≡ true → without_leading_plus s ≡ s
no_sign [] e = refl
no_sign (b ∷ []) e = grind (arith, nat_tests)
no_sign (b ∷ c ∷ s) e = grind (arith, nat_tests)

no_zero : (s : List ℕ) → is_plain s ≡ true → get_or s 0 0 ≡ 48 → length s ≡ 1
no_zero [] e z = omega (arith, z)
no_zero (b ∷ []) e z = omega arith
no_zero (b ∷ c ∷ s) e z = grind (arith, nat_tests)

-- a text without a sign is read as the number that its digits write
abbrev IsRead : List ℕ → Type 0
IsRead s = IsNumeral 10 s × (digits_value 10 s < 2 ^ 64)

pub index_read : (s : List ℕ) (n : ℕ) → is_plain s ≡ true → IsRead (without_leading_plus s) × (n ≡ digits_value 10 (without_leading_plus s)) → (s ≡ decimal n) × (n < 2 ^ 64)
index_read s n plain p =
    let q : IsRead s × (n ≡ digits_value 10 s) = subst (λ w. IsRead w × (n ≡ digits_value 10 w)) (no_sign s plain) p in
    (sym (ap decimal q.1 ∙ decimal-digits_value own s q.0.0.1 q.0.0.0 (no_zero s plain) q.0.1), omega (arith, q.1, q.0.1))

pub no_index : (s : List ℕ) → is_plain s ≡ true → (IsRead (without_leading_plus s) → ⊥) → (n : ℕ) → n < 2 ^ 64 → s ≡ decimal n → ⊥
no_index s plain p n small is =
    let d = decimal_is_IsNumeral n small in
    p (subst IsRead (sym (no_sign s plain ∙ is)) (d.0, omega (arith, d.1, small)))

pub no_index_below : (s : List ℕ) (m len : ℕ) → (s ≡ decimal m) × (m < 2 ^ 64) → len ≤ m → (n : ℕ) → n < len → s ≡ decimal n → ⊥
no_index_below s m len is past n less at =
    let same = decimal_injective m n is.1 (omega (arith, is.1, past, less)) (sym is.0 ∙ at) in
    omega (arith, same, past, less)
