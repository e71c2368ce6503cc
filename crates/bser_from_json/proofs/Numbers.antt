-- A number's text, and what is made of it.
use Rattle.std.proofs.Common.{◌≡◌, ℕ, ◌<◌, ◌^◌, List, [], ◌∷◌, length, Bool, true, false, ◌&&◌, nat_lt, Result, Ok, Err, refl, sym, ap, subst, true≢false, lt-ltb, ltb-true}
use Rattle.std.specs.Prelude.{ℤ, pos, negsuc, FitsSigned}
use Rattle.std.specs.Int.{w64}
use Rattle.std.specs.Str.Parse.{AllDigits, IsNumeral, ParsesSigned, signed_digits_value, without_leading_sign}
use Rattle.std.specs.Char.{digit_value}
use Rattle.std.specs.List.{list_all}
use Rattle.bser_format.specs.Tree.{integer}
use Rattle.bser_from_json.specs.declared.fault.JsonFault.TheVariants as faults
use Rattle.bser_from_json.specs.Made.{is_digit, is_numeral, is_held, integer_made}

-- ---- the tests decide

lt_true : (a b : ℕ) → a < b → nat_lt a b ≡ true
lt_true a b h = lt-ltb a b h

lt_of : (a b : ℕ) → nat_lt a b ≡ true → a < b
lt_of a b h = ltb-true a b h

both : (a b : Bool) → (a && b) ≡ true → (a ≡ true) × (b ≡ true)
both true b h = (refl, h)
both false b h = absurd (true≢false (sym h))

digits_true : (ds : List ℕ) → AllDigits 10 ds → list_all is_digit ds ≡ true
digits_true [] h = refl
digits_true (c ∷ ds) h = rw (lt_true (digit_value c) 10 h.0) (digits_true ds h.1)

digits_of : (ds : List ℕ) → list_all is_digit ds ≡ true → AllDigits 10 ds
digits_of [] h = tt
digits_of (c ∷ ds) h = let k = both (is_digit c) (list_all is_digit ds) h in (lt_of (digit_value c) 10 k.0, digits_of ds k.1)

held_true : (z : ℤ) → FitsSigned w64 z → is_held z ≡ true
held_true (pos n) h = lt_true n (2 ^ 63) h.sfits
held_true (negsuc n) h = lt_true n (2 ^ 63) h.sfits

held_of : (z : ℤ) → is_held z ≡ true → FitsSigned w64 z
held_of (pos n) h = record { sfits = lt_of n (2 ^ 63) h }
held_of (negsuc n) h = record { sfits = lt_of n (2 ^ 63) h }

-- a numeral that 64 bits hold
abbrev pub IsInteger : List ℕ → Type 0
IsInteger s = IsNumeral 10 (without_leading_sign s) × FitsSigned w64 (signed_digits_value 10 s)

abbrev pub is_integer : List ℕ → Bool
is_integer s = is_numeral (without_leading_sign s) && is_held (signed_digits_value 10 s)

pub integer_true : (s : List ℕ) → IsInteger s → is_integer s ≡ true
integer_true s h = rw (lt_true 0 (length (without_leading_sign s)) h.0.0, digits_true (without_leading_sign s) h.0.1, held_true (signed_digits_value 10 s) h.1) refl

pub integer_of : (s : List ℕ) → is_integer s ≡ true → IsInteger s
integer_of s h =
    let a = both (is_numeral (without_leading_sign s)) (is_held (signed_digits_value 10 s)) h in
    let b = both (nat_lt 0 (length (without_leading_sign s))) (list_all is_digit (without_leading_sign s)) a.0 in
    ((lt_of 0 (length (without_leading_sign s)) b.0, digits_of (without_leading_sign s) b.1), held_of (signed_digits_value 10 s) a.1)

-- ---- what `parse` reads is what is made

pub parsed_integer : {E : Type 0} (s : List ℕ) (z : ℤ) (r : Result ℤ E) → r ≡ Ok z → ParsesSigned w64 10 s r → integer_made s ≡ Ok (integer z)
parsed_integer s z r e h =
    let k : IsInteger s × (z ≡ signed_digits_value 10 s) = subst (λ q. ParsesSigned w64 10 s q) e h in
    rw (integer_true s k.0) (ap (λ n. Ok (integer n)) (sym k.1))

pub parsed_fits : {E : Type 0} (s : List ℕ) (z : ℤ) (r : Result ℤ E) → r ≡ Ok z → ParsesSigned w64 10 s r → FitsSigned w64 z
parsed_fits s z r e h =
    let k : IsInteger s × (z ≡ signed_digits_value 10 s) = subst (λ q. ParsesSigned w64 10 s q) e h in
    subst (FitsSigned w64) (sym k.1) k.0.1

pub unparsed_integer : {E : Type 0} (s : List ℕ) (d : E) (r : Result ℤ E) → r ≡ Err d → ParsesSigned w64 10 s r → integer_made s ≡ Err faults.IntegerTooGreat
unparsed_integer s d r e h =
    let k : IsInteger s → ⊥ = subst (λ q. ParsesSigned w64 10 s q) e h in
    rw (by (is_integer s) refl k) refl
  where
    by : (b : Bool) → is_integer s ≡ b → (IsInteger s → ⊥) → b ≡ false
    by true f k = absurd (k (integer_of s f))
    by false f k = refl
