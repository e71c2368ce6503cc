-- A number's text that is printed, and what is made of it.
use Rattle.std.proofs.Common.{◌≡◌, ℕ, suc, ◌<◌, ◌^◌, List, [], ◌∷◌, ◌++◌, length, drop, Bool, true, false, not, ◌&&◌, ◌||◌, Some, None, Result, Ok, Err, refl, sym, ap, subst, ◌∙◌, arith, T, true≢false, ne_eqb, if◌then◌else◌}
use Rattle.std.specs.Prelude.{ℤ, pos, negsuc, FitsSigned, codes, Float, to_bits}
use Rattle.std.specs.Int.{w64}
use Rattle.std.specs.Float.Ieee.{nan, inf, fin, is_nan, nan_bits, of_bits}
use lib.Ieee.Bits.{to_bits-of_bits}
use Rattle.std.proofs.lemmas.Str.Parse.{digit_from_value}
use Rattle.std.specs.Fmt.{decimal, signed_decimal, sign_text}
use Rattle.std.specs.Float.Numeral.{Parts, dot, exponent_text, text_of}
use Rattle.ryu.specs.Plain.{IsPlain, IsPlainNumber}
use Rattle.std.specs.Str.{bytes_eq}
use Rattle.std.specs.Str.Parse.{AllDigits, ParsesSigned, digits_value, signed_digits_value}
use Rattle.std.specs.Char.{digit_value}
use Rattle.std.specs.List.{list_any}
use Rattle.std.specs.Float.{binary64, float_is_finite}
use Rattle.std.specs.Float.Parse.{parse_float}
use Rattle.std.proofs.lemmas.Fmt.{parse-signed_decimal, decimal_is_IsNumeral}
use Rattle.std.proofs.lemmas.Slice.Eq.{bytes_eq-Decides}
use Rattle.bser_format.specs.Tree.{integer, real}
use Rattle.bser_format.specs.RealText.{float_of, is_point_or_e}
use Rattle.bser_from_json.specs.Made.{is_whole, integer_made, number_made}
use Rattle.bser_from_json.proofs.Numbers.{is_integer, integer_of, integer_true, parsed_integer}

-- ---- an integer's decimal text makes it again

made_back : (z : ℤ) → FitsSigned w64 z → integer_made (signed_decimal z) ≡ Ok (integer z)
made_back z h = by (is_integer (signed_decimal z)) refl
  where
    read : {E : Type 0} (r : Result ℤ E) → ParsesSigned w64 10 (signed_decimal z) r → r ≡ Ok z
    read r p = parse-signed_decimal w64 z (signed_decimal z) r h h.sfits refl p

    no : (r : Result ℤ ℕ) → r ≡ Err 0 → r ≡ Ok z → ⊥
    no r a b = cc

    by : (b : Bool) → is_integer (signed_decimal z) ≡ b → integer_made (signed_decimal z) ≡ Ok (integer z)
    by true f = parsed_integer {E = ℕ} (signed_decimal z) z (Ok (signed_digits_value 10 (signed_decimal z))) (read (Ok (signed_digits_value 10 (signed_decimal z))) (integer_of (signed_decimal z) f, refl)) (integer_of (signed_decimal z) f, refl)
    by false f = absurd (no (Err 0) refl (read (Err 0) (λ k. true≢false (sym (integer_true (signed_decimal z) k) ∙ f))))

-- ---- the text is that of an integer

no_point : (c : ℕ) → digit_value c < 10 → is_point_or_e c ≡ false
no_point c h =
    let d = digit_from_value c h in
    rw (ne_eqb c 46 (λ e. omega (arith, d.0, d.1, e)), ne_eqb c 101 (λ e. omega (arith, d.0, d.1, e)), ne_eqb c 69 (λ e. omega (arith, d.0, d.1, e))) refl

no_points : (ds : List ℕ) → AllDigits 10 ds → list_any is_point_or_e ds ≡ false
no_points [] h = refl
no_points (c ∷ ds) h = rw (no_point c h.0) (no_points ds h.1)

differ : (xs ys : List ℕ) → (xs ≡ ys → ⊥) → bytes_eq xs ys ≡ false
differ xs ys apart = by (bytes_eq xs ys) refl
  where
    by : (b : Bool) → bytes_eq xs ys ≡ b → b ≡ false
    by true e = absurd (apart ((bytes_eq-Decides xs ys).0 e))
    by false e = refl

no_minus : (z : ℤ) → FitsSigned w64 z → signed_decimal z ≡ codes "-0" → ⊥
no_minus (pos n) h e =
    let k = decimal_is_IsNumeral n (omega (arith, h.sfits)) in
    let d : AllDigits 10 (codes "-0") = subst (AllDigits 10) e k.0.1 in
    omega (arith, d.0)
no_minus (negsuc n) h e =
    let k = decimal_is_IsNumeral (suc n) (omega (arith, h.sfits)) in
    let d : digits_value 10 (codes "0") ≡ suc n = subst (λ ds. digits_value 10 ds ≡ suc n) (ap (drop 1) e) k.1 in
    omega (arith, d)

no_points_in : (z : ℤ) → FitsSigned w64 z → list_any is_point_or_e (signed_decimal z) ≡ false
no_points_in (pos n) h = no_points (decimal n) (decimal_is_IsNumeral n (omega (arith, h.sfits))).0.1
no_points_in (negsuc n) h = no_points (decimal (suc n)) (decimal_is_IsNumeral (suc n) (omega (arith, h.sfits))).0.1

pub integer_back : (z : ℤ) → FitsSigned w64 z → number_made (signed_decimal z) ≡ Ok (integer z)
integer_back z h = rw (differ (signed_decimal z) (codes "-0") (no_minus z h), no_points_in z h) (made_back z h)

-- ---- a real

real_is_made : (s : List ℕ) (x : Float) → is_whole s ≡ false → parse_float binary64 s ≡ Some x → float_is_finite x ≡ true → number_made s ≡ Ok (real (to_bits binary64 x))
real_is_made s x real_text reads finite = rw (real_text, reads, finite) refl

finite_number : (x : Float) → float_is_finite x ≡ true → T (not (is_nan x))
unfolding float_is_finite is_nan
finite_number nan h = absurd (true≢false (sym h))
finite_number (inf s) h = tt
finite_number (fin s m e) h = tt

pub real_back : (bits : ℕ) (x : Float) (s : List ℕ) → bits < 2 ^ 64 → float_of bits ≡ Some x → float_is_finite x ≡ true → is_whole s ≡ false → parse_float binary64 s ≡ Some x → number_made s ≡ Ok (real bits)
real_back bits x s small is finite not_whole reads =
    let same : of_bits binary64 bits ≡ x = of_some (nan_bits binary64 bits) is in
    let back : to_bits binary64 x ≡ bits =
    ap (to_bits binary64) (sym same) ∙ to_bits-of_bits binary64 bits small (subst (λ y. T (not (is_nan y))) (sym same) (finite_number x finite)) in
    real_is_made s x not_whole reads finite ∙ ap (λ b. Ok (real b)) back
  where
    of_some : (b : Bool) → (if b then None else Some (of_bits binary64 bits)) ≡ Some x → of_bits binary64 bits ≡ x
    of_some false e = cc
    of_some true e = absurd cc

-- ---- a plain number is no integer

marked_tail : (p : Parts) → IsPlain p → list_any is_point_or_e ((if p.point then dot ∷ p.fraction else []) ++ exponent_text p.exponent_negative p.exponent) ≡ true
marked_tail p h = by p.point refl p.exponent refl
  where
    by : (b : Bool) → p.point ≡ b → (ds : List ℕ) → p.exponent ≡ ds → list_any is_point_or_e ((if b then dot ∷ p.fraction else []) ++ exponent_text p.exponent_negative ds) ≡ true
    by true e ds f = refl
    by false e [] f = absurd (omega (arith, h.marked e, ap length f))
    by false e (d ∷ ds) f = refl

any_behind : (xs ys : List ℕ) → list_any is_point_or_e ys ≡ true → list_any is_point_or_e (xs ++ ys) ≡ true
any_behind [] ys h = h
any_behind (x ∷ xs) ys h = rw (any_behind xs ys h) (or_true (is_point_or_e x))
  where
    or_true : (b : Bool) → (b || true) ≡ true
    or_true true = refl
    or_true false = refl

and_false : (b : Bool) → (b && false) ≡ false
and_false true = refl
and_false false = refl

pub plain_is_real : (s : List ℕ) → IsPlainNumber s → is_whole s ≡ false
plain_is_real s h =
    let tail = marked_tail h.1 h.3 in
    let any : list_any is_point_or_e s ≡ true = ap (list_any is_point_or_e) h.2 ∙ any_behind (sign_text h.0) (text_of h.1) (any_behind h.1.whole _ tail) in
    ap (λ b. not (bytes_eq s (codes "-0")) && not b) any ∙ and_false (not (bytes_eq s (codes "-0")))
