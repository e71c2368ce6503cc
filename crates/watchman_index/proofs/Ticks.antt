-- The ticks of clocks.
use Rattle.std.proofs.Common.{◌≡◌, ◌<◌, ◌+◌, ◌^◌, ℕ, suc, zero, Bool, true, false, List, [], ◌∷◌, length, drop, refl, sym, ap, subst, ◌∙◌, arith}
use Rattle.std.specs.Prelude.{Result, Ok, Err, MatchOption, slice_index, cond, ◌==◌}
use Rattle.std.specs.List.{slice_range}
use Rattle.std.specs.Result.{result_ok}
use Rattle.std.specs.Str.{IsAscii}
use Rattle.std.specs.Str.Parse.{AllDigits, ParsesUnsigned, without_leading_plus}
use Rattle.std.proofs.lemmas.Bool.Decides.{Decides-eqb}
use Rattle.std.proofs.lemmas.List.{take_rest}
use Rattle.std.proofs.lemmas.Str.Parse.{digit_from_value}
use Rattle.watchman_index.specs.Clocks.{instance_of, ticks_text, HasTicks}

digits_ascii : (ds : List ℕ) → AllDigits 10 ds → IsAscii ds
digits_ascii [] digits i = omega arith
digits_ascii (c ∷ cs) digits zero = omega (arith, digit_from_value c digits.0)
digits_ascii (c ∷ cs) digits (suc i) = digits_ascii cs digits.1 i

-- digits behind a plus or none are ASCII
pub signed_ascii : (bs : List ℕ) → AllDigits 10 (without_leading_plus bs) → IsAscii bs
signed_ascii [] digits i = omega arith
signed_ascii (c ∷ cs) digits i = go i (c == 43) (Decides-eqb c 43).0 digits
  where
    go : (i : ℕ) (t : Bool) → (t ≡ true → c ≡ 43) → AllDigits 10 (drop (cond t 1 0) (c ∷ cs))
        → slice_index (c ∷ cs) i < 128
    go zero true plus digits = omega (arith, plus refl)
    go (suc i) true plus digits = digits_ascii cs digits i
    go i false plus digits = digits_ascii (c ∷ cs) digits i

-- what is behind the colon that ends the instance
pub behind_instance : (clock instance : List ℕ) → instance ≡ instance_of clock
    → slice_range clock (length instance + 1) (length clock) ≡ ticks_text clock
behind_instance clock instance is = take_rest clock (length instance + 1) ∙ ap (λ i. drop (length i + 1) clock) is

-- what the text behind the last colon is read as
pub read_ticks : {E : Type 0} (clock : List ℕ) (r : Result ℕ E) → ParsesUnsigned 64 10 (ticks_text clock) r
    → MatchOption (result_ok r) ((n : ℕ) → ¬ HasTicks clock n) (HasTicks clock)
read_ticks clock (Ok n) read = record { numeral = read.0.0; value = read.1; fits = subst (λ v. v < 2 ^ 64) (sym read.1) read.0.1 }
read_ticks clock (Err e) none = λ n ticks. none (ticks.numeral, subst (λ v. v < 2 ^ 64) ticks.value ticks.fits)
