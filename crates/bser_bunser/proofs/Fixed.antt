-- Numbers after the first buffered byte.
use Rattle.std.proofs.Common.{◌≡◌, ℕ, suc, ◌+◌, ◌<◌, List, [], ◌∷◌, ◌++◌, length, take, drop, get_or, sym, ap, subst, ◌∙◌, arith, FitsSigned}
use Rattle.std.specs.Prelude.{ℤ}
use Rattle.std.specs.Int.{Width, w64, to_le_bytes, cast_signed, cast_unsigned}
use Rattle.std.proofs.Math.Facts.{sfits_to_z, Fits-of_lt}
use Rattle.std.proofs.lemmas.Int.{of_z-to_z}
use Rattle.std.proofs.lemmas.List.{take-append-drop, take-append-le, take_all, length-take-le, length-drop}
use mir.Val.{Fits}
use Rattle.bser_bunser.proofs.NumberBytes.{AreOf}
use Rattle.bser_source.specs.Window.{Window, Took}
use Rattle.bser_bunser.specs.Tagged.{TookNumber, TookBits}
use Rattle.bser_bunser.proofs.Ints.{small_front}

-- the first byte that is taken is the first that is buffered
first_taken : (a b : Window) (bs : List ℕ) → 0 < length a.buffered → 0 < length bs → Took a b bs
    → take 1 bs ≡ take 1 a.buffered
first_taken a b bs some wide took =
    sym (take-append-le 1 bs b.buffered (omega (arith, wide))) ∙ ap (take 1) (sym took.bytes) ∙ take-append-le 1 a.buffered took.more (omega (arith, some))

-- each byte of a number after the first byte is one
pub small_rest : (bs : List ℕ) (k : ℕ) → ((i : ℕ) → get_or bs i 0 < 256) → (i : ℕ)
    → get_or (take k (drop 1 bs)) i 0 < 256
small_rest [] k small i = small_front [] k small i
small_rest (b ∷ bs) k small i = small_front bs k (λ j. small (suc j)) i

pub length-rest : (bs : List ℕ) (k : ℕ) → length bs ≡ 1 + k → length (take k (drop 1 bs)) ≡ k
length-rest bs k len = length-take-le k (drop 1 bs) (omega (arith, len, length-drop 1 bs))

-- the first byte, and then a number's
with_first : (w : Width) (k n : ℕ) (a b : Window) (bs : List ℕ) → 0 < length a.buffered
    → length bs ≡ 1 + k → AreOf w n (take k (drop 1 bs)) → Took a b bs
    → Took a b (take 1 a.buffered ++ to_le_bytes w n)
with_first w k n a b bs some len are took =
    let all : drop 1 bs ≡ to_le_bytes w n = sym (take_all k (drop 1 bs) (omega (arith, len, length-drop 1 bs))) ∙ sym are.bytes in
    subst (Took a b) (sym (take-append-drop 1 bs) ∙ ap (λ l. l ++ drop 1 bs) (first_taken a b bs some (omega (arith, len)) took) ∙ ap (λ l. take 1 a.buffered ++ l) all) took

pub took_bits : (n : ℕ) (a b : Window) (bs : List ℕ) → 0 < length a.buffered → length bs ≡ 9
    → AreOf w64 n (take 8 (drop 1 bs)) → Took a b bs → TookBits a b n
took_bits n a b bs some len are took =
    record { fits = are.fits; took = with_first w64 8 n a b bs some len are took }

pub took_number : (w : Width) (k n : ℕ) (v : ℤ) (a b : Window) (bs : List ℕ) → v ≡ cast_signed w n
    → 0 < length a.buffered → length bs ≡ 1 + k → AreOf w n (take k (drop 1 bs)) → Took a b bs
    → TookNumber w a b v
took_number w k n v a b bs is some len are took =
    let fits : Fits w n = Fits-of_lt are.fits in
    let back : cast_unsigned w v ≡ n = ap (cast_unsigned w) is ∙ of_z-to_z w n are.fits in
    record {
      fits = subst (FitsSigned w) (sym is) (sfits_to_z fits);
      took =
          subst (λ m. Took a b (take 1 a.buffered ++ to_le_bytes w m)) (sym back) (with_first w k n a b bs some len are took);
    }
