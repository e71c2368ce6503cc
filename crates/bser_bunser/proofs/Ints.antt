-- Numbers and integers at the front.
use Rattle.std.proofs.Common.{◌≡◌, ℕ, zero, suc, ◌+◌, ◌-◌, ◌≤◌, ◌<◌, true, List, [], ◌∷◌, ◌++◌, length, take, drop, get_or, refl, sym, ap, subst, ◌∙◌, arith, lit<, inl, inr, FitsSigned}
use Rattle.std.specs.Prelude.{ℤ, pos, negsuc, ◌⊎◌}
use Rattle.std.specs.Int.{Width, w8, w16, w32, w64, to_le_bytes, cast_signed, cast_unsigned, byte_at, byte_len, bytes_low_first}
use Rattle.std.proofs.Math.Facts.{sfits_to_z, Fits-of_lt}
use Rattle.std.proofs.Math.Seq.{take-length}
use Rattle.std.proofs.lemmas.Int.{of_z-to_z}
use Rattle.std.proofs.lemmas.List.{length-drop, length-take}
use mir.Val.{Fits}
use Rattle.bser_format.specs.Grammar.{IntSize, int8, int16, int32, int64, int_bytes, tag_of, SpellsInteger}
use Rattle.bser_format.specs.declared.errors.Error.{Error}
use Rattle.bser_format.specs.declared.errors.Kind.TheVariants.{Integer}
use Rattle.bser_bunser.proofs.NumberBytes.{AreOf}
use Rattle.bser_format.specs.Named as named
use Rattle.bser_format.specs.Named.{eof, refuses}
use Rattle.bser_source.specs.Window.{Window, AreOctets, Grown, consumed}
use Rattle.bser_bunser.specs.Refusal.{ShortOf, unexpected_refusal}
use Rattle.bser_bunser.specs.Names.{Names, IsCutInteger, CutsInteger}
use Rattle.bser_bunser.specs.Prefixes.{NumberPrefix, IntTagged, CutInt, OtherTag, NegativeInt}
use Rattle.bser_bunser.specs.Tagged.{TookInt, NoInt}
use Rattle.bser_bunser.specs.Tokens.{TooShort, Rejects}
use Rattle.bser_bunser.specs.declared.prefix.Unexpected.{Unexpected}
use Rattle.bser_bunser.specs.declared.prefix.Unexpected.TheVariants.{Tag, Length, NegativeLength, NegativeCount}
use Rattle.bser_bunser.proofs.Readers.{int_there, int_cut, other_after, nothing}
use Rattle.bser_bunser.proofs.Names.{blames_before, short_blames, names_rejected}
use Rattle.bser_bunser.proofs.Looks.{Looking, look_took}

-- ---- numbers

-- bytes at the front that make a number are its bytes
pub number_prefix : (w : Width) (k n : ℕ) (v : ℤ) (rest : List ℕ) → k ≤ length rest
    → v ≡ cast_signed w n → AreOf w n (take k rest) → NumberPrefix w k rest v
number_prefix w k n v rest le is are =
    let fits : Fits w n = Fits-of_lt are.fits in
    let back : cast_unsigned w v ≡ n = ap (cast_unsigned w) is ∙ of_z-to_z w n are.fits in
    record {
      within = le;
      fits = subst (FitsSigned w) (sym is) (sfits_to_z fits);
      bytes = sym are.bytes ∙ ap (to_le_bytes w) (sym back);
    }

-- each of the first bytes is one
pub small_front : (xs : List ℕ) (k : ℕ) → ((i : ℕ) → get_or xs i 0 < 256) → (i : ℕ)
    → get_or (take k xs) i 0 < 256
small_front [] zero small i = omega arith
small_front [] (suc k) small i = omega arith
small_front (x ∷ xs) zero small i = omega arith
small_front (x ∷ xs) (suc k) small zero = small 0
small_front (x ∷ xs) (suc k) small (suc i) = small_front xs k (λ j. small (suc j)) i

-- ---- the first byte

-- the first byte, and some after it
pub first_and_rest : (xs : List ℕ) (k : ℕ) → 0 < length xs
    → get_or xs 0 0 ∷ take k (drop 1 xs) ≡ take (1 + k) xs
first_and_rest [] k some = absurd (omega (arith, some))
first_and_rest (x ∷ xs) k some =
    let whole : suc k ≡ 1 + k = omega arith in
    ap (λ n. take n (x ∷ xs)) whole

-- all that follows the first byte
pub all_after : (xs : List ℕ) → take (length xs - 1) (drop 1 xs) ≡ drop 1 xs
all_after xs = ap (λ n. take n (drop 1 xs)) (sym (length-drop 1 xs)) ∙ take-length (drop 1 xs)

-- the first byte, and then the others
pub first_is : (held : List ℕ) (b : ℕ) → 0 < length held → get_or held 0 0 ≡ b
    → held ≡ b ∷ drop 1 held
first_is [] b some e = absurd (omega (arith, some))
first_is (x ∷ held) b some e = ap (λ y. y ∷ held) e

-- ---- integers

-- fewer bytes than an integer has that begins so
pub cut_there : (held more : List ℕ) (n : ℕ) → CutInt held n → length (held ++ more) < n
    → IsCutInteger (held ++ more)
cut_there held more n is fewer = go is.tagged
  where
    go : ((n ≤ 1) ⊎ IntTagged held n) → IsCutInteger (held ++ more)
    go (inl one) = inl (nothing (held ++ more) (omega (arith, one, fewer)))
    go (inr t) =
        let whole : held ++ more ≡ tag_of t.size ∷ (drop 1 held ++ more) = ap (λ l. l ++ more) t.next in
        inr (record {
          size = t.size;
          rest = drop 1 held ++ more;
          whole = whole;
          fewer = omega (arith, ap length whole, fewer, t.enough);
        })

pub short_int : (held : List ℕ) (n : ℕ) → CutInt held n → TooShort named.int held n
short_int held n is =
    record { some = is.some; most = omega (arith, is.most); cut = λ more fewer. int_cut (held ++ more) (cut_there held more n is fewer) }

int_some : (v : ℤ) (b : List ℕ) → SpellsInteger v b → 0 < length b
int_some v b h = omega (arith, ap length h.spelled)

-- each byte of a number is one
number_octets : (i k n : ℕ) → AreOctets (bytes_low_first i k n)
number_octets i zero n = tt
number_octets i (suc k) n = (one i, number_octets (suc i) k n)
  where
    one : (i : ℕ) → byte_at i n < 256
    one zero = omega arith
    one (suc i) = omega arith

pub le_octets : (w : Width) (n : ℕ) → AreOctets (to_le_bytes w n)
le_octets w n = number_octets 0 (byte_len w) n

pub int_octets : (v : ℤ) (b : List ℕ) → SpellsInteger v b → AreOctets b
int_octets v b h = subst AreOctets (sym h.spelled) (at h.size)
  where
    at : (s : IntSize) → AreOctets (int_bytes s v)
    at int8 = (lit< tt, le_octets w8 (cast_unsigned w8 v))
    at int16 = (lit< tt, le_octets w16 (cast_unsigned w16 v))
    at int32 = (lit< tt, le_octets w32 (cast_unsigned w32 v))
    at int64 = (lit< tt, le_octets w64 (cast_unsigned w64 v))

-- an integer that is buffered was taken
pub took_int : (len : ℕ) (v out : ℤ) (a b : Window) → out ≡ v → Looking named.int a b
    → (b.failed ≡ true → b.buffered ≡ []) → len ≤ length b.buffered
    → SpellsInteger v (take len b.buffered) → TookInt a (consumed len b) out
took_int len v out a b same is closes fits spelled =
    subst (TookInt a (consumed len b)) (sym same) (record {
      text = take len b.buffered;
      spelled = spelled;
      took =
          look_took named.int v len a b is (int_octets v (take len b.buffered) spelled) closes (let some = int_some v (take len b.buffered) spelled in omega (arith, some, length-take len b.buffered)) fits (int_there v (take len b.buffered) spelled);
    })

-- an integer below 0 is buffered
pub negative_int : (v : ℤ) (len : ℕ) (held : List ℕ) → ((n : ℕ) → v ≡ pos n → ⊥) → len ≤ length held
    → SpellsInteger v (take len held) → NegativeInt held
negative_int (pos n) len held less fits spelled = absurd (less n refl)
negative_int (negsuc n) len held less fits spelled =
    record { less = n; len = len; within = fits; spelled = spelled }

-- ---- which refusal is named

pub short_cuts : (m n : ℕ) (e : Error) (a b c : Window) → Grown m a b → CutInt b.buffered n
    → ShortOf n e b c → CutsInteger e a
short_cuts m n e a b c grown is short =
    blames_before _ m e a b grown
    (short_blames _ n e b c short (λ x l fewer. (subst IsCutInteger (sym l.whole) (cut_there b.buffered l.more n is (subst (λ z. length z < n) l.whole fewer)), refl)))

-- a byte that is no integer's tag, whatever follows
pub other_int : (b : ℕ) (held : List ℕ) → OtherTag b held
    → Rejects named.int held (unexpected_refusal Integer (Tag b))
other_int b held is = record {
  some = (let e = ap length is.next in omega (arith, e));
  name =
      λ more. ap (λ l. named.int (l ++ more)) is.next ∙ other_after _ b (drop 1 held ++ more) is.other;
}

pub no_int_names : (why : Unexpected) (a b : Window) → NoInt a b why
    → Names named.int (unexpected_refusal Integer why) a
no_int_names (Tag x) a b is =
    names_rejected named.int is.need _ a b is.grown (other_int x b.buffered is.other)
no_int_names (Length x) a b is = absurd is.other
no_int_names others a b is = absurd is.other
