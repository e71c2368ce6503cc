-- A field is told by its tag.
use Rattle.std.proofs.Common.{◌≡◌, ℕ, zero, suc, ◌≤◌, ◌||◌, cond, Bool, true, false, List, [], ◌∷◌, length, take, drop, refl, sym, ap, subst, ◌∙◌, arith, nat_eq, get_or, IsUtf8}
use Rattle.std.specs.Prelude.{Some, None}
use Rattle.std.specs.Int.{w64, from_le_bytes, cast_signed, byte_len}
use Rattle.std.proofs.lemmas.Bool.{eqb-true}
use Rattle.std.proofs.lemmas.List.{take_rest}
use Rattle.bser_format.specs.Tree as trees
use Rattle.bser_format.specs.Tree.{Tree}
use Rattle.bser_format.specs.Grammar.{IntSize, int8, int16, int32, int64, tag_of, width_of, Bool_tag}
use Rattle.bser_format.specs.DueReaders.{is_key_tag}
use Rattle.bser_format.specs.Named as named
use Rattle.bser_format.specs.Named.{reads, give, and_then, front, utf8, field_of, value, with_text_keys}
use Rattle.bser_events.proofs.Begins.{value_field}
use Rattle.bser_events.proofs.Texts.{utf8_reads}
use Rattle.bser_events.specs.Takes.{Takes}
use Rattle.bser_events.proofs.AtStart.{behind, front_cut}
use Rattle.bser_serde_format.specs.Takes.{CutString, size_of_scalar}

-- a tag of a scalar or of a skip, and its size
data Scalar (c n : ℕ) : Type 0 where
  yes : c ≡ 0x08 → n ≡ 1 → Scalar c n
  no : c ≡ 0x09 → n ≡ 1 → Scalar c n
  nothing : c ≡ 0x0a → n ≡ 1 → Scalar c n
  skipped : c ≡ 0x0c → n ≡ 1 → Scalar c n
  one : c ≡ 0x03 → n ≡ 2 → Scalar c n
  two : c ≡ 0x04 → n ≡ 3 → Scalar c n
  four : c ≡ 0x05 → n ≡ 5 → Scalar c n
  eight : c ≡ 0x06 → n ≡ 9 → Scalar c n
  real : c ≡ 0x07 → n ≡ 9 → Scalar c n

abbrev size_by : Bool → Bool → Bool → Bool → Bool → Bool → Bool → Bool → Bool → ℕ
size_by a b c d e f g h i = cond (((a || b) || c) || d) 1 (cond e 2 (cond f 3 (cond g 5 (cond (h || i) 9 0))))

scalar : (c n : ℕ) (x8 x9 xa xc x3 x4 x5 x6 x7 : Bool) → nat_eq c 0x08 ≡ x8 → nat_eq c 0x09 ≡ x9 → nat_eq c 0x0a ≡ xa → nat_eq c 0x0c ≡ xc → nat_eq c 0x03 ≡ x3
    → nat_eq c 0x04 ≡ x4 → nat_eq c 0x05 ≡ x5 → nat_eq c 0x06 ≡ x6 → nat_eq c 0x07 ≡ x7 → n ≡ size_by x8 x9 xa xc x3 x4 x5 x6 x7 → (n ≡ 0 → ⊥) → Scalar c n
scalar c n true x9 xa xc x3 x4 x5 x6 x7 e8 e9 ea ec e3 e4 e5 e6 e7 is some = yes (eqb-true c 0x08 e8) is
scalar c n false true xa xc x3 x4 x5 x6 x7 e8 e9 ea ec e3 e4 e5 e6 e7 is some = no (eqb-true c 0x09 e9) is
scalar c n false false true xc x3 x4 x5 x6 x7 e8 e9 ea ec e3 e4 e5 e6 e7 is some = nothing (eqb-true c 0x0a ea) is
scalar c n false false false true x3 x4 x5 x6 x7 e8 e9 ea ec e3 e4 e5 e6 e7 is some = skipped (eqb-true c 0x0c ec) is
scalar c n false false false false true x4 x5 x6 x7 e8 e9 ea ec e3 e4 e5 e6 e7 is some = one (eqb-true c 0x03 e3) is
scalar c n false false false false false true x5 x6 x7 e8 e9 ea ec e3 e4 e5 e6 e7 is some = two (eqb-true c 0x04 e4) is
scalar c n false false false false false false true x6 x7 e8 e9 ea ec e3 e4 e5 e6 e7 is some = four (eqb-true c 0x05 e5) is
scalar c n false false false false false false false true x7 e8 e9 ea ec e3 e4 e5 e6 e7 is some = eight (eqb-true c 0x06 e6) is
scalar c n false false false false false false false false true e8 e9 ea ec e3 e4 e5 e6 e7 is some = real (eqb-true c 0x07 e7) is
scalar c n false false false false false false false false false e8 e9 ea ec e3 e4 e5 e6 e7 is some = absurd (some is)

scalar_of : (c n : ℕ) → n ≡ size_of_scalar c → (n ≡ 0 → ⊥) → Scalar c n
scalar_of c n is some =
    scalar c n (nat_eq c 0x08) (nat_eq c 0x09) (nat_eq c 0x0a) (nat_eq c 0x0c) (nat_eq c 0x03) (nat_eq c 0x04) (nat_eq c 0x05) (nat_eq c 0x06) (nat_eq c 0x07)
    refl refl refl refl refl refl refl refl refl is some

-- n bytes are there
there : (n : ℕ) (y : List ℕ) → n ≤ length y → front n y ≡ reads (take n y) (drop n y)
there n y long = front_cut n y long ∙ ap (reads (take n y)) (take_rest y n)

pub null_there : (levels : ℕ) (y : List ℕ) → with_text_keys levels (0x0a ∷ y) ≡ reads trees.null y
unfolding value
null_there zero y = refl
null_there (suc n) y = refl

pub bool_there : (levels : ℕ) (b : Bool) (y : List ℕ) → with_text_keys levels (Bool_tag b ∷ y) ≡ reads (trees.boolean b) y
unfolding value
bool_there zero true y = refl
bool_there zero false y = refl
bool_there (suc n) true y = refl
bool_there (suc n) false y = refl

real_there : (levels : ℕ) (y : List ℕ) → 8 ≤ length y → with_text_keys levels (0x07 ∷ y) ≡ reads (trees.real (from_le_bytes w64 (take 8 y))) (drop 8 y)
unfolding value
real_there zero y long = ap (and_then (λ b. give (trees.real (from_le_bytes w64 b)))) (there 8 y long)
real_there (suc n) y long = ap (and_then (λ b. give (trees.real (from_le_bytes w64 b)))) (there 8 y long)

abbrev number_of : IntSize → List ℕ → Tree
number_of s y = trees.integer (cast_signed (width_of s) (from_le_bytes (width_of s) (take (byte_len (width_of s)) y)))

made : (s : IntSize) (y : List ℕ) → byte_len (width_of s) ≤ length y
    → and_then (λ v. give (trees.integer v)) (named.number s y) ≡ reads (number_of s y) (drop (byte_len (width_of s)) y)
made s y long =
    ap (λ o. and_then (λ v. give (trees.integer v)) (and_then (λ b. give (cast_signed (width_of s) (from_le_bytes (width_of s) b))) o)) (there (byte_len (width_of s)) y long)

int_there : (levels : ℕ) (s : IntSize) (y : List ℕ) → byte_len (width_of s) ≤ length y
    → with_text_keys levels (tag_of s ∷ y) ≡ reads (number_of s y) (drop (byte_len (width_of s)) y)
unfolding value
int_there zero int8 y long = made int8 y long
int_there zero int16 y long = made int16 y long
int_there zero int32 y long = made int32 y long
int_there zero int64 y long = made int64 y long
int_there (suc n) int8 y long = made int8 y long
int_there (suc n) int16 y long = made int16 y long
int_there (suc n) int32 y long = made int32 y long
int_there (suc n) int64 y long = made int64 y long

-- a field that is a value
as_field : (levels : ℕ) (b z : List ℕ) (v : Tree) → with_text_keys levels b ≡ reads v z → Takes (field_of (with_text_keys levels)) b z
as_field levels b z v h = (Some v, value_field levels b z v h)

-- a field whose tag is c, of n bytes
scalar_field : (levels c n : ℕ) (y : List ℕ) → n ≡ size_of_scalar c → (n ≡ 0 → ⊥) → 9 ≤ length (c ∷ y) → Takes (field_of (with_text_keys levels)) (c ∷ y) (drop n (c ∷ y))
scalar_field levels c n y is some long = by_tag (scalar_of c n is some)
  where
    here : (k m : ℕ) → c ≡ k → n ≡ m → Takes (field_of (with_text_keys levels)) (k ∷ y) (drop m (k ∷ y)) → Takes (field_of (with_text_keys levels)) (c ∷ y) (drop n (c ∷ y))
    here k m tag size t = subst (λ j. Takes (field_of (with_text_keys levels)) (j ∷ y) (drop n (j ∷ y))) (sym tag) (subst (λ j. Takes (field_of (with_text_keys levels)) (k ∷ y) (drop j (k ∷ y))) (sym size) t)

    by_tag : Scalar c n → Takes (field_of (with_text_keys levels)) (c ∷ y) (drop n (c ∷ y))
    by_tag (yes tag size) = here 0x08 1 tag size (as_field levels (0x08 ∷ y) y (trees.boolean true) (bool_there levels true y))
    by_tag (no tag size) = here 0x09 1 tag size (as_field levels (0x09 ∷ y) y (trees.boolean false) (bool_there levels false y))
    by_tag (nothing tag size) = here 0x0a 1 tag size (as_field levels (0x0a ∷ y) y trees.null (null_there levels y))
    by_tag (skipped tag size) = here 0x0c 1 tag size (None, refl)
    by_tag (one tag size) = here 0x03 2 tag size (as_field levels (0x03 ∷ y) (drop 1 y) (number_of int8 y) (int_there levels int8 y (omega (arith, long))))
    by_tag (two tag size) = here 0x04 3 tag size (as_field levels (0x04 ∷ y) (drop 2 y) (number_of int16 y) (int_there levels int16 y (omega (arith, long))))
    by_tag (four tag size) = here 0x05 5 tag size (as_field levels (0x05 ∷ y) (drop 4 y) (number_of int32 y) (int_there levels int32 y (omega (arith, long))))
    by_tag (eight tag size) = here 0x06 9 tag size (as_field levels (0x06 ∷ y) (drop 8 y) (number_of int64 y) (int_there levels int64 y (omega (arith, long))))
    by_tag (real tag size) = here 0x07 9 tag size (as_field levels (0x07 ∷ y) (drop 8 y) (trees.real (from_le_bytes w64 (take 8 y))) (real_there levels y (omega (arith, long))))

pub scalar_taken : (levels n : ℕ) (b : List ℕ) → n ≡ size_of_scalar (get_or b 0 0) → (n ≡ 0 → ⊥) → 9 ≤ length b → Takes (field_of (with_text_keys levels)) b (behind n b)
scalar_taken levels n [] is some long = absurd (omega (arith, long))
scalar_taken levels n (c ∷ y) is some long =
    subst (Takes (field_of (with_text_keys levels)) (c ∷ y)) (sym (take_rest (c ∷ y) n)) (scalar_field levels c n y is some long)

-- ---- strings

pub bytes_there : (levels : ℕ) (y s z : List ℕ) → named.string y ≡ reads s z → with_text_keys levels (0x02 ∷ y) ≡ reads (trees.bytes s) z
unfolding value
bytes_there zero y s z h = ap (and_then (λ s. give (trees.bytes s))) h
bytes_there (suc n) y s z h = ap (and_then (λ s. give (trees.bytes s))) h

pub text_there : (levels : ℕ) (y s z : List ℕ) → named.string y ≡ reads s z → IsUtf8 s → with_text_keys levels (0x0d ∷ y) ≡ reads (trees.text s) z
unfolding value
text_there zero y s z h text = ap (and_then (λ s. give (trees.text s))) (ap (and_then utf8) h ∙ utf8_reads s z text)
text_there (suc n) y s z h text = ap (and_then (λ s. give (trees.text s))) (ap (and_then utf8) h ∙ utf8_reads s z text)

-- a field that is a string
string_field : (levels c : ℕ) (y z : List ℕ) (is_text : Bool) → is_text ≡ nat_eq c 0x0d → is_key_tag c ≡ true → CutString is_text y z
    → Takes (field_of (with_text_keys levels)) (c ∷ y) z
string_field levels c y z is_text text key cut = by_tag (nat_eq c 0x02) refl key
  where
    as_bytes : c ≡ 0x02 → Takes (field_of (with_text_keys levels)) (c ∷ y) z
    as_bytes is = as_field levels (c ∷ y) z (trees.bytes cut.string) (ap (λ k. with_text_keys levels (k ∷ y)) is ∙ bytes_there levels y cut.string z cut.read)

    as_text : nat_eq c 0x0d ≡ true → Takes (field_of (with_text_keys levels)) (c ∷ y) z
    as_text is =
        as_field levels (c ∷ y) z (trees.text cut.string) (ap (λ k. with_text_keys levels (k ∷ y)) (eqb-true c 0x0d is) ∙ text_there levels y cut.string z cut.read (cut.text (text ∙ is)))

    by_tag : (b : Bool) → nat_eq c 0x02 ≡ b → b || nat_eq c 0x0d ≡ true → Takes (field_of (with_text_keys levels)) (c ∷ y) z
    by_tag true q h = as_bytes (eqb-true c 0x02 q)
    by_tag false q h = as_text h

pub string_taken : (levels : ℕ) (b z : List ℕ) → 9 ≤ length b → is_key_tag (get_or b 0 0) ≡ true → CutString (nat_eq (get_or b 0 0) 0x0d) (behind 1 b) z
    → Takes (field_of (with_text_keys levels)) b z
string_taken levels [] z long key cut = absurd (omega (arith, long))
string_taken levels (c ∷ y) z long key cut =
    string_field levels c y z (nat_eq c 0x0d) refl key (subst (λ l. CutString (nat_eq c 0x0d) l z) (take_rest (c ∷ y) 1) cut)
