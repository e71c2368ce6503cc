-- The escaped text is the cut of the bytes into characters and single bytes.
use Rattle.std.proofs.Common.{◌≡◌, ℕ, zero, suc, ◌/◌, ◌%◌, ◌<◌, ◌≤◌, true, false, List, [], ◌∷◌, ◌++◌, length, take, drop, slice_index, IsUtf8, encode_utf8_all, refl, sym, ap, subst, ◌∙◌, arith, ⊎_elim, true≢false, append_assoc, length-append, take-append-drop, take_at}
use Rattle.std.specs.Char.{digit_char, encode_utf8, IsScalar}
use Rattle.std.specs.Str.{continuation_len, is_utf8, StartsWithNoChar}
use lib.Utf8.{scalars}
use Rattle.std.proofs.lemmas.Bool.{cases_Bool, and_parts}
use Rattle.std.proofs.lemmas.Bool.Decides.{nat_tests}
use Rattle.std.proofs.lemmas.Str.{encodes-append, encode_ascii, length-encode, len_utf8_bounds, IsUtf8-encode, IsUtf8-from_is_utf8, is_utf8-from_IsUtf8}
use Rattle.bser_format.specs.Escaped.{escaped_byte, first_piece, escaped_chars, escaped, IsEscaped}
use Rattle.bser_format.proofs.Escapes.{spelled, escaped_chars-nil, escaped_chars-stray, escaped_chars-char}

-- the piece at the front of some bytes
abbrev front : List ℕ → List ℕ
front bs = take (suc (continuation_len (slice_index bs 0))) bs

-- where a character starts, the piece there is UTF-8
char_at_front : (c : ℕ) (bs rest : List ℕ) → IsScalar c → bs ≡ encode_utf8 c ++ rest → is_utf8 (front bs) ≡ true
char_at_front c bs rest is same =
    let s = spelled c in
    let n = length s.others in
    let spelt : bs ≡ s.first ∷ (s.others ++ rest) = same ∙ ap (λ t. t ++ rest) s.whole in
    let piece : take (suc n) (s.first ∷ (s.others ++ rest)) ≡ encode_utf8 c = ap (λ t. s.first ∷ t) (take_at s.others rest n refl) ∙ sym s.whole in
    ap (λ t. is_utf8 (front t)) spelt
    ∙ ap (λ k. is_utf8 (take (suc k) (s.first ∷ (s.others ++ rest)))) s.follow
    ∙ is_utf8-from_IsUtf8 _ (subst IsUtf8 (sym piece) (IsUtf8-encode c is))

encode-digit : (n : ℕ) → encode_utf8 (digit_char (n % 16)) ≡ digit_char (n % 16) ∷ []
encode-digit n = let low : digit_char (n % 16) < 128 = grind (arith, nat_tests) in encode_ascii _ low

-- an escaped byte is ASCII
escaped_byte-bytes : (b : ℕ) → encode_utf8_all (escaped_byte b) ≡ escaped_byte b
unfolding encode_utf8
escaped_byte-bytes b =
    ap (λ t. 92 ∷ 120 ∷ (t ++ (encode_utf8 (digit_char (b % 16)) ++ []))) (encode-digit (b / 16))
    ∙ ap (λ t. 92 ∷ 120 ∷ digit_char (b / 16 % 16) ∷ (t ++ [])) (encode-digit b)

escaped-char : (c : ℕ) (rest : List ℕ) → IsScalar c → IsEscaped rest (escaped rest) → IsEscaped (encode_utf8 c ++ rest) (escaped (encode_utf8 c ++ rest))
escaped-char c rest is later =
    subst (IsEscaped (encode_utf8 c ++ rest)) (sym (ap encode_utf8_all (escaped_chars-char c rest is))) (IsEscaped.character c rest (escaped rest) is later)

escaped-stray : (b : ℕ) (rest : List ℕ) → is_utf8 (first_piece b rest) ≡ false → IsEscaped rest (escaped rest) → IsEscaped (b ∷ rest) (escaped (b ∷ rest))
escaped-stray b rest other later =
    let none : StartsWithNoChar (b ∷ rest) = λ c more is same. true≢false (sym (char_at_front c (b ∷ rest) more is same) ∙ other) in
    let text : escaped (b ∷ rest) ≡ escaped_byte b ++ escaped rest =
    ap encode_utf8_all (escaped_chars-stray b rest other)
    ∙ encodes-append (escaped_byte b) (escaped_chars rest)
    ∙ ap (λ t. t ++ escaped rest) (escaped_byte-bytes b) in
    subst (IsEscaped (b ∷ rest)) (sym text) (IsEscaped.stray b rest (escaped rest) none later)

-- a piece that is UTF-8 begins with a character
record Begun (bs : List ℕ) : Type 0 where
  char : ℕ
  rest : List ℕ
  is : IsScalar char
  whole : encode_utf8 char ++ rest ≡ bs
  shorter : length rest < length bs

begun : (b : ℕ) (rest cs : List ℕ) → scalars cs ≡ true → encode_utf8_all cs ≡ first_piece b rest → Begun (b ∷ rest)
begun b rest [] all same = let none = ap length same in absurd (omega (arith, none))
begun b rest (c ∷ cs) all same =
    let k = suc (continuation_len b) in
    let later = encode_utf8_all cs ++ drop k (b ∷ rest) in
    let whole : encode_utf8 c ++ later ≡ b ∷ rest =
    sym (append_assoc (encode_utf8 c) (encode_utf8_all cs) (drop k (b ∷ rest))) ∙ ap (λ t. t ++ drop k (b ∷ rest)) same ∙ take-append-drop k (b ∷ rest) in
    record {
      char = c;
      rest = later;
      is = (and_parts _ _ all).0;
      whole = whole;
      shorter = omega (arith, ap length whole, length-append (encode_utf8 c) later, length-encode c, (len_utf8_bounds c).0);
    }

within : (n : ℕ) (bs : List ℕ) → length bs ≤ n → IsEscaped bs (escaped bs)
within n [] le = subst (IsEscaped []) (sym (ap encode_utf8_all escaped_chars-nil)) IsEscaped.end
within zero (b ∷ bs) le = absurd (omega (arith, le))
within (suc n) (b ∷ bs) le = ⊎_elim
    (λ yes.
    let u = IsUtf8-from_is_utf8 _ yes in
    let start = begun b bs u.0 u.1.0 u.1.1 in
    subst (λ t. IsEscaped t (escaped t)) start.whole
    (escaped-char start.char start.rest start.is (within n start.rest (omega (arith, start.shorter, le)))))
    (λ other. escaped-stray b bs other (within n bs (omega (arith, le))))
    (cases_Bool (is_utf8 (first_piece b bs)))

pub IsEscaped-escaped : (bs : List ℕ) → IsEscaped bs (escaped bs)
IsEscaped-escaped bs = within (length bs) bs (omega arith)
