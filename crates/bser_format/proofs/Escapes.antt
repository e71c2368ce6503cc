-- Lemmas on escaped text.
use Rattle.std.proofs.Common.{◌≡◌, ℕ, suc, ◌+◌, ◌/◌, ◌%◌, ◌<◌, ◌≤◌, true, false, ◌&&◌, List, [], ◌∷◌, ◌++◌, length, take, slice_index, flat_map, IsUtf8, encode_utf8_all, refl, sym, ap, ap₂, subst, ◌∙◌, arith, ⊎_elim, append-nil, append_assoc, take_at}
use Rattle.std.specs.Prelude.{chars}
use Rattle.std.specs.Char.{digit_char, encode_utf8}
use Rattle.std.specs.Str.{continuation_len, is_utf8}
use Rattle.std.proofs.lemmas.Bool.{cases_Bool, cases_lt, cond-true, cond-false, and_parts}
use Rattle.std.proofs.lemmas.Bool.Decides.{nat_tests}
use Rattle.std.proofs.lemmas.Grind.{flat_map-append}
use Rattle.std.proofs.lemmas.List.{take_more, flat_map_more}
use Rattle.std.proofs.lemmas.Str.{encodes-append, IsUtf8-from_is_utf8, is_utf8-from_IsUtf8, IsCharBoundary-start, IsUtf8-encode, chars-encodes}
use lib.Dec.{ltb}
use lib.Utf8.{scalar, scalars}
use Rattle.std.specs.Char.Escape.{backslash}
use Rattle.bser_format.specs.declared.bytestring.NulForm.{NulForm}
use Rattle.bser_format.specs.declared.bytestring.NulForm.TheVariants.{Code, Short}
use Rattle.bser_format.specs.ByteStrings.{quoted_byte, escape_by}
use Rattle.bser_format.specs.Escaped.{escaped_byte, first_piece, escaped_after, escaped_chars, escaped, quoted}

-- no character begins with a byte that goes on one
pub going_on : (b : ℕ) (bs : List ℕ) → 128 ≤ b → b < 192 → is_utf8 (first_piece b bs) ≡ false
going_on b bs low high = ⊎_elim
    (λ yes. let start = IsCharBoundary-start _ (IsUtf8-from_is_utf8 _ yes) in absurd (omega (arith, start.1 (omega arith) low)))
    (λ other. other)
    (cases_Bool (is_utf8 (first_piece b bs)))

pub escaped_chars-nil : escaped_chars [] ≡ []
unfolding escaped_after
escaped_chars-nil = refl

pub escaped_chars-stray : (b : ℕ) (bs : List ℕ) → is_utf8 (first_piece b bs) ≡ false → escaped_chars (b ∷ bs) ≡ escaped_byte b ++ escaped_chars bs
unfolding escaped_after
escaped_chars-stray b bs other = cond-false _ _ _ other

escaped_chars-piece : (b : ℕ) (bs : List ℕ) (n : ℕ) → continuation_len b ≡ n → IsUtf8 (take (suc n) (b ∷ bs))
    → escaped_chars (b ∷ bs) ≡ chars (take (suc n) (b ∷ bs)) ++ escaped_after n bs
unfolding escaped_after
escaped_chars-piece b bs n is u =
    let yes : is_utf8 (first_piece b bs) ≡ true = ap (λ k. is_utf8 (take (suc k) (b ∷ bs))) is ∙ is_utf8-from_IsUtf8 _ u in
    cond-true _ _ _ yes ∙ ap (λ k. chars (take (suc k) (b ∷ bs)) ++ escaped_after k bs) is

-- the rest of a character is passed over
escaped_after-past : (xs rest : List ℕ) → escaped_after (length xs) (xs ++ rest) ≡ escaped_chars rest
unfolding escaped_after
escaped_after-past [] rest = refl
escaped_after-past (x ∷ xs) rest = escaped_after-past xs rest

-- a character's bytes, of which the first says how many follow
pub record Spelled (c : ℕ) : Type 0 where
  pub first : ℕ
  pub others : List ℕ
  pub whole : encode_utf8 c ≡ first ∷ others
  pub follow : continuation_len first ≡ length others

abbrev by : (A : Type 0) → A → A
by A a = a

pub spelled : (c : ℕ) → Spelled c
unfolding encode_utf8
spelled c = ⊎_elim
    (λ one. record { first = c; others = []; whole = cond-true _ _ _ (by (ltb c 128 ≡ true) (grind (arith, nat_tests))); follow = grind (arith, nat_tests) })
    (λ more.
    let not_one : ltb c 128 ≡ false = grind (arith, nat_tests) in
    ⊎_elim
    (λ two. record {
      first = 192 + c / 64;
      others = (128 + c % 64) ∷ [];
      whole = cond-false _ _ _ not_one ∙ cond-true _ _ _ (by (ltb c 2048 ≡ true) (grind (arith, nat_tests)));
      follow = grind (arith, nat_tests);
    })
    (λ many.
    let not_two : ltb c 2048 ≡ false = grind (arith, nat_tests) in
    ⊎_elim
    (λ three. record {
      first = 224 + c / 4096;
      others = (128 + (c / 64) % 64) ∷ (128 + c % 64) ∷ [];
      whole = cond-false _ _ _ not_one ∙ cond-false _ _ _ not_two ∙ cond-true _ _ _ (by (ltb c 65536 ≡ true) (grind (arith, nat_tests)));
      follow = grind (arith, nat_tests);
    })
    (λ four.
    let not_three : ltb c 65536 ≡ false = grind (arith, nat_tests) in
    record {
      first = 240 + c / 262144;
      others = (128 + (c / 4096) % 64) ∷ (128 + (c / 64) % 64) ∷ (128 + c % 64) ∷ [];
      whole = cond-false _ _ _ not_one ∙ cond-false _ _ _ not_two ∙ cond-false _ _ _ not_three;
      follow = grind (arith, nat_tests);
    })
    (cases_lt c 65536))
    (cases_lt c 2048))
    (cases_lt c 128)

chars-encode : (c : ℕ) → scalar c ≡ true → chars (encode_utf8 c) ≡ c ∷ []
chars-encode c is = ap chars (sym (append-nil (encode_utf8 c))) ∙ chars-encodes (c ∷ []) (ap (λ t. t && true) is)

-- a character at the front stays
pub escaped_chars-char : (c : ℕ) (rest : List ℕ) → scalar c ≡ true → escaped_chars (encode_utf8 c ++ rest) ≡ c ∷ escaped_chars rest
escaped_chars-char c rest is =
    let s = spelled c in
    let n = length s.others in
    let front : take (suc n) (s.first ∷ (s.others ++ rest)) ≡ encode_utf8 c =
    ap (λ t. s.first ∷ t) (take_at s.others rest n refl) ∙ sym s.whole in
    let u : IsUtf8 (take (suc n) (s.first ∷ (s.others ++ rest))) = subst IsUtf8 (sym front) (IsUtf8-encode c is) in
    ap (λ t. escaped_chars (t ++ rest)) s.whole
    ∙ escaped_chars-piece s.first (s.others ++ rest) n s.follow u
    ∙ ap (λ t. t ++ escaped_after n (s.others ++ rest)) (ap chars front ∙ chars-encode c is)
    ∙ ap (λ t. c ∷ t) (escaped_after-past s.others rest)

escaped_chars-encodes : (cs rest : List ℕ) → scalars cs ≡ true → escaped_chars (encode_utf8_all cs ++ rest) ≡ cs ++ escaped_chars rest
escaped_chars-encodes [] rest all = refl
escaped_chars-encodes (c ∷ cs) rest all =
    let both = and_parts _ _ all in
    ap escaped_chars (append_assoc (encode_utf8 c) (encode_utf8_all cs) rest)
    ∙ escaped_chars-char c (encode_utf8_all cs ++ rest) both.0
    ∙ ap (λ t. c ∷ t) (escaped_chars-encodes cs rest both.1)

-- text at the front stays
pub escaped_chars-text : (text rest : List ℕ) → IsUtf8 text → escaped_chars (text ++ rest) ≡ chars text ++ escaped_chars rest
escaped_chars-text text rest u =
    let own : chars text ≡ u.0 = ap chars (sym u.1.1) ∙ chars-encodes u.0 u.1.0 in
    ap (λ t. escaped_chars (t ++ rest)) (sym u.1.1) ∙ escaped_chars-encodes u.0 rest u.1.0 ∙ ap (λ t. t ++ escaped_chars rest) (sym own)

-- what a function gives of one more byte, as bytes
pub encode-more : (f : ℕ → List ℕ) (bs : List ℕ) (i : ℕ) → i < length bs
    → encode_utf8_all (flat_map f (take (i + 1) bs)) ≡ encode_utf8_all (flat_map f (take i bs)) ++ encode_utf8_all (f (slice_index bs i))
encode-more f bs i within =
    ap (λ t. encode_utf8_all (flat_map f t)) (take_more bs i 0 within)
    ∙ ap encode_utf8_all (sym (flat_map_more f [] (take i bs) (slice_index bs i)))
    ∙ encodes-append (flat_map f (take i bs)) (f (slice_index bs i))

-- two digits as bytes
encode-digits : (b : ℕ) → encode_utf8_all (digit_char (b / 16 % 16) ∷ digit_char (b % 16) ∷ []) ≡ encode_utf8 (digit_char (b / 16 % 16)) ++ encode_utf8 (digit_char (b % 16))
encode-digits b = ap (λ t. encode_utf8 (digit_char (b / 16 % 16)) ++ t) (append-nil (encode_utf8 (digit_char (b % 16))))

encode-escaped_byte : (b : ℕ) → encode_utf8_all (escaped_byte b) ≡ (92 ∷ 120 ∷ []) ++ (encode_utf8 (digit_char (b / 16 % 16)) ++ encode_utf8 (digit_char (b % 16)))
unfolding encode_utf8
encode-escaped_byte b =
    encodes-append (92 ∷ 120 ∷ []) (digit_char (b / 16 % 16) ∷ digit_char (b % 16) ∷ [])
    ∙ ap (λ t. (92 ∷ 120 ∷ []) ++ t) (encode-digits b)

encode-quoted_byte : (b : ℕ) → encode_utf8_all (quoted_byte b) ≡ (92 ∷ 92 ∷ 120 ∷ []) ++ (encode_utf8 (digit_char (b / 16 % 16)) ++ encode_utf8 (digit_char (b % 16)))
unfolding encode_utf8
encode-quoted_byte b =
    encodes-append (92 ∷ 92 ∷ 120 ∷ []) (digit_char (b / 16 % 16) ∷ digit_char (b % 16) ∷ [])
    ∙ ap (λ t. (92 ∷ 92 ∷ 120 ∷ []) ++ t) (encode-digits b)

-- one more escaped byte at the end of a text
pub escaped_byte-pushed : (now old bs : List ℕ) (i : ℕ) → i < length bs → now ≡ old ++ encode_utf8_all (flat_map escaped_byte (take i bs))
    → ((now ++ 92 ∷ 120 ∷ []) ++ encode_utf8 (digit_char (slice_index bs i / 16 % 16))) ++ encode_utf8 (digit_char (slice_index bs i % 16))
    ≡ old ++ encode_utf8_all (flat_map escaped_byte (take (i + 1) bs))
escaped_byte-pushed now old bs i within is =
    let b = slice_index bs i in
    let high = encode_utf8 (digit_char (b / 16 % 16)) in
    let low = encode_utf8 (digit_char (b % 16)) in
    let done = encode_utf8_all (flat_map escaped_byte (take i bs)) in
    append_assoc (now ++ 92 ∷ 120 ∷ []) high low
    ∙ append_assoc now (92 ∷ 120 ∷ []) (high ++ low)
    ∙ ap (λ t. now ++ t) (sym (encode-escaped_byte b))
    ∙ ap (λ t. t ++ encode_utf8_all (escaped_byte b)) is
    ∙ append_assoc old done (encode_utf8_all (escaped_byte b))
    ∙ ap (λ t. old ++ t) (sym (encode-more escaped_byte bs i within))

-- the same of the quoted form
pub quoted_byte-written : (bs : List ℕ) (i : ℕ) → i < length bs
    → ((encode_utf8_all (flat_map quoted_byte (take i bs)) ++ 92 ∷ 92 ∷ 120 ∷ []) ++ encode_utf8 (digit_char (slice_index bs i / 16 % 16))) ++ encode_utf8 (digit_char (slice_index bs i % 16))
    ≡ encode_utf8_all (flat_map quoted_byte (take (i + 1) bs))
quoted_byte-written bs i within =
    let b = slice_index bs i in
    let high = encode_utf8 (digit_char (b / 16 % 16)) in
    let low = encode_utf8 (digit_char (b % 16)) in
    let done = encode_utf8_all (flat_map quoted_byte (take i bs)) in
    append_assoc (done ++ 92 ∷ 92 ∷ 120 ∷ []) high low
    ∙ append_assoc done (92 ∷ 92 ∷ 120 ∷ []) (high ++ low)
    ∙ ap (λ t. done ++ t) (sym (encode-quoted_byte b))
    ∙ sym (encode-more quoted_byte bs i within)

-- ---- between the quotes

-- a digit stays
escape-digit : (nul : NulForm) (n : ℕ) → escape_by nul (digit_char (n % 16)) ≡ digit_char (n % 16) ∷ []
escape-digit Code n = grind (arith, nat_tests)
escape-digit Short n = grind (arith, nat_tests)

escape-escaped_byte : (nul : NulForm) (b : ℕ) → flat_map (escape_by nul) (escaped_byte b) ≡ quoted_byte b
escape-escaped_byte Code b =
    ap (λ t. backslash ∷ backslash ∷ 120 ∷ (t ++ (escape_by Code (digit_char (b % 16)) ++ []))) (escape-digit Code (b / 16))
    ∙ ap (λ t. backslash ∷ backslash ∷ 120 ∷ digit_char (b / 16 % 16) ∷ (t ++ [])) (escape-digit Code b)
escape-escaped_byte Short b =
    ap (λ t. backslash ∷ backslash ∷ 120 ∷ (t ++ (escape_by Short (digit_char (b % 16)) ++ []))) (escape-digit Short (b / 16))
    ∙ ap (λ t. backslash ∷ backslash ∷ 120 ∷ digit_char (b / 16 % 16) ∷ (t ++ [])) (escape-digit Short b)

escape-escaped_bytes : (nul : NulForm) (bs : List ℕ) → flat_map (escape_by nul) (flat_map escaped_byte bs) ≡ flat_map quoted_byte bs
escape-escaped_bytes nul [] = refl
escape-escaped_bytes nul (b ∷ bs) =
    flat_map-append (escape_by nul) (escaped_byte b) (flat_map escaped_byte bs)
    ∙ ap₂ (λ s t. s ++ t) (escape-escaped_byte nul b) (escape-escaped_bytes nul bs)

-- the escaped text by its parts, and what is written of it between the quotes
pub escaped-parts : (bs text invalid rest : List ℕ) → IsUtf8 text → escaped_chars bs ≡ chars text ++ (flat_map escaped_byte invalid ++ escaped_chars rest)
    → escaped bs ≡ text ++ (encode_utf8_all (flat_map escaped_byte invalid) ++ escaped rest)
escaped-parts bs text invalid rest u parts =
    let own : chars text ≡ u.0 = ap chars (sym u.1.1) ∙ chars-encodes u.0 u.1.0 in
    ap encode_utf8_all parts
    ∙ encodes-append (chars text) (flat_map escaped_byte invalid ++ escaped_chars rest)
    ∙ ap₂ (λ s t. s ++ t) (ap encode_utf8_all own ∙ u.1.1) (encodes-append (flat_map escaped_byte invalid) (escaped_chars rest))

pub quoted-parts : (nul : NulForm) (bs text invalid rest : List ℕ) → escaped_chars bs ≡ chars text ++ (flat_map escaped_byte invalid ++ escaped_chars rest)
    → encode_utf8_all (flat_map (escape_by nul) (escaped_chars bs))
    ≡ encode_utf8_all (flat_map (escape_by nul) (chars text)) ++ (encode_utf8_all (flat_map quoted_byte invalid) ++ encode_utf8_all (flat_map (escape_by nul) (escaped_chars rest)))
quoted-parts nul bs text invalid rest parts =
    let escape = escape_by nul in
    let strays = flat_map escaped_byte invalid in
    let more = escaped_chars rest in
    ap (λ t. encode_utf8_all (flat_map escape t)) parts
    ∙ ap encode_utf8_all (flat_map-append escape (chars text) (strays ++ more))
    ∙ encodes-append (flat_map escape (chars text)) (flat_map escape (strays ++ more))
    ∙ ap (λ t. encode_utf8_all (flat_map escape (chars text)) ++ t)
    (ap encode_utf8_all (flat_map-append escape strays more)
    ∙ encodes-append (flat_map escape strays) (flat_map escape more)
    ∙ ap (λ t. encode_utf8_all t ++ encode_utf8_all (flat_map escape more)) (escape-escaped_bytes nul invalid))

pub encode-quote : encode_utf8 0x22 ≡ 0x22 ∷ []
unfolding encode_utf8
encode-quote = refl

pub encode-quoted : (escape : ℕ → List ℕ) (bs : List ℕ) → encode_utf8_all (quoted escape bs) ≡ (0x22 ∷ encode_utf8_all (flat_map escape (escaped_chars bs))) ++ encode_utf8 0x22
unfolding encode_utf8
encode-quoted escape bs = ap (λ t. 0x22 ∷ t) (encodes-append (flat_map escape (escaped_chars bs)) (0x22 ∷ []))
