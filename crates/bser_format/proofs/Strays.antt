-- The bytes at which no character starts, as `utf8_chunks` gives them.
use Rattle.std.proofs.Common.{◌≡◌, ℕ, zero, suc, ◌<◌, ◌≤◌, ◌⊎◌, Bool, true, false, true≢false, List, [], ◌∷◌, ◌++◌, length, take, drop, slice_index, flat_map, IsUtf8, refl, sym, ap, subst, ◌∙◌, arith, ⊎_elim, append_assoc, length-append, take-append-drop, drop_at, take_at}
use Rattle.std.specs.Prelude.{chars, unwrap_or}
use Rattle.std.specs.Int.{is_in_range, IsInRange}
use Rattle.std.specs.Str.{continuation_len, is_utf8}
use Rattle.std.specs.Str.Lossy.{valid_len_up_to, utf8_valid_len, utf8_error_len, utf8_invalid_len, second_byte_min, second_byte_max, error_len_after_two}
use Rattle.std.proofs.lemmas.Bool.{cases_Bool, cases_lt, cond-true, cond-false}
use Rattle.std.proofs.lemmas.Bool.Decides.{nat_tests}
use Rattle.std.proofs.lemmas.Grind.{common_steps}
use Rattle.std.proofs.lemmas.List.{get_or_append_left}
use Rattle.std.proofs.lemmas.Str.{IsUtf8-from_is_utf8, is_utf8-from_IsUtf8, IsUtf8-append}
use Rattle.bser_format.specs.Escaped.{escaped_byte, first_piece, escaped_chars}
use Rattle.bser_format.proofs.Escapes.{going_on, escaped_chars-stray, escaped_chars-text}

-- no longer front is UTF-8
valid_len-longest : (bs : List ℕ) (m k : ℕ) → k ≤ m → IsUtf8 (take k bs) → k ≤ valid_len_up_to bs m
valid_len-longest bs zero k within u = within
valid_len-longest bs (suc m) k within u = ⊎_elim
    (λ yes. subst (λ n. k ≤ n) (sym (cond-true _ _ _ yes)) within)
    (λ other. subst (λ n. k ≤ n) (sym (cond-false _ _ _ other))
    (⊎_elim
    (λ (below : k < suc m). valid_len-longest bs m k (omega arith) u)
    (λ (top : suc m ≤ k).
    let same : k ≡ suc m = omega arith in
    let yes = is_utf8-from_IsUtf8 _ (subst (λ n. IsUtf8 (take n bs)) same u) in
    absurd (true≢false (sym yes ∙ other)))
    (cases_lt k (suc m))))
    (cases_Bool (is_utf8 (take (suc m) bs)))

longest : (bs : List ℕ) (k : ℕ) → k ≤ length bs → IsUtf8 (take k bs) → k ≤ utf8_valid_len bs
unfolding utf8_valid_len
longest bs k within u = valid_len-longest bs (length bs) k within u

-- no character begins after the longest text at the front
first_is_stray : (text : List ℕ) (b : ℕ) (after : List ℕ) → IsUtf8 text → length text ≡ utf8_valid_len (text ++ b ∷ after) → is_utf8 (first_piece b after) ≡ false
first_is_stray text b after u len = ⊎_elim
    (λ yes.
    let bs = text ++ b ∷ after in
    let piece = first_piece b after in
    let back = drop (suc (continuation_len b)) (b ∷ after) in
    let whole : (text ++ piece) ++ back ≡ bs =
    append_assoc text piece back ∙ ap (λ t. text ++ t) (take-append-drop (suc (continuation_len b)) (b ∷ after)) in
    let n = length (text ++ piece) in
    let front : take n bs ≡ text ++ piece = ap (take n) (sym whole) ∙ take_at (text ++ piece) back n refl in
    let within : n ≤ length bs = omega (arith, ap length whole, length-append (text ++ piece) back) in
    let longer = longest bs n within (subst IsUtf8 (sym front) (IsUtf8-append text piece u (IsUtf8-from_is_utf8 _ yes))) in
    let some : 0 < length piece = omega arith in
    absurd (omega (arith, length-append text piece, len, longer, some)))
    (λ other. other)
    (cases_Bool (is_utf8 (first_piece b after)))

-- a byte that may follow a first byte can go on a character
second_in_range : (x y : ℕ) → is_in_range (second_byte_min x) (second_byte_max x) y ≡ true → IsInRange 0x80 0xBF y
second_in_range x y fits = grind (arith, common_steps, nat_tests)

abbrev first_fits : List ℕ → Bool
first_fits bs = is_in_range 0xC2 0xF4 (slice_index bs 0)

abbrev second_fits : List ℕ → Bool
second_fits bs = is_in_range (second_byte_min (slice_index bs 0)) (second_byte_max (slice_index bs 0)) (slice_index bs 1)

-- what ends with the first byte
no_first : (bs : List ℕ) → first_fits bs ≡ false → utf8_invalid_len bs ≤ 1
unfolding utf8_error_len
no_first bs other = grind (arith, common_steps, nat_tests)

no_second : (bs : List ℕ) → first_fits bs ≡ true → second_fits bs ≡ false → utf8_invalid_len bs ≤ 1
unfolding utf8_error_len
no_second bs first other = grind (arith, common_steps, nat_tests)

-- a first byte and a second, and what follows them
after_second : (bs : List ℕ) → first_fits bs ≡ true → second_fits bs ≡ true → (utf8_invalid_len bs ≤ 1) ⊎ (utf8_invalid_len bs ≡ unwrap_or (error_len_after_two bs) (length bs))
unfolding utf8_error_len
after_second bs first second = grind (arith, common_steps, nat_tests)

below_four : (bs : List ℕ) → unwrap_or (error_len_after_two bs) (length bs) < 4
below_four bs = grind (arith, common_steps, nat_tests)

third_goes_on : (bs : List ℕ) → 2 < unwrap_or (error_len_after_two bs) (length bs) → IsInRange 0x80 0xBF (slice_index bs 2)
third_goes_on bs long = grind (arith, common_steps, nat_tests)

-- after its first byte an invalid sequence has only bytes that go on a character
invalid-goes_on : (bs : List ℕ) (i : ℕ) → 0 < i → i < utf8_invalid_len bs → IsInRange 0x80 0xBF (slice_index bs i)
invalid-goes_on bs i some less = ⊎_elim
    (λ first. ⊎_elim
    (λ second. ⊎_elim
    (λ short. absurd (omega (arith, short)))
    (λ len.
    let most = below_four bs in
    ⊎_elim
    (λ (one : i < 2). let is : 1 ≡ i = omega arith in subst (λ k. IsInRange 0x80 0xBF (slice_index bs k)) is (second_in_range (slice_index bs 0) (slice_index bs 1) second))
    (λ (two : 2 ≤ i).
    let is : 2 ≡ i = omega (arith, most, len) in
    subst (λ k. IsInRange 0x80 0xBF (slice_index bs k)) is (third_goes_on bs (omega (arith, most, len))))
    (cases_lt i 2))
    (after_second bs first second))
    (λ other. absurd (omega (arith, no_second bs first other)))
    (cases_Bool (second_fits bs)))
    (λ other. absurd (omega (arith, no_first bs other)))
    (cases_Bool (first_fits bs))

-- each such byte is escaped by itself
each_is_stray : (xs rest : List ℕ) → ((i : ℕ) → i < length xs → IsInRange 0x80 0xBF (slice_index xs i))
    → escaped_chars (xs ++ rest) ≡ flat_map escaped_byte xs ++ escaped_chars rest
each_is_stray [] rest all = refl
each_is_stray (x ∷ xs) rest all =
    let range = all 0 (omega arith) in
    escaped_chars-stray x (xs ++ rest) (going_on x (xs ++ rest) range.0 (omega (arith, range.1)))
    ∙ ap (λ t. escaped_byte x ++ t) (each_is_stray xs rest (λ i within. all (suc i) (omega arith)))

after_text : (text invalid rest : List ℕ) → IsUtf8 text → length text ≡ utf8_valid_len (text ++ (invalid ++ rest))
    → length invalid ≡ utf8_invalid_len (invalid ++ rest) → escaped_chars (invalid ++ rest) ≡ flat_map escaped_byte invalid ++ escaped_chars rest
after_text text [] rest u len size = refl
after_text text (b ∷ more) rest u len size =
    escaped_chars-stray b (more ++ rest) (first_is_stray text b (more ++ rest) u len)
    ∙ ap (λ t. escaped_byte b ++ t)
    (each_is_stray more rest
    (λ i within.
    let goes = invalid-goes_on (b ∷ (more ++ rest)) (suc i) (omega arith) (omega (arith, size, within)) in
    subst (IsInRange 0x80 0xBF) (get_or_append_left more rest 0 i within) goes))

-- of a chunk that `utf8_chunks` cuts off, the text stays and each other byte is escaped by itself
pub escaped_chars-chunk : (bs text invalid rest : List ℕ) → bs ≡ text ++ (invalid ++ rest) → IsUtf8 text → length text ≡ utf8_valid_len bs
    → length invalid ≡ utf8_invalid_len (drop (utf8_valid_len bs) bs)
    → escaped_chars bs ≡ chars text ++ (flat_map escaped_byte invalid ++ escaped_chars rest)
escaped_chars-chunk bs text invalid rest parts u len size =
    let tail : drop (utf8_valid_len bs) bs ≡ invalid ++ rest =
    ap (drop (utf8_valid_len bs)) parts ∙ drop_at text (invalid ++ rest) (utf8_valid_len bs) len in
    ap escaped_chars parts
    ∙ escaped_chars-text text (invalid ++ rest) u
    ∙ ap (λ t. chars text ++ t) (after_text text invalid rest u (len ∙ ap utf8_valid_len parts) (size ∙ ap utf8_invalid_len tail))
