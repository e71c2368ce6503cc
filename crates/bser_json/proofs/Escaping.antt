-- A character has one escape, in a JSON text and in what `{}` prints.
use Rattle.std.proofs.Common.{◌≡◌, ℕ, zero, suc, ◌<◌, ◌≤◌, Bool, true, false, Option, Some, None, if◌then◌else◌, ◌&&◌, ◌==◌, nat_lt, flat_map, codes, List, [], ◌∷◌, ◌++◌, length, get_or, inl, inr, refl, sym, ap, ap₂, ◌∙◌, subst, arith, append_assoc, append-nil, ltb-true}
use Rattle.std.proofs.lemmas.Bool.{and_parts, cases_lt, cases_eq}
use Rattle.std.proofs.lemmas.Str.{encode_ascii, encodes-append, encodes-chars, inside_one}
use Rattle.std.proofs.lemmas.Bool.Decides.{nat_tests}
use Rattle.std.proofs.lemmas.Slice.Eq.{bytes_eq-Decides}
use Rattle.std.specs.List.{slice_get}
use Rattle.std.specs.Str.{IsUtf8, chars, bytes_eq}
use lib.Utf8.{encode, encodes}
use Rattle.json.specs.Print.{escape_byte, escape}
use Rattle.json.proofs.Printed.Strings.{escape_byte_plain}
use Rattle.bser_format.specs.QuotedText.{between_quotes, json_escape, key_mark, mark_before}
use Rattle.bser_json.specs.Alike.{StringsAlike}

-- ---- below 128

abbrev are_ascii : List ℕ → Bool
are_ascii [] = true
are_ascii (x ∷ xs) = nat_lt x 128 && are_ascii xs

encodes_itself : (xs : List ℕ) → are_ascii xs ≡ true → encodes xs ≡ xs
encodes_itself [] e = refl
encodes_itself (x ∷ xs) e =
    let p = and_parts _ _ e in
    ap₂ (λ (a b : List ℕ). a ++ b) (encode_ascii x (ltb-true _ _ p.0)) (encodes_itself xs p.1)

abbrev alike : ℕ → Bool
alike n = bytes_eq (escape_byte n) (json_escape n) && are_ascii (json_escape n)

abbrev alike_below : ℕ → Bool
alike_below zero = true
alike_below (suc n) = alike n && alike_below n

all_alike : alike_below 128 ≡ true
unfolding escape_byte
all_alike = refl

alike_at : (n : ℕ) → alike_below n ≡ true → (x : ℕ) → x < n → alike x ≡ true
alike_at zero e x h = absurd (omega arith)
alike_at (suc n) e x h =
    let p = and_parts (alike n) (alike_below n) e in
    elim (cases_eq x n) [ inl same ↦ subst (λ k. alike k ≡ true) (sym same) p.0 | inr other ↦ alike_at n p.1 x (omega arith) ]

-- ---- from 128 on

escape_high : (xs : List ℕ) → ((k : ℕ) → k < length xs → 128 ≤ get_or xs k 0) → escape xs ≡ xs
escape_high [] h = refl
escape_high (x ∷ xs) h =
    let high : 128 ≤ x = h 0 (omega arith) in
    ap₂ (λ (a b : List ℕ). a ++ b) (escape_byte_plain x (λ e. omega arith) (λ e. omega arith) (omega arith)) (escape_high xs (λ k below. h (suc k) (omega arith)))

stays : (c : ℕ) → 128 ≤ c → json_escape c ≡ c ∷ []
stays c big = grind (arith, nat_tests, big)

-- ---- all characters

escape-append : (xs ys : List ℕ) → escape (xs ++ ys) ≡ escape xs ++ escape ys
escape-append [] ys = refl
escape-append (x ∷ xs) ys = ap (λ l. escape_byte x ++ l) (escape-append xs ys) ∙ sym (append_assoc (escape_byte x) _ _)

one_char : (c : ℕ) → escape (encode c) ≡ encodes (json_escape c)
one_char c = elim (cases_lt c 128) [
  | inl small ↦
      let a = and_parts (bytes_eq (escape_byte c) (json_escape c)) (are_ascii (json_escape c)) (alike_at 128 all_alike c small) in
      ap escape (encode_ascii c small) ∙ append-nil (escape_byte c) ∙ (bytes_eq-Decides (escape_byte c) (json_escape c)).0 a.0 ∙ sym (encodes_itself (json_escape c) a.1)
  | inr big ↦
      let high : (k : ℕ) → k < length (encode c) → 128 ≤ get_or (encode c) k 0 = λ k below. elim (cases_lt (get_or (encode c) k 0) 128) [
        | inl low ↦ absurd (omega (arith, inside_one c [] (encode c) k (sym (append-nil _)) below low))
        | inr h ↦ h
      ] in
      escape_high (encode c) high ∙ sym (append-nil (encode c)) ∙ ap encodes (sym (stays c big))
]

all_chars : (cs : List ℕ) → escape (encodes cs) ≡ encodes (flat_map json_escape cs)
all_chars [] = refl
all_chars (c ∷ cs) =
    escape-append (encode c) (encodes cs) ∙ ap₂ (λ (a b : List ℕ). a ++ b) (one_char c) (all_chars cs) ∙ sym (encodes-append (json_escape c) (flat_map json_escape cs))

escaped : (s : List ℕ) → IsUtf8 s → escape s ≡ between_quotes s
escaped s u = ap escape (sym (encodes-chars s u)) ∙ all_chars (chars s)

-- ---- a key's dollar sign

mark_stays : (o : Option ℕ) → escape (mark_before o) ≡ mark_before o
unfolding escape_byte
mark_stays None = refl
mark_stays (Some c) = by (c == 0x24)
  where
    by : (b : Bool) → escape (if b then codes "$" else []) ≡ (if b then codes "$" else [])
    by true = refl
    by false = refl

pub strings_alike : StringsAlike
strings_alike s u =
    let same = escaped s u in (
      ap (λ l. 34 ∷ (l ++ 34 ∷ [])) same,
      ap (λ l. (34 ∷ (l ++ 34 ∷ [])) ++ 58 ∷ []) (escape-append (key_mark s) s ∙ ap₂ (λ (a b : List ℕ). a ++ b) (mark_stays (slice_get s 0)) same)
          ∙ grind (arith, append_assoc),
    )
