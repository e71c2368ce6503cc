-- What a text stands for.
use Rattle.std.proofs.Common.{◌≡◌, ◌<◌, ℕ, true, false, List, [], ◌∷◌, length, take, slice_get, Option, Some, None, Ok, Err, String, string_bytes, codes, subst, sym, ap, refl, ◌∙◌, inl, inr, if◌then◌else◌, arith}
use Rattle.std.specs.Str.{IsUtf8, is_utf8, chars}
use Rattle.std.specs.declared.alloc.Global.{Global}
use Rattle.std.specs.declared.env.FillError.TheVariants.{TooLong}
use Rattle.std.proofs.lemmas.Bool.{false_from_ne_true}
use Rattle.std.proofs.lemmas.Slice.Eq.{bytes_eq-Decides}
use Rattle.std.proofs.lemmas.Str.{IsUtf8-from_is_utf8}
use Rattle.bser_canonical.specs.Arguments.{asks_compact, form_of, words}
use Rattle.bser_canonical.specs.declared.program.MessageForm.TheVariants.{Compact}
use Rattle.bser_canonical.specs.Process.{Answers, AskFor, IsTextAt, IsTextOf, StandsFor}

compact_word : (word : List ℕ) → asks_compact word ≡ true → word ≡ codes "--compact"
compact_word word e = (bytes_eq-Decides word (codes "--compact")).0 e

compact_is_text : IsUtf8 (codes "--compact")
unfolding is_utf8 chars lib.Utf8.encode
compact_is_text = IsUtf8-from_is_utf8 (codes "--compact") refl

no_text : (word : List ℕ) → ¬ IsUtf8 word → asks_compact word ≡ false
no_text word odd = false_from_ne_true (asks_compact word) (λ e. odd (subst IsUtf8 (sym (compact_word word e)) compact_is_text))

long_word : (word : List ℕ) → 64 < length word → asks_compact word ≡ false
long_word word long = false_from_ne_true (asks_compact word) (λ e. let nine : length word ≡ 9 = ap length (compact_word word e) in absurd (omega (arith, nine, long)))

-- a text of the bytes that were copied
pub copied : (o : Option (List ℕ)) (n : ℕ) (bytes : List ℕ) (s : String Global) → Answers o (Ok n) bytes → IsTextOf (take n bytes) (string_bytes s) → StandsFor o (Some s)
copied None n bytes s h e = absurd h
copied (Some word) n bytes s h (inl same) = ap asks_compact (same ∙ sym h)
copied (Some word) n bytes s h (inr other) = ap asks_compact other.0 ∙ sym (no_text word (subst (λ b. ¬ IsUtf8 b) (sym h) other.1))

empty_text : (text : List ℕ) → IsTextOf [] text → text ≡ []
empty_text text (inl same) = same
empty_text text (inr other) = other.0

-- the text of no bytes, where the word is longer than any that is known
pub too_long : (o : Option (List ℕ)) (n : ℕ) (bytes : List ℕ) (s : String Global) → Answers o (Err TooLong) bytes → length bytes ≡ 64 → n ≡ 0 → IsTextOf (take n bytes) (string_bytes s) → StandsFor o (Some s)
too_long None n bytes s h all zero_is e = absurd h
too_long (Some word) n bytes s h all zero_is e =
    let empty = empty_text (string_bytes s) (subst (λ k. IsTextOf (take k bytes) (string_bytes s)) zero_is e) in
    ap asks_compact empty ∙ sym (long_word word (subst (λ k. k < length word) all h))

-- ---- the form that is asked for

no_word : (ws : List (List ℕ)) → StandsFor (slice_get ws 0) None → form_of ws ≡ form_of []
no_word [] h = refl
no_word (w ∷ ws) h = absurd h

the_word : (ws : List (List ℕ)) (a : String Global) → StandsFor (slice_get ws 0) (Some a) → StandsFor (slice_get ws 1) None → form_of ws ≡ form_of (string_bytes a ∷ [])
the_word [] a h k = absurd h
the_word (w ∷ []) a h k = ap (λ b. if b then Some Compact else None) (sym h)
the_word (w ∷ v ∷ ws) a h k = absurd k

a_word_too_many : (ws : List (List ℕ)) (a b : String Global) → StandsFor (slice_get ws 0) (Some a) → StandsFor (slice_get ws 1) (Some b) → form_of ws ≡ form_of (string_bytes a ∷ string_bytes b ∷ [])
a_word_too_many [] a b h k = absurd h
a_word_too_many (w ∷ []) a b h k = absurd k
a_word_too_many (w ∷ v ∷ ws) a b h k = refl

-- no argument is there
pub no_words : (given : Option (List (List ℕ))) (t : Option (String Global)) (args : List (String Global)) → IsTextAt given 0 t → t ≡ None → args ≡ [] → AskFor given (form_of (words args))
no_words given t args h none empty ws told = rw (empty) (no_word ws (subst (λ x. StandsFor (slice_get ws 0) x) none (h ws told)))

-- one argument is there
pub one_word : (given : Option (List (List ℕ))) (t u : Option (String Global)) (args : List (String Global)) (a : String Global) → IsTextAt given 0 t → t ≡ Some a → IsTextAt given 1 u → u ≡ None → args ≡ a ∷ [] → AskFor given (form_of (words args))
one_word given t u args a h some k none one ws told = rw (one) (the_word ws a (subst (λ x. StandsFor (slice_get ws 0) x) some (h ws told)) (subst (λ x. StandsFor (slice_get ws 1) x) none (k ws told)))

-- two arguments are there, and maybe more
pub two_words : (given : Option (List (List ℕ))) (t u : Option (String Global)) (args : List (String Global)) (a b : String Global) → IsTextAt given 0 t → t ≡ Some a → IsTextAt given 1 u → u ≡ Some b → args ≡ a ∷ b ∷ [] → AskFor given (form_of (words args))
two_words given t u args a b h some k more two ws told = rw (two) (a_word_too_many ws a b (subst (λ x. StandsFor (slice_get ws 0) x) some (h ws told)) (subst (λ x. StandsFor (slice_get ws 1) x) more (k ws told)))
