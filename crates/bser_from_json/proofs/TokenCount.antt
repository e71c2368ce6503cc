-- A text has no more tokens than bytes, and one that is bad.
use Rattle.std.proofs.Common.{ℕ, suc, ◌≤◌, List, [], ◌∷◌, length, Bool, true, false, arith}
use Rattle.json.specs.Token.{Token, begin_object, end_object, begin_array, end_array, key, string, number, boolean, null, bad}
use Rattle.json.specs.Lex.{Lexeme, token, comma, colon, Class, quote, backslash, operator, space, other, class, Mode, between, in_word, in_string, in_escape, lex, lex_byte, Place, fresh, after_value, after_comma, after_key, begins_colon, if_allowed, may_begin, may_close, place_token, punctuate, tokens}

-- ---- lexemes

of_byte : (m : Mode) (c : Class) (x : ℕ) (xs : List ℕ) (k : Mode → List Lexeme) (n : ℕ) → ((next : Mode) → length (k next) ≤ n) → length (lex_byte m c x xs k) ≤ suc n
of_byte between quote x xs k n h = omega (arith, h in_string)
of_byte between backslash x xs k n h = omega (arith, h in_word)
of_byte between operator x xs k n h = omega (arith, h between)
of_byte between space x xs k n h = omega (arith, h between)
of_byte between other x xs k n h = omega (arith, h in_word)
of_byte in_word quote x xs k n h = omega (arith, h in_word)
of_byte in_word backslash x xs k n h = omega (arith, h in_word)
of_byte in_word operator x xs k n h = omega (arith, h between)
of_byte in_word space x xs k n h = omega (arith, h between)
of_byte in_word other x xs k n h = omega (arith, h in_word)
of_byte in_string quote x xs k n h = omega (arith, h between)
of_byte in_string backslash x xs k n h = omega (arith, h in_escape)
of_byte in_string operator x xs k n h = omega (arith, h in_string)
of_byte in_string space x xs k n h = omega (arith, h in_string)
of_byte in_string other x xs k n h = omega (arith, h in_string)
of_byte in_escape quote x xs k n h = omega (arith, h in_string)
of_byte in_escape backslash x xs k n h = omega (arith, h in_string)
of_byte in_escape operator x xs k n h = omega (arith, h in_string)
of_byte in_escape space x xs k n h = omega (arith, h in_string)
of_byte in_escape other x xs k n h = omega (arith, h in_string)

lexemes : (m : Mode) (d : List ℕ) → length (lex m d) ≤ length d
unfolding lex
lexemes m [] = omega arith
lexemes m (x ∷ xs) = of_byte m (class x) x xs (λ next. lex next xs) (length xs) (λ next. lexemes next xs)

-- ---- tokens

allowed : (b : Bool) (t : Token) (k : Place → List Token) (p : Place) (n : ℕ) → length (k p) ≤ n → length (if_allowed b t k p) ≤ suc n
allowed true t k p n h = omega (arith, h)
allowed false t k p n h = omega arith

placed : (p : Place) (t : Token) (b : Bool) (k : Place → List Token) (n : ℕ) → ((next : Place) → length (k next) ≤ n) → length (place_token p t b k) ≤ suc n
placed p begin_object b k n h = allowed (may_begin p) begin_object k fresh n (h fresh)
placed p end_object b k n h = allowed (may_close p) end_object k after_value n (h after_value)
placed p begin_array b k n h = allowed (may_begin p) begin_array k fresh n (h fresh)
placed p end_array b k n h = allowed (may_close p) end_array k after_value n (h after_value)
placed p (key s) b k n h = omega arith
placed p (string s) true k n h = allowed (may_begin p) (key s) k after_key n (h after_key)
placed p (string s) false k n h = allowed (may_begin p) (string s) k after_value n (h after_value)
placed p (number s) b k n h = allowed (may_begin p) (number s) k after_value n (h after_value)
placed p (boolean c) b k n h = allowed (may_begin p) (boolean c) k after_value n (h after_value)
placed p null b k n h = allowed (may_begin p) null k after_value n (h after_value)
placed p bad b k n h = omega arith

punctuated : (p : Place) (ls : List Lexeme) → length (punctuate p ls) ≤ suc (length ls)
unfolding punctuate
punctuated fresh [] = omega arith
punctuated after_value [] = omega arith
punctuated after_comma [] = omega arith
punctuated after_key [] = omega arith
punctuated fresh (token t ∷ ls) = placed fresh t (begins_colon ls) (λ next. punctuate next ls) (suc (length ls)) (λ next. punctuated next ls)
punctuated after_value (token t ∷ ls) = placed after_value t (begins_colon ls) (λ next. punctuate next ls) (suc (length ls)) (λ next. punctuated next ls)
punctuated after_comma (token t ∷ ls) = placed after_comma t (begins_colon ls) (λ next. punctuate next ls) (suc (length ls)) (λ next. punctuated next ls)
punctuated after_key (token t ∷ ls) = placed after_key t (begins_colon ls) (λ next. punctuate next ls) (suc (length ls)) (λ next. punctuated next ls)
punctuated fresh (comma ∷ ls) = omega arith
punctuated after_value (comma ∷ ls) = omega (arith, punctuated after_comma ls)
punctuated after_comma (comma ∷ ls) = omega arith
punctuated after_key (comma ∷ ls) = omega arith
punctuated fresh (colon ∷ ls) = omega arith
punctuated after_value (colon ∷ ls) = omega arith
punctuated after_comma (colon ∷ ls) = omega arith
punctuated after_key (colon ∷ ls) = omega (arith, punctuated fresh ls)

pub tokens-le : (d : List ℕ) → length (tokens d) ≤ suc (length d)
tokens-le d = omega (arith, punctuated fresh (lex between d), lexemes between d)
