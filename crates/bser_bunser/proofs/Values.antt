-- A value is a token and then what follows it.
use Rattle.std.proofs.Common.{◌≡◌, ℕ, Bool, true, false, cond, List, [], ◌∷◌, refl, ap, nat_eq}
use Rattle.std.specs.Int.{w64, from_le_bytes}
use Rattle.std.proofs.lemmas.Bool.{eqb-true}
use Rattle.bser_format.specs.Tree.{Tree, integer, real, bytes, text, array, object, items_of, entries_of}
use Rattle.bser_format.specs.declared.errors.Error.{Error}
use Rattle.bser_format.specs.declared.errors.Error.TheVariants.{DeInvalidStartByte}
use Rattle.bser_format.specs.declared.errors.Kind.TheVariants.{NextItem}
use Rattle.bser_format.specs.Named.{Reader, Answer, reads, refuses, and_then, ◌>>=◌, give, front, many, size, count, utf8, int_after, entry_of, value}
use Rattle.bser_bunser.specs.Tokens.{after_token, TokensBeginValues}
use Rattle.bser_bunser.specs.declared.prefix.Token.{Token}
use Rattle.bser_bunser.specs.declared.prefix.Token.TheVariants as tokens

-- a step that the token and the value share, and then what follows in each
shared : {X : Type 0} (o : Answer X) (t : X → Token) (k : Token → Reader Tree) (f : Answer X → Answer Tree)
    → ((x : X) (y : List ℕ) → f (reads x y) ≡ k (t x) y) → ((e : Error) → f (refuses e) ≡ refuses e)
    → f o ≡ and_then k (and_then (λ x. give (t x)) o)
shared (reads x y) t k f read refused = read x y
shared (refuses e) t k f read refused = refused e

-- by a tag
by_tag : (k : Token → Reader Tree) (c : Bool) (b : List ℕ) (v w : Reader Tree) (t u : Reader Token)
    → v b ≡ and_then k (t b) → w b ≡ and_then k (u b) → cond c v w b ≡ and_then k (cond c t u b)
by_tag k true b v w t u here other = here
by_tag k false b v w t u here other = other

integer_or_skip : (key : Reader (List ℕ)) (n x : ℕ) (b : List ℕ) (c : Bool) → nat_eq x 0x0c ≡ c
    → and_then (λ v. give (integer v)) (int_after (DeInvalidStartByte NextItem x) x b)
    ≡ and_then (after_token key n) (cond c (give tokens.Skip) (int_after (DeInvalidStartByte NextItem x) x >>= λ v. give (tokens.Int v)) b)
integer_or_skip key n x b true e =
    ap (λ z. and_then (λ v. give (integer v)) (int_after (DeInvalidStartByte NextItem z) z b)) (eqb-true x 0x0c e)
integer_or_skip key n x b false e =
    shared (int_after (DeInvalidStartByte NextItem x) x b) (λ v. tokens.Int v) (after_token key n) (and_then (λ v. give (integer v))) (λ v y. refl) (λ f. refl)

pub tokens_begin : TokensBeginValues
unfolding value
tokens_begin key n [] = refl
tokens_begin key n (x ∷ b) =
    let k = after_token key n in
    by_tag k (nat_eq x 0x0a) b _ _ _ _ refl
    (by_tag k (nat_eq x 0x08) b _ _ _ _ refl
    (by_tag k (nat_eq x 0x09) b _ _ _ _ refl
    (by_tag k (nat_eq x 0x07) b _ _ _ _ (shared (front 8 b) (λ s. tokens.Real (from_le_bytes w64 s)) k (and_then (λ s. give (real (from_le_bytes w64 s)))) (λ s y. refl) (λ f. refl))
    (by_tag k (nat_eq x 0x02) b _ _ _ _ (shared (size b) (λ m. tokens.Str false m) k (λ o. and_then (λ s. give (bytes s)) (and_then front o)) (λ m y. refl) (λ f. refl))
    (by_tag k (nat_eq x 0x0d) b _ _ _ _ (shared (size b) (λ m. tokens.Str true m) k (λ o. and_then (λ s. give (text s)) (and_then utf8 (and_then front o))) (λ m y. refl) (λ f. refl))
    (by_tag k (nat_eq x 0x00) b _ _ _ _ (shared (count b) (λ m. tokens.Array m) k (and_then (λ m. many (value key n) m >>= λ ts. give (array (items_of ts)))) (λ m y. refl) (λ f. refl))
    (by_tag k (nat_eq x 0x01) b _ _ _ _ (shared (count b) (λ m. tokens.Object m) k (and_then (λ m. many (entry_of key (value key n)) m >>= λ es. give (object (entries_of es)))) (λ m y. refl) (λ f. refl))
    (by_tag k (nat_eq x 0x0b) b _ _ _ _ refl (integer_or_skip key n x b (nat_eq x 0x0c) refl)))))))))
