-- The first of a struct's names that a key is.
use Rattle.std.proofs.Common.{◌≡◌, ◌≤◌, ◌<◌, ◌+◌, ℕ, zero, suc, List, [], ◌∷◌, length, drop, map, get_or, Bool, true, false, refl, sym, ap, ◌∙◌, arith}
use Rattle.std.specs.Prelude.{nat_eq, ◌&&◌, ◌≢◌}
use Rattle.std.specs.Str.{bytes_eq}
use Rattle.bser_deserializer.specs.Fields.{field_from}
use Rattle.bser_deserializer.specs.declared.field.Field.TheVariants.{Known, Unknown}

-- the names from a place on begin with the one there
pub from_here : {A : Type 0} (f : A → List ℕ) (d : A) (place : ℕ) (names : List A) → place < length names → drop place (map f names) ≡ f (get_or names place d) ∷ drop (place + 1) (map f names)
from_here f d place names h = let n : place + 1 ≡ suc place = omega arith in at place names h ∙ ap (λ m. f (get_or names place d) ∷ drop m (map f names)) (sym n)
  where
    at : (place : ℕ) (names : List _) → place < length names → drop place (map f names) ≡ f (get_or names place d) ∷ drop (suc place) (map f names)
    at place [] h = absurd (omega arith)
    at zero (x ∷ names) h = refl
    at (suc place) (x ∷ names) h = at place names (omega arith)

pub none_left : {A : Type 0} (f : A → List ℕ) (place : ℕ) (names : List A) (name : List ℕ) → length names ≤ place → field_from place (drop place (map f names)) name ≡ Unknown
none_left f place names name h = ap (λ ns. field_from place ns name) (at place names h)
  where
    at : (place : ℕ) (names : List _) → length names ≤ place → drop place (map f names) ≡ []
    at zero [] h = refl
    at (suc place) [] h = refl
    at zero (x ∷ names) h = absurd (omega arith)
    at (suc place) (x ∷ names) h = at place names (omega arith)

pub known_here : (place : ℕ) (known name : List ℕ) (names : List (List ℕ)) (b : Bool) → b ≡ bytes_eq known name → b ≡ true → field_from place (known ∷ names) name ≡ Known place
known_here place known name names b e t = rw (sym e ∙ t) refl

pub other_here : (place : ℕ) (known name : List ℕ) (names : List (List ℕ)) (b : Bool) → b ≡ bytes_eq known name → b ≡ false → field_from place (known ∷ names) name ≡ field_from (place + 1) names name
other_here place known name names b e f = let n : place + 1 ≡ suc place = omega arith in rw (sym e ∙ f, n) refl

-- ---- the same bytes

both_false : (a : Bool) {b : Bool} → false ≡ b → false ≡ (a && b)
both_false true e = e
both_false false e = refl

pub other_lengths : (xs ys : List ℕ) → length xs ≢ length ys → false ≡ bytes_eq xs ys
other_lengths [] [] h = absurd (h refl)
other_lengths [] (y ∷ ys) h = refl
other_lengths (x ∷ xs) [] h = refl
other_lengths (x ∷ xs) (y ∷ ys) h = both_false (nat_eq x y) (other_lengths xs ys (λ e. h (ap suc e)))
