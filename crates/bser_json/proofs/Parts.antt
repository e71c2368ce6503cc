-- A string that is put in parts.
use Rattle.std.proofs.Common.{◌≡◌, ℕ, List, [], ◌∷◌, ◌++◌, ◌/◌, ◌%◌, ◌-◌, length, take, drop, min, Option, Result, Ok, Err, OnOk, Bool, true, ◌==◌, refl, sym, ap, subst, ◌∙◌, append_assoc, append-nil, arith, length-append}
use Rattle.std.proofs.lemmas.List.{take_all, take-append-le}
use Rattle.std.specs.Prelude.{slice_index}
use Rattle.hex.specs.Hex.{encode_lower, encode_with, lower_digits}
use Rattle.json.specs.Token as tokens
use Rattle.bser_json.specs.Printed.{Prints, Puts}
use Rattle.bser_json.specs.Strings.{PrintsPart, BeginsString, AddsPart, EndsString, with_string}
use Rattle.bser_json.specs.declared.printing.Layout.{Layout}
use Rattle.bser_json.specs.declared.printing.Printing.{Printing}

-- ---- the quotes

pub between_quotes : (text : List ℕ) (end start : ℕ) → end ≡ length text - 1 → start ≡ min end 1 → (s : List ℕ) → text ≡ 34 ∷ (s ++ 34 ∷ []) → take (end - start) (drop start text) ≡ s
between_quotes text end start e b s same =
    let long : length text ≡ length (34 ∷ (s ++ 34 ∷ [])) = ap length same in
    let n = length-append s (34 ∷ []) in
    let one : start ≡ 1 = omega (arith, e, b, long, n) in
    let size : end - start ≡ length s = omega (arith, e, b, long, n) in
    (λ i. take (size i) (drop (one i) (same i))) ∙ take-append-le (length s) s (34 ∷ []) (omega arith) ∙ take_all (length s) s (omega arith)

-- ---- a string, piece by piece

-- this of a string was put, and the rest follows; `spelled` is what a part is put as
abbrev pub PutsUpTo : {W : Type 0} → (W → Option (List ℕ)) → (List ℕ → List ℕ) → List ℕ → List ℕ → Printing W → Printing W → Type 0
PutsUpTo contents spelled all rest x y =
    (start : Option (List ℕ)) (layout : Layout) (ts : List tokens.Token) → Prints contents start layout ts x
    → (done : List ℕ) × (done ++ rest ≡ all) × PrintsPart contents start layout ts (spelled done) y

pub up_to_none : {W : Type 0} (contents : W → Option (List ℕ)) (spelled : List ℕ → List ℕ) (all rest : List ℕ) (x y : Printing W) → spelled [] ≡ [] → rest ≡ all → BeginsString contents x y → PutsUpTo contents spelled all rest x y
up_to_none contents spelled all rest x y empty same begun start layout ts h =
    ([], same, subst (λ l. PrintsPart contents start layout ts l y) (sym empty) (begun start layout ts h))

pub up_to_next : {W : Type 0} (contents : W → Option (List ℕ)) (spelled : List ℕ → List ℕ) (all rest now next more : List ℕ) (x y z : Printing W) → ((a b : List ℕ) → spelled (a ++ b) ≡ spelled a ++ spelled b) → rest ≡ now ++ next → more ≡ spelled now → AddsPart contents more y z → PutsUpTo contents spelled all rest x y → PutsUpTo contents spelled all next x z
up_to_next contents spelled all rest now next more x y z splits cut is adds h start layout ts begun =
    let k = h start layout ts begun in (
      k.0 ++ now,
      append_assoc k.0 now next ∙ ap (λ l. k.0 ++ l) (sym cut) ∙ k.1,
      subst (λ l. PrintsPart contents start layout ts l z) (ap (λ l. spelled k.0 ++ l) is ∙ sym (splits k.0 now)) (adds start layout ts (spelled k.0) k.2),
    )

pub up_to_end : {W E : Type 0} (contents : W → Option (List ℕ)) (spelled : List ℕ → List ℕ) (all rest : List ℕ) (x y z : Printing W) (r : Result (Unit {0}) E) → rest ≡ [] → OnOk r (EndsString contents y z) → PutsUpTo contents spelled all rest x y → OnOk r (Puts contents (tokens.string (spelled all) ∷ []) x z)
up_to_end contents spelled all rest x y z (Ok v) none ended h = λ start layout ts begun.
    let k = h start layout ts begun in
    let whole : k.0 ≡ all = sym (append-nil k.0) ∙ ap (λ l. k.0 ++ l) (sym none) ∙ k.1 in
    subst (λ l. Prints contents start layout (with_string ts (spelled l)) z) whole (ended start layout ts (spelled k.0) k.2)
up_to_end contents spelled all rest x y z (Err e) none ended h = tt

pub hexadecimal_splits : (a b : List ℕ) → encode_lower (a ++ b) ≡ encode_lower a ++ encode_lower b
unfolding encode_with
hexadecimal_splits [] b = refl
hexadecimal_splits (x ∷ a) b = ap (λ l. slice_index lower_digits (x / 16) ∷ slice_index lower_digits (x % 16) ∷ l) (hexadecimal_splits a b)

pub no_digits : encode_lower [] ≡ []
unfolding encode_with
no_digits = refl

-- what has no byte left is empty
pub none_left : (xs : List ℕ) (empty : Bool) → empty ≡ (length xs == 0) → empty ≡ true → xs ≡ []
none_left [] empty is told = refl
none_left (x ∷ xs) empty is told = absurd (grind (arith, sym is ∙ told))
