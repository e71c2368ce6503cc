-- What follows where a call succeeds, and where it refuses.
use Rattle.std.proofs.Common.{◌≡◌, true, false, is_ok, ℕ, ◌≤◌, List, [], ◌∷◌, length, drop, get_or, ap, arith}
use Rattle.std.specs.Prelude.{Result, Ok, Err, OnOk, OnErr}
use Rattle.bser_bunser.specs.Seen.{Seen}

pub both_ok : {X E : Type 0} (P Q S : Type 0) (r : Result X E) → OnOk r P → OnOk r Q → (P → Q → S) → OnOk r S
both_ok P Q S (Ok x) p q f = f p q
both_ok P Q S (Err e) p q f = tt

pub each_ok : {X E : Type 0} (P S : Type 0) (r : Result X E) → OnOk r P → (P → S) → OnOk r S
each_ok P S (Ok x) p f = f p
each_ok P S (Err e) p f = tt

pub each_err : {X E : Type 0} (P S : Type 0) (r : Result X E) → OnErr r P → (P → S) → OnErr r S
each_err P S (Ok x) p f = tt
each_err P S (Err e) p f = f p

pub both_err : {X E : Type 0} (P Q S : Type 0) (r : Result X E) → OnErr r P → OnErr r Q → (P → Q → S) → OnErr r S
both_err P Q S (Ok x) p q f = tt
both_err P Q S (Err e) p q f = f p q

pub is_well : {X E : Type 0} (P : Type 0) (r : Result X E) → is_ok r ≡ true → OnOk r P → P
is_well P (Ok x) e p = p
is_well P (Err x) e p = absurd cc

pub is_ill : {X E : Type 0} (P : Type 0) (r : Result X E) → is_ok r ≡ false → OnErr r P → P
is_ill P (Ok x) e p = absurd cc
is_ill P (Err x) e p = p

-- the first of some bytes
pub first_is : (c : ℕ) (held : List ℕ) → 1 ≤ length held → get_or held 0 0 ≡ c → held ≡ c ∷ drop 1 held
first_is c [] some e = absurd (omega (arith, some))
first_is c (x ∷ xs) some e = ap (λ z. z ∷ xs) e

-- a call that changes nothing leaves the window
pub same_window : (a b : Seen) → a ≡ b → a.window ≡ b.window
same_window a b e = ap (λ (s : Seen). s.window) e
