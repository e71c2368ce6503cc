-- How the plain reader of messages refuses: by the head, by the value, or where the body ends.
use Rattle.std.proofs.Common.{◌≡◌, ℕ, ◌+◌, ◌-◌, ◌^◌, ◌<◌, Bool, true, false, cond, List, ◌++◌, length, length-append, nat_eq, nat_lt, refl, ap, ◌∙◌, arith}
use Rattle.std.specs.Prelude.{pos}
use Rattle.std.proofs.lemmas.Bool.{ltb-true, eqb-true}
use Rattle.bser_format.specs.Grammar.{IntSize, int8, int16, int32, int64, int_bytes, SpellsCount}
use Rattle.bser_format.specs.Message.{Head}
use Rattle.bser_format.specs.declared.errors.Error.{Error}
use Rattle.bser_format.specs.declared.errors.Error.TheVariants.{DeEof}
use Rattle.bser_format.specs.declared.errors.Complaint.TheVariants.{CountTooGreat}
use Rattle.bser_format.specs.Named as named
use Rattle.bser_format.specs.Named.{Reader, reads, refuses, give, refuse, complain, and_then, ends, ends_at}
use Rattle.bser_format.proofs.Steps.{Passes}
use Rattle.bser_bunser.specs.Refusal.{end_refusal}
use Rattle.bser_deserializer.specs.Reading.{IsRefusal}

-- ---- a head is short

count_length : (k : ℕ) (text : List ℕ) → SpellsCount k text → length text < 10
count_length k text h = go h.size (ap length h.spelled)
  where
    go : (s : IntSize) → length text ≡ length (int_bytes s (pos k)) → length text < 10
    go int8 e = omega (arith, e)
    go int16 e = omega (arith, e)
    go int32 e = omega (arith, e)
    go int64 e = omega (arith, e)

pub head_length : (c k : ℕ) (text : List ℕ) → Head c k text → length text < 16
head_length c k text h =
    let s = h.1.second in
    let last = count_length k s.rest s.second in
    let four : length s.front ≡ 4 = ap length s.first in
    let two : length h.1.front ≡ 2 = ap length h.1.first in
    omega (arith, ap length h.1.whole, ap length s.whole, length-append h.1.front h.1.rest, length-append s.front s.rest, last, four, two)

-- ---- the reader of messages

-- what reads on after a head
abbrev body : Reader Unit → List ℕ → ℕ × ℕ → Reader (ℕ × Unit)
body r all h b = and_then (λ u. ends_at all b h.1 (h.0, u)) (r b)

pub head_bad : (r : Reader Unit) (e : Error) (x : List ℕ) → named.head x ≡ refuses e → named.message r x ≡ refuses e
head_bad r e x h = ap (and_then (body r x)) h

pub value_bad : (r : Reader Unit) (e : Error) (c k : ℕ) (head x : List ℕ) → Passes named.head (c, k) head → r x ≡ refuses e → named.message r (head ++ x) ≡ refuses e
value_bad r e c k head x first bad = ap (and_then (body r (head ++ x))) (first x) ∙ ap (and_then (λ u. ends_at (head ++ x) x k (c, u))) bad

-- where the body began and where it ends, by what is left
end_at : (r : Reader Unit) (c k : ℕ) (head value x : List ℕ) → Passes named.head (c, k) head → r (value ++ x) ≡ reads tt x
    → named.message r (head ++ (value ++ x)) ≡ ends (length head) k (length head + length value) (c, tt) x
end_at r c k head value x first second =
    let all = head ++ (value ++ x) in
    let start : length all - length (value ++ x) ≡ length head = omega (arith, length-append head (value ++ x)) in
    let now : length all - length x ≡ length head + length value = omega (arith, length-append head (value ++ x), length-append value x) in
    ap (and_then (body r all)) (first (value ++ x)) ∙ ap (and_then (λ u. ends_at all (value ++ x) k (c, u))) second
    ∙ ap (λ s. ends s k (length all - length x) (c, tt) x) start ∙ ap (λ n. ends (length head) k n (c, tt) x) now

-- a body that does not end there
not_there : {X : Type 0} (start k now : ℕ) (v : X) (x : List ℕ) → (start + k ≡ now → start + k < 2 ^ 63 → ⊥) → ends start k now v x ≡ refuses (end_refusal (pos start) (pos k) now)
not_there start k now v x none = go (nat_lt (start + k) (2 ^ 63)) (nat_eq (start + k) now) refl refl
  where
    go : (small same : Bool) → nat_lt (start + k) (2 ^ 63) ≡ small → nat_eq (start + k) now ≡ same
        → cond small (cond same (give v) (refuse (DeEof (start + k) now))) (refuse (complain CountTooGreat)) x ≡ refuses (cond small (DeEof (start + k) now) (complain CountTooGreat))
    go true true p q = absurd (none (eqb-true (start + k) now q) (ltb-true (start + k) (2 ^ 63) p))
    go true false p q = refl
    go false same p q = refl

pub end_bad : (r : Reader Unit) (c k : ℕ) (head value x : List ℕ) → Passes named.head (c, k) head → r (value ++ x) ≡ reads tt x
    → (length head + k ≡ length head + length value → length head + k < 2 ^ 63 → ⊥)
    → named.message r (head ++ (value ++ x)) ≡ refuses (end_refusal (pos (length head)) (pos k) (length head + length value))
end_bad r c k head value x first second none = end_at r c k head value x first second ∙ not_there (length head) k (length head + length value) (c, tt) x none

-- it is a refusal by the bytes
pub end_kind : (start k now : ℕ) → IsRefusal (end_refusal (pos start) (pos k) now)
end_kind start k now = go (nat_lt (start + k) (2 ^ 63))
  where
    go : (small : Bool) → IsRefusal (cond small (DeEof (start + k) now) (complain CountTooGreat))
    go true = tt
    go false = tt
