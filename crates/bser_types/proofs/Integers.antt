-- An integer within the range of a type.
use Rattle.std.proofs.Common.{◌≡◌, ℕ, ◌-◌, ◌^◌, Bool, true, false, cond, List, ◌++◌, Some, None, ap, ◌∙◌, refl, arith}
use Rattle.std.specs.Prelude.{ℤ, pos, negsuc, if◌then◌else◌, Result, Ok, Err, OnErr}
use Rattle.std.proofs.lemmas.Bool.{ltb-true}
use Rattle.std.proofs.lemmas.Int.{ints}
use Rattle.bser_format.specs.Tree.{Tree, null, boolean, integer, real, bytes, text, array, object, template}
use Rattle.bser_format.specs.Content.{Content, number}
use Rattle.bser_format.specs.ReadsScalars.{reads_signed, reads_integer, is_signed, is_unsigned}
use Rattle.bser_format.specs.declared.errors.Error.{Error}
use Rattle.bser_format.specs.declared.errors.Complaint.TheVariants.{IntegerOutOfRange}
use Rattle.bser_format.specs.Named.{Answer, reads, refuses, and_then, give, refuse, complain}
use Rattle.bser_format.specs.DueReaders.{asked, integer_at}
use Rattle.bser_format.specs.Clauses.{after_a_refusal}
use Rattle.bser_format.specs.Asks.{in_range}
use Rattle.bser_format.proofs.Integers.{integer_passes}
use Rattle.bser_deserializer.specs.State.{State, refused}
use Rattle.bser_deserializer.specs.Reading.{Answers, Refuses, bare}
use Rattle.bser_deserializer.specs.Holds.{HoldsNumber}
use Rattle.bser_deserializer.specs.Askings.{asking_integer}
use Rattle.bser_deserializer.proofs.Clean.{clean_integers}
use Rattle.bser_types.specs.Ranges.{LiesWithin}
use Rattle.bser_types.proofs.Taken.{taken_refused}

-- ---- an integer that the type does not hold

-- what is outside a range
abbrev outside : (ℤ → Bool) → ℤ → Bool
outside fits v = if fits v then false else true

-- what was read is an integer outside the range
read_outside : (fits : ℤ → Bool) (u : Tree) (c : Content) (v : ℤ) → reads_signed 64 u ≡ Some c → c ≡ number v → fits v ≡ false → reads_integer (outside fits) u ≡ Some c
read_outside fits null c v e held out = absurd cc
read_outside fits (boolean b) c v e held out = absurd cc
read_outside fits (integer w) c v e held out = at (is_signed 64 w) e
  where
    at : (b : Bool) → (if b then Some (number w) else None) ≡ Some c → reads_integer (outside fits) (integer w) ≡ Some c
    at true k =
        let same : w ≡ v = cc in
        ap (λ b. if (if b then false else true) then Some (number w) else None) (ap fits same ∙ out) ∙ k
    at false k = absurd cc
read_outside fits (real r) c v e held out = absurd cc
read_outside fits (bytes s) c v e held out = absurd cc
read_outside fits (text s) c v e held out = absurd cc
read_outside fits (array ts) c v e held out = absurd cc
read_outside fits (object es) c v e held out = absurd cc
read_outside fits (template ks rs) c v e held out = absurd cc

-- it is refused by the range where it was read
outside_asked : (fits : ℤ → Bool) (a : Answer ℤ) (x : List ℕ) → and_then (in_range (outside fits)) a ≡ reads tt x → and_then (in_range fits) a ≡ refuses (complain IntegerOutOfRange)
outside_asked fits (refuses f) x h = absurd cc
outside_asked fits (reads w y) x h = at (fits w) h
  where
    at : (b : Bool) → cond (cond b false true) (give (tt {0})) (refuse (complain IntegerOutOfRange)) y ≡ reads (tt {0}) x → cond b (give (tt {0})) (refuse (complain IntegerOutOfRange)) y ≡ refuses (complain IntegerOutOfRange)
    at true k = absurd cc
    at false k = refl

-- an integer was taken that is outside
pub out_of_range : (fits : ℤ → Bool) (s mid z : State) (e : Error) (v : ℤ) → Answers (reads_signed 64) HoldsNumber s mid v → (fits v ≡ true → ⊥)
    → e ≡ after_a_refusal mid.source.failed (complain IntegerOutOfRange) → z ≡ refused mid → Refuses (reads_integer fits) (Some (asking_integer fits)) bare e s z
out_of_range fits s mid z e v a out reason state =
    taken_refused bare (reads_integer fits) (asking_integer fits) s mid z a.text e (complain IntegerOutOfRange) (clean_integers fits s.opened s.levels s.due) a.took reason (ap (λ (t : State). t.source) state)
    (λ x. outside_asked fits (asked integer_at s.opened s.due (a.text ++ x)) x
    (integer_passes (outside fits) s.opened s.levels s.due a.tree a.content a.text x a.filled (read_outside fits a.tree a.content v a.read a.held (no (fits v) out))))
  where
    no : (b : Bool) → (b ≡ true → ⊥) → b ≡ false
    no true h = absurd (h refl)
    no false h = refl

-- ---- ranges

pub signed_within : (bits : ℕ) → LiesWithin (is_signed bits) (negsuc (2 ^ (bits - 1) - 1)) (pos (2 ^ (bits - 1) - 1))
signed_within bits (pos n) f h = (omega (arith, ints, ltb-true n (2 ^ (bits - 1)) h), omega (arith, ints, ltb-true n (2 ^ (bits - 1)) h))
signed_within bits (negsuc n) f h = (omega (arith, ints, ltb-true n (2 ^ (bits - 1)) h), omega (arith, ints, ltb-true n (2 ^ (bits - 1)) h))

pub unsigned_within : (bits : ℕ) → LiesWithin (is_unsigned bits) (pos 0) (pos (2 ^ bits - 1))
unsigned_within bits (pos n) f h = (omega (arith, ints), omega (arith, ints, ltb-true n (2 ^ bits) h))
unsigned_within bits (negsuc n) f h = absurd cc

-- of the range of 64 bits the half that is signed too
pub half_within : LiesWithin (is_unsigned 64) (pos 0) (pos (2 ^ 63 - 1))
half_within (pos n) f h = (omega (arith, ints), omega (arith, ints, f))
half_within (negsuc n) f h = absurd cc

-- ---- calls

-- what refuses integers of any range refuses those of one
pub for_range : {A E : Type 0} (result : Result A E) (P : (ℤ → Bool) → Type 0) (fits : ℤ → Bool) → OnErr result ((f : ℤ → Bool) → P f) → OnErr result (P fits)
for_range (Ok v) P fits h = h
for_range (Err e) P fits h = h fits
