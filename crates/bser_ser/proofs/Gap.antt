-- A gap that a header fills.
use Rattle.std.proofs.Common.{◌≡◌, ℕ, ◌+◌, ◌-◌, ◌≤◌, List, ◌++◌, length, take, drop, arith, ap, sym, ◌∙◌, length-append, length-drop}
use Rattle.std.specs.Prelude.{ℤ, pos, Result, Ok, Err}
use Rattle.std.proofs.Math.Seq.{drop-append-add, take-append_seam}
use Rattle.std.proofs.lemmas.Grind.{common_steps}
use Rattle.std.proofs.lemmas.List.{drop_at}
use Rattle.bser_format.specs.Canonical.{canonical_body}
use Rattle.bser_format.specs.Tree.{Tree}
use Rattle.bser_format.specs.declared.errors.Error.{Error}
use Rattle.bser_ser.specs.Ends.{text_of}
use Rattle.bser_ser.specs.Message.{front_of, message_of, FollowedBy}

-- what was appended moves to the front
pub turned : (old front bytes : List ℕ) (n k : ℕ) → bytes ≡ old ++ front → k ≡ length front → n ≡ length bytes → drop (n - k) bytes ++ take (n - k) bytes ≡ front ++ old
turned old front bytes n k e f h = grind (arith, common_steps)

-- a header that is 8 bytes longer than what is in front of a gap of 8 bytes covers both
pub covered : (old front header bytes more : List ℕ) (n : ℕ) → bytes ≡ front ++ old → length header ≡ 8 + length front → 8 ≤ length old → n ≡ length bytes
    → take n ((header ++ drop (length header) bytes) ++ more) ≡ header ++ drop 8 old
covered old front header bytes more n is f h e =
    let rest : drop (length header) bytes ≡ drop 8 old = rw is (ap (λ k. drop k (front ++ old)) (omega (arith, f)) ∙ drop-append-add front old 8) in
    let exact : n ≡ length (header ++ drop 8 old) = rw (e, is, length-append front old, length-append header (drop 8 old), length-drop 8 old) (omega (arith, f, h)) in
    ap (λ xs. take n ((header ++ xs) ++ more)) rest ∙ rw exact (take-append_seam (header ++ drop 8 old) more)

-- a header in the place of the gap before a body makes the message
pub filled : (m : Result Tree Error) (gap all new : List ℕ) (body : ℤ) → length gap ≡ 8 → FollowedBy (text_of m) gap all → body ≡ pos (length all - 8) → new ≡ front_of body ++ drop 8 all → message_of m ≡ Ok new
filled (Err e) gap all new body size followed is made = absurd followed
filled (Ok t) gap all new body size followed is made =
    let text : List ℕ = canonical_body t in
    let rest : drop 8 all ≡ text = ap (drop 8) followed ∙ drop_at gap text 8 size in
    let long : length all - 8 ≡ length text = omega (arith, size, ap length followed, length-append gap text) in
    let front : front_of body ≡ front_of (pos (length text)) = ap front_of (is ∙ ap pos long) in
    ap Ok (sym (made ∙ ap (λ h. h ++ drop 8 all) front ∙ ap (λ r. front_of (pos (length text)) ++ r) rest))
