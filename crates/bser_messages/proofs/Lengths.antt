-- The length of a message, by a head that was taken of a slice.
use Rattle.std.proofs.Common.{◌≡◌, ℕ, ◌+◌, ◌-◌, ◌^◌, min, List, [], ◌++◌, length, append_assoc, append-nil, refl, sym, ap, subst, ◌∙◌, arith}
use Rattle.std.specs.Prelude.{ℤ, pos, ◌+ℤ◌, ◌≤◌}
use Rattle.std.proofs.lemmas.Int.{ints}
use Rattle.bser_format.specs.declared.errors.Error.{Error}
use Rattle.bser_format.specs.declared.errors.Complaint.TheVariants.{CountTooGreat}
use Rattle.bser_format.specs.Named as named
use Rattle.bser_source.specs.Window.{Window, with_limit}
use Rattle.bser_source.specs.Slice.{slice_fresh}
use Rattle.bser_source.proofs.Windows.{left_took}
use Rattle.bser_bunser.specs.Tagged.{TookHead}
use Rattle.bser_messages.proofs.Ends.{head_length}
use Rattle.bser_messages.specs.Lengths.{HasLength, IsLengthOfEach, TooGreat}
use Rattle.bser_messages.proofs.Heads.{body_size}

pub each_length : (bytes : List ℕ) (n : ℕ) → HasLength bytes n → IsLengthOfEach bytes n
each_length bytes n h levels c t text m (x, y, e) =
    let all : text ++ x ≡ h.text ++ (h.rest ++ y) = e ∙ ap (λ b. b ++ y) h.front ∙ append_assoc h.text h.rest y in
    let p = body_size levels c t text m h.capabilities h.announced h.text x (h.rest ++ y) h.head all in
    p.1 ∙ sym h.total

-- where the head ends and the body's length, together
pub taken_length : (bytes : List ℕ) (b : Window) (c : ℕ) (len start : ℤ) → TookHead (slice_fresh bytes) b c len → start ≡ pos (min b.count (2 ^ 63 - 1))
    → (n : ℕ) × HasLength bytes n × (start +ℤ len ≡ pos n)
taken_length bytes b c len start h at =
    let r = left_took (slice_fresh bytes) (with_limit 0 b) h.text (bytes ++ []) h.took refl in
    let count : b.count ≡ length h.text = omega (arith, h.took.count) in
    let small = head_length c h.size h.text h.head in
    let place : min b.count (2 ^ 63 - 1) ≡ length h.text = omega (arith, count, small) in
    let start' : start ≡ pos (length h.text) = at ∙ ap pos place in
    let len' : len ≡ pos h.size = h.value in (
      length h.text + h.size,
      record { capabilities = c; announced = h.size; text = h.text; rest = r.0; front = sym (append-nil bytes) ∙ r.2; head = h.head; total = refl },
      omega (arith, ints, start', len'),
    )

-- the same by the window that a slice is read through, and the sum
pub told_length : (bytes : List ℕ) (a b : Window) (c : ℕ) (len start : ℤ) (n : ℕ) → a ≡ slice_fresh bytes → TookHead a b c len → start ≡ pos (min b.count (2 ^ 63 - 1))
    → start +ℤ len ≡ pos n → HasLength bytes n
told_length bytes a b c len start n fresh h at sum =
    let p = taken_length bytes b c len start (subst (λ w. TookHead w b c len) fresh h) at in
    let same : p.0 ≡ n = omega (arith, ints, p.2, sum) in
    subst (HasLength bytes) same p.1

-- more than any slice has
pub told_great : (bytes : List ℕ) (a b : Window) (c : ℕ) (len start : ℤ) (n : ℕ) (e : Error) → a ≡ slice_fresh bytes → TookHead a b c len → start ≡ pos (min b.count (2 ^ 63 - 1))
    → start +ℤ len ≡ pos n → 2 ^ 63 ≤ n → e ≡ named.complain CountTooGreat → TooGreat bytes e
told_great bytes a b c len start n e fresh h at sum more name =
    record { size = n; length = told_length bytes a b c len start n fresh h at sum; more = more; name = name }
