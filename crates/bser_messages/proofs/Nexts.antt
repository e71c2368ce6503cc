-- The first byte of a reader's next message, or none.
use Rattle.std.proofs.Common.{◌≡◌, ℕ, ◌<◌, false, List, [], ◌∷◌, ◌++◌, Option, Some, None, length, length-append, sym, ap, subst, ◌∙◌, arith}
use Rattle.std.specs.Borrow.{GName}
use Rattle.std.specs.Io.KnownBytes.{Consumes, IsAtEnd}
use Rattle.bser_format.specs.Content.{Content, Meaning}
use Rattle.bser_format.specs.declared.errors.Error.{Error}
use Rattle.bser_source.specs.Refusal.{EndsShort}
use Rattle.bser_source.specs.Window.{Window, Filled, left}
use Rattle.bser_source.proofs.Windows.{left_grown, hand_first}
use Rattle.bser_deserializer.specs.Reading.{Asking, Needs}
use Rattle.bser_messages.proofs.Sources.{reader_fresh, fresh_itself, fresh_left}
use Rattle.bser_messages.specs.Limited.{RefusesWithin}
use Rattle.bser_messages.specs.Streams.{IsNext, StaysAtEnd, RefusesNext}
use Rattle.bser_messages.proofs.Readers.{reader_refused_within}
use Rattle.bser_messages.proofs.Within.{refused_before}

-- ---- a byte is left

-- where a byte came something was left
pub some_left : (remaining : Option (List ℕ)) (failures : ℕ) (through : Option GName) (a b : Window) → a ≡ reader_fresh remaining failures through → Filled 1 a b → remaining ≡ Some [] → ⊥
some_left remaining failures through a b fresh filled none =
    let known : left a ≡ Some [] = subst (λ w. left w ≡ Some []) (sym fresh) (fresh_left remaining failures through [] none) in
    let held = hand_first b [] (left_grown 1 a b [] filled.grown known) in
    omega (arith, filled.enough, ap length held.1, length-append b.buffered held.0)

-- a message that is refused after its first byte came
pub next_refused : (n m : ℕ) (reads : Meaning) (asks : Option (Asking reads)) (needs : Needs) (e : Error) (remaining : Option (List ℕ)) (failures : ℕ) (through : Option GName) (a b t : Window) → needs.lent ≡ false
    → a ≡ reader_fresh remaining failures through → Filled 1 a b → RefusesWithin n m reads asks needs e b t → RefusesNext n m reads asks e a.beyond t.beyond a.failures t.failures
next_refused n m reads asks needs e remaining failures through a b t owned fresh filled u = record {
  refused = reader_refused_within n m reads asks needs e a t owned (fresh_itself remaining failures through a fresh) (refused_before n m reads asks needs e a b t filled.grown u);
  some = λ none. absurd (some_left remaining failures through a b fresh filled (sym (ap (λ w. w.beyond) fresh) ∙ none));
}

-- the same of a reader that is known to have as much left, and to have counted as much
pub next_known : (n m : ℕ) (reads : Meaning) (asks : Option (Asking reads)) (e : Error) (old new x y : Option (List ℕ)) (before after i j : ℕ) → x ≡ old → y ≡ new → i ≡ before → j ≡ after
    → RefusesNext n m reads asks e x y i j → RefusesNext n m reads asks e old new before after
next_known n m reads asks e old new x y before after i j p q r s u = rw (sym p, sym q, sym r, sym s) u

pub given_known : {A : Type 0} (n m : ℕ) (reads : Meaning) (holds : A → Content → Type 0) (old new x y : Option (List ℕ)) (v : Option A) → x ≡ old → y ≡ new
    → IsNext n m reads holds x y v → IsNext n m reads holds old new v
given_known n m reads holds old new x y v p q r = rw (sym p, sym q) r

-- ---- no byte is left

-- a reader that had no first byte is as it was
pub over : (old new : Option (List ℕ)) (a b : Window) → a.buffered ≡ [] → a.beyond ≡ old → b.beyond ≡ new → EndsShort 1 a b → StaysAtEnd old new
over old new a b empty p q s =
    rw (sym p, sym q) (go a.beyond b.beyond s.more s.device (omega (arith, s.fewer, ap (λ l. length (l ++ s.more)) empty)) s.end)
  where
    go : (x y : Option (List ℕ)) (more : List ℕ) → Consumes x y more → length more < 1 → IsAtEnd y → StaysAtEnd x y
    go None y more device few end = (tt, tt, end)
    go (Some xs) None more device few end = absurd device
    go (Some xs) (Some ys) [] device few end = (device ∙ end, sym device, end)
    go (Some xs) (Some ys) (m ∷ more) device few end = absurd (omega (arith, few))
