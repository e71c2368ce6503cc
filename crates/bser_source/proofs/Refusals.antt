-- Refusals of a source that copies.
use Rattle.std.proofs.Common.{◌≡◌, ℕ, ◌<◌, false, List, ◌++◌, Option, Some, None, length, length-append, append_assoc, refl, sym, ap, ◌∙◌, arith, inl, inr}
use Rattle.std.proofs.KnownBytes.{Consumes-trans}
use Rattle.std.specs.Prelude.{IfSome}
use Rattle.bser_source.specs.Failures.{failures_after}
use Rattle.bser_format.specs.declared.errors.ReadCause.{ReadCause}
use Rattle.bser_format.specs.declared.errors.ReadCause.TheVariants.{Eof, Utf8, Reader, Memory, Failed}
use Rattle.bser_source.specs.Window.{Window, left, Grown}
use Rattle.bser_source.specs.Refusal.{EndsShort, Excuse, Refused}
use Rattle.bser_source.proofs.Windows.{left_grown}

few_left : (x y : Option (List ℕ)) (n : ℕ) → ((all : List ℕ) → x ≡ Some all → y ≡ Some all)
    → IfSome y (λ l. length l < n) → IfSome x (λ l. length l < n)
few_left None y n same h = tt
few_left (Some xs) y n same h = rw (same xs refl) at h

-- what excuses a refusal excused it before others came to be buffered
pub excuse_grown : (m n : ℕ) (a b : Window) → Grown m a b → (e : ReadCause) → Excuse e b n → Excuse e a n
excuse_grown m n a b grown Eof h =
    (few_left (left a) (left b) n (λ all e. left_grown m a b all grown e) h.0, omega (arith, h.1, ap length grown.buffered, length-append a.buffered grown.more))
excuse_grown m n a b grown Utf8 h = h
excuse_grown m n a b grown (Reader e) h = sym grown.lends ∙ h
excuse_grown m n a b grown Memory h = sym grown.lends ∙ h
excuse_grown m n a b grown Failed (inl h) = inl (sym grown.failed ∙ h)
excuse_grown m n a b grown Failed (inr (l, k, fewer)) =
    inr (sym grown.lends ∙ l, omega (arith, grown.count, k), omega (arith, fewer, ap length grown.buffered, length-append a.buffered grown.more))

-- a source that copies refuses after some bytes came to be buffered
pub refused_grown : (m n : ℕ) (e : ReadCause) (a b c : Window) → a.lends ≡ false → a.failed ≡ false → Grown m a b → Refused e b c n → Refused e a c n
refused_grown m n e a b c copies working grown r = record {
  excuse = excuse_grown m n a b grown e r.excuse;
  lends = r.lends ∙ grown.lends;
  through = r.through ∙ grown.through;
  failures = r.failures ∙ ap (failures_after e) grown.failures;
  unchanged = λ t. absurd cc;
  failed = λ f. r.failed (grown.lends ∙ f);
  before = λ f. absurd cc;
}

-- an end that came after some bytes came to be buffered
pub short_grown : (m n : ℕ) (a b c : Window) → Grown m a b → EndsShort n b c → EndsShort n a c
short_grown m n a b c grown s = record {
  more = grown.more ++ s.more;
  device = Consumes-trans a.beyond b.beyond c.beyond grown.more s.more grown.device s.device;
  fewer = omega (arith, s.fewer, ap length (ap (λ l. l ++ s.more) grown.buffered ∙ append_assoc a.buffered grown.more s.more));
  end = s.end;
}
