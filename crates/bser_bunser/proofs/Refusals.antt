-- What state a refusal leaves, and what excuses it.
use Rattle.std.proofs.Common.{◌≡◌, ℕ, ◌+◌, ◌≤◌, ◌<◌, List, ◌++◌, Option, Some, None, length, length-append, refl, sym, ap, ◌∙◌, arith, inl, inr}
use Rattle.std.specs.Prelude.{IfSome, IsSomeAnd}
use Rattle.bser_format.specs.Errors.{error_of}
use Rattle.bser_format.specs.declared.errors.Error.{Error}
use Rattle.bser_format.specs.declared.errors.ReadCause.{ReadCause}
use Rattle.bser_format.specs.declared.errors.ReadCause.TheVariants.{Eof, Utf8, Reader, Memory, Failed}
use Rattle.bser_source.specs.Failures.{failures_after}
use Rattle.bser_source.specs.Window.{Window, left, Took, closed}
use Rattle.bser_source.specs.Refusal.{Excuse, Refused}
use Rattle.bser_source.proofs.Windows.{left_took}
use Rattle.bser_bunser.specs.Refusal.{cause_of, failures_by, Fails, ShortOf}

-- ---- a refusal of the byte source

same_excuse : (c : ReadCause) (s : Window) (n : ℕ) → Excuse c s n
    → IsSomeAnd (cause_of (error_of c)) (λ k. Excuse k s n)
same_excuse Eof s n h = h
same_excuse other s n h = h

same_failures : (c : ReadCause) (n : ℕ) → failures_after c n ≡ failures_by (error_of c) n
same_failures Eof n = refl
same_failures other n = refl

-- the source could not give n bytes
pub short_of : (n : ℕ) (c : ReadCause) (a b : Window) → Refused c a b n
    → ShortOf n (error_of c) a (closed b)
short_of n c a b r = record {
  excuse = same_excuse c a n r.excuse;
  fails = record {
    before = λ f. ap error_of (r.before f);
    failed = refl;
    lends = r.lends;
    through = r.through;
    failures = r.failures ∙ same_failures c a.failures;
  };
}

-- ---- a refusal after other steps

-- after bytes were taken
pub fails_untaken : (e : Error) (a b c : Window) (text : List ℕ) → Took a b text → Fails e b c
    → Fails e a c
fails_untaken e a b c text took f = record {
  before = λ old. (let works = took.working in absurd cc);
  failed = f.failed;
  lends = f.lends ∙ took.lends;
  through = f.through ∙ took.through;
  failures = f.failures ∙ ap (failures_by e) took.failures;
}

weaken : {A : Type 0} (P Q : A → Type 0) (o : Option A) → ((a : A) → P a → Q a) → IsSomeAnd o P
    → IsSomeAnd o Q
weaken P Q None f h = absurd h
weaken P Q (Some a) f h = f a h

few_untaken : (x y : Option (List ℕ)) (text : List ℕ) (n m : ℕ)
    → ((all : List ℕ) → x ≡ Some all → (rest : List ℕ) × (y ≡ Some rest) × (all ≡ text ++ rest))
    → length text + n ≤ m
    → IfSome y (λ l. length l < n) → IfSome x (λ l. length l < m)
few_untaken None y text n m same le h = tt
few_untaken (Some xs) y text n m same le h =
    let p = same xs refl in
    let few : length p.0 < n = rw p.1 at h in
    omega (arith, few, le, ap length p.2, length-append text p.0)

excuse_untaken : (a b : Window) (text : List ℕ) (n m : ℕ) → Took a b text → length text + n ≤ m
    → (c : ReadCause) → Excuse c b n → Excuse c a m
excuse_untaken a b text n m took le Eof h =
    (few_untaken (left a) (left b) text n m (λ all e. left_took a b text all took e) le h.0, omega (arith, h.1, le, ap length took.bytes, length-append a.buffered took.more, length-append text b.buffered))
excuse_untaken a b text n m took le Utf8 h = h
excuse_untaken a b text n m took le (Reader e) h = sym took.lends ∙ h
excuse_untaken a b text n m took le Memory h = sym took.lends ∙ h
excuse_untaken a b text n m took le Failed (inl h) = (let works = took.failed in absurd cc)
excuse_untaken a b text n m took le Failed (inr (l, k, few)) =
    inr (sym took.lends ∙ l, omega (arith, took.count, le, k), omega (arith, few, le, ap length took.bytes, length-append a.buffered took.more, length-append text b.buffered))

-- after some of the bytes that are wanted were taken
pub short_untaken : (e : Error) (a b c : Window) (text : List ℕ) (n m : ℕ) → Took a b text
    → length text + n ≤ m → ShortOf n e b c → ShortOf m e a c
short_untaken e a b c text n m took le short = record {
  excuse =
      weaken (λ k. Excuse k b n) (λ k. Excuse k a m) (cause_of e) (excuse_untaken a b text n m took le) short.excuse;
  fails = fails_untaken e a b c text took short.fails;
}
