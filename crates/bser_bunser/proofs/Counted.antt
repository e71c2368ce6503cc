-- Lengths, and as many bytes.
use Rattle.std.proofs.Common.{◌≡◌, ℕ, ◌+◌, ◌-◌, ◌≤◌, ◌<◌, false, true, Bool, List, [], ◌++◌, length, take, length-append, refl, sym, ap, subst, ◌∙◌, arith, inl, inr}
use Rattle.std.specs.Prelude.{ℤ, pos, negsuc, Result, Ok, Err, IfOk, OnErr}
use Rattle.std.proofs.lemmas.Bool.{ltb-true}
use Rattle.std.proofs.lemmas.List.{length-take-le}
use lib.Signed.{lt_z}
use Rattle.bser_format.specs.Grammar.{SpellsInteger}
use Rattle.bser_format.specs.declared.errors.Error.{Error}
use Rattle.bser_format.specs.declared.errors.Complaint.{Complaint}
use Rattle.bser_format.specs.declared.errors.Complaint.TheVariants.{NegativeLength}
use Rattle.bser_format.specs.Named as named
use Rattle.bser_format.specs.Named.{eof, refuses, reads, complain, and_then, ◌>>=◌}
use Rattle.bser_format.specs.Clauses.{after_a_refusal}
use Rattle.bser_source.specs.Window.{Window, AreOctets, Filled, Took, consumed}
use Rattle.bser_source.proofs.Windows.{taken, took_filled, took_then, works}
use Rattle.bser_bunser.specs.declared.refusal.Refused.{Refused}
use Rattle.bser_bunser.specs.Refusal.{ShortOf}
use Rattle.bser_bunser.specs.Names.{Names, NamesOrMemory, natural_of, bytes_after}
use Rattle.bser_bunser.specs.Tagged.{TookInt, TookSome, TookCounted}
use Rattle.bser_bunser.proofs.Readers.{cut_front, int_there, negative_there}
use Rattle.bser_bunser.proofs.Refusals.{short_untaken}
use Rattle.bser_bunser.proofs.Names.{left_now, known_rest, blames_untaken, short_blames, short_names, names_untaken, names_taken}

-- ---- bytes that are passed

-- all but so many of the bytes were taken
pub record Passing (len left : ℕ) (a b : Window) : Type 0 where
  pub text : List ℕ
  pub whole : length text + left ≡ len
  pub took : Took a b text

-- the first of the buffered bytes were taken
pub passing : (len n : ℕ) (a : Window) → AreOctets a.buffered → n ≤ len → n ≤ length a.buffered → a.failed ≡ false
    → Passing len (len - n) a (consumed n a)
passing len n a small le fits works = record {
  text = take n a.buffered;
  whole = omega (arith, le, length-take-le n a.buffered fits);
  took = taken n a small fits works;
}

-- some of those left were taken
pub passing_on : (len left n : ℕ) (a b c : Window) → Passing len left a b → Filled n b c → n ≤ left
    → Passing len (left - n) a (consumed n c)
passing_on len left n a b c is filled le = record {
  text = is.text ++ take n c.buffered;
  whole =
      omega (arith, le, is.whole, length-append is.text (take n c.buffered), length-take-le n c.buffered filled.enough);
  took =
      took_then a b (consumed n c) is.text (take n c.buffered) is.took (took_filled n b c filled);
}

pub passing_short : (len left n : ℕ) (e : Error) (a b c : Window) → Passing len left a b → n ≤ left
    → ShortOf n e b c → ShortOf len e a c
passing_short len left n e a b c is le short =
    short_untaken e a b c is.text n len is.took (omega (arith, is.whole, le)) short

pub passing_names : (len left n : ℕ) (e : Error) (a b c : Window) → Passing len left a b → n ≤ left
    → ShortOf n e b c → Names (named.front len) e a
passing_names len left n e a b c is le short =
    blames_untaken (λ f x. (length x < n) × (f ≡ eof)) _ e a b is.text
    (λ f x p. cut_front len (is.text ++ x) (omega (arith, p.0, le, is.whole, length-append is.text x)) ∙ ap refuses (sym p.1))
    is.took (short_blames _ n e b c short (λ x m fewer. (fewer, refl)))

-- what is buffered was taken at once
pub took_buffered : (len : ℕ) (a : Window) → AreOctets a.buffered → 0 < len → len ≤ length a.buffered
    → (a.failed ≡ true → a.buffered ≡ []) → Took a (consumed len a) (take len a.buffered)
took_buffered len a small some fits closes =
    taken len a small fits (works a.failed a.buffered len closes some fits)

pub pass_buffered : (len : ℕ) (a : Window) → AreOctets a.buffered → 0 < len → len ≤ length a.buffered
    → (a.failed ≡ true → a.buffered ≡ []) → TookSome len a (consumed len a)
pass_buffered len a small some fits closes = record {
  text = take len a.buffered;
  len = length-take-le len a.buffered fits;
  took = took_buffered len a small some fits closes;
}

-- ---- lengths and counts

pub below_names : (c : Complaint) (v : ℤ) (a b : Window) → lt_z v (pos 0) ≡ true → TookInt a b v
    → Names (natural_of c) (complain c) a
below_names c (pos n) a b less took =
    absurd (let h : n < 0 = ltb-true n 0 less in omega (arith, h))
below_names c (negsuc n) a b less took =
    names_taken (natural_of c) (complain c) a b took.text (λ x. negative_there c n took.text x took.spelled) took.took

-- ---- bytes after a length

-- the bytes after a length that was taken
after_length : (n : ℕ) (text : List ℕ) → SpellsInteger (pos n) text → (x : List ℕ)
    → named.string (text ++ x) ≡ named.front n x
after_length n text h x =
    ap (λ o. and_then named.front (and_then (named.natural NegativeLength) o)) (int_there (pos n) text h x)

-- what is refused of them names the whole
pub string_names : {X : Type 0} (r : Result X Refused) (n : ℕ) (e : Error) (a b : Window)
    → TookInt a b (pos n) → OnErr r (Names (named.front n) e b) → OnErr r (Names named.string e a)
string_names (Ok x) n e a b number h = tt
string_names (Err r) n e a b number h =
    names_untaken named.string (named.front n) e a b number.text (after_length n number.text number.spelled) number.took h

-- the same, where memory may be refused
pub string_names_or : {X : Type 0} (r : Result X Refused) (n : ℕ) (e : Error) (a b : Window)
    → TookInt a b (pos n) → OnErr r (NamesOrMemory (named.front n) e b)
    → OnErr r (NamesOrMemory named.string e a)
string_names_or (Ok x) n e a b number h = tt
string_names_or (Err r) n e a b number (inl h) =
    inl (names_untaken named.string (named.front n) e a b number.text (after_length n number.text number.spelled) number.took h)
string_names_or (Err r) n e a b number (inr h) = inr h

-- a length, and as many bytes, were taken
pub took_counted : {X : Type 0} (bytes : X → List ℕ) (r : Result X Refused) (a b c : Window) (n : ℕ)
    → TookInt a b (pos n) → IfOk r (λ x. length (bytes x) ≡ n) → IfOk r (λ x. Took b c (bytes x))
    → IfOk r (λ x. TookCounted a c (bytes x))
took_counted bytes (Ok x) a b c n number size last = record {
  text = number.text ++ bytes x;
  spelled = record {
    number = number.text;
    count = subst (λ k. SpellsInteger (pos k) number.text) (sym size) number.spelled;
    whole = refl;
  };
  took = took_then a b c number.text (bytes x) number.took last;
}
took_counted bytes (Err r) a b c n number size last = tt

-- ---- a call that wants so many bytes

-- what is refused below 0, whatever is left
pub negative_names : (v : ℤ) (a : Window) → lt_z v (pos 0) ≡ true
    → Names (bytes_after v) (after_a_refusal a.failed (complain NegativeLength)) a
negative_names (pos n) a less = absurd (let h : n < 0 = ltb-true n 0 less in omega (arith, h))
negative_names (negsuc n) a less = go a.failed refl
  where
    go : (f : Bool) → a.failed ≡ f
        → Names (bytes_after (negsuc n)) (after_a_refusal f (complain NegativeLength)) a
    go true old = inr (inl old)
    go false works = inl (a.buffered ++ known_rest a.beyond, left_now a, refl)

pub bytes_names : (v : ℤ) (n : ℕ) (e : Error) (a c : Window) → pos n ≡ v
    → ShortOf n e a c → Names (bytes_after v) e a
bytes_names v n e a c same short =
    subst (λ z. Names (bytes_after z) e a) same (short_names n e a c short)
