-- Where an error is told.
use Rattle.std.proofs.Common.{◌≡◌, ℕ, zero, suc, ◌+◌, ◌≤◌, ◌<◌, ◌∷◌, Bool, true, false, List, [], ◌++◌, length, take, drop, get_or, append_assoc, refl, sym, ap, subst, ◌∙◌, arith}
use Rattle.std.specs.Prelude.{ℤ, pos, negsuc, ◌==◌, ◌||◌, if◌then◌else◌}
use Rattle.std.specs.Int.{byte_len}
use Rattle.std.proofs.lemmas.Bool.{ltb-true}
use Rattle.std.proofs.lemmas.List.{length-drop, length-take-le, take-append-drop}
use lib.Signed.{lt_z}
use Rattle.bser_format.specs.Grammar.{IntSize, int8, int16, int32, int64, int_bytes, tag_of, width_of, SpellsInteger}
use Rattle.bser_format.specs.declared.errors.Complaint.{Complaint}
use Rattle.bser_format.specs.declared.errors.Error.{Error}
use Rattle.bser_format.specs.declared.errors.Error.TheVariants.{DeInvalidStartByte, DeCustom}
use Rattle.bser_format.specs.declared.errors.Kind.{Kind}
use Rattle.bser_format.specs.declared.errors.Kind.TheVariants.{Integer}
use Rattle.bser_format.specs.Named.{Reader, complain}
use Rattle.bser_source.specs.Window.{Window, Grown, closed}
use Rattle.bser_bunser.specs.Faults.{EndsBelowZero, StartsWith, StopsBetween, StopsInPlace, Stands, IsFault, ClosesAt}
use Rattle.bser_bunser.specs.Names.{MayBeLeft}
use Rattle.bser_bunser.specs.Prefixes.{IsLengthPrefix, NegativeInt}
use Rattle.bser_bunser.specs.Refusal.{Fails, ShortOf, failures_by, unexpected_refusal}
use Rattle.bser_bunser.specs.Tagged.{TookInt, NoInt}
use Rattle.bser_bunser.specs.Tokens.{as_count, fault_after}
use Rattle.bser_bunser.specs.declared.prefix.Prefix.TheVariants as prefixes
use Rattle.bser_bunser.specs.declared.prefix.Unexpected.{Unexpected}
use Rattle.bser_bunser.specs.declared.prefix.Unexpected.TheVariants.{Tag, Length, NegativeLength, NegativeCount}
use Rattle.bser_bunser.proofs.Names.{known_rest, left_now, left_before, left_untaken}
use Rattle.bser_bunser.proofs.Looks.{Looking, look_works}

-- ---- what is buffered

plain_stands : (why : Unexpected) (held : List ℕ) → IsLengthPrefix (drop 1 held) (prefixes.Unexpected why) → Stands why held
plain_stands (Tag b) held is = absurd is
plain_stands (Length b) held is = is.next
plain_stands NegativeLength held is = is
plain_stands NegativeCount held is = absurd is

count_stands : (why : Unexpected) (held : List ℕ) → IsLengthPrefix (drop 1 held) (prefixes.Unexpected why) → Stands (as_count why) held
count_stands (Tag b) held is = absurd is
count_stands (Length b) held is = is.next
count_stands NegativeLength held is = is
count_stands NegativeCount held is = absurd is

either_stands : (c : Bool) (why : Unexpected) (held : List ℕ) → IsLengthPrefix (drop 1 held) (prefixes.Unexpected why) → Stands (if c then as_count why else why) held
either_stands true why held is = count_stands why held is
either_stands false why held is = plain_stands why held is

-- what follows a tag
pub counted_stands : (x : ℕ) (why : Unexpected) (held : List ℕ) → IsLengthPrefix (drop 1 held) (prefixes.Unexpected why) → Stands (fault_after x why) held
counted_stands x why held is = either_stands ((x == 0x00) || (x == 0x01)) why held is

-- ---- an integer below 0

first_of_front : (len : ℕ) (xs : List ℕ) → 0 < len → get_or (take len xs) 0 0 ≡ get_or xs 0 0
first_of_front zero xs some = absurd (omega (arith, some))
first_of_front (suc len) [] some = refl
first_of_front (suc len) (x ∷ xs) some = refl

bytes_long : (s : IntSize) (v : ℤ) → length (int_bytes s v) ≡ 1 + byte_len (width_of s)
bytes_long int8 v = refl
bytes_long other v = refl

bytes_tagged : (s : IntSize) (v : ℤ) → get_or (int_bytes s v) 0 0 ≡ tag_of s
bytes_tagged int8 v = refl
bytes_tagged other v = refl

negative_len : (xs : List ℕ) (is : NegativeInt xs) → is.len ≡ 1 + byte_len (width_of is.spelled.size)
negative_len xs is = sym (length-take-le is.len xs is.within) ∙ ap length is.spelled.spelled ∙ bytes_long is.spelled.size (negsuc is.less)

-- it is as long as its tag says
as_long : (k : ℕ) (xs : List ℕ) (is : NegativeInt xs) → ((s : IntSize) → tag_of s ≡ get_or xs 0 0 → k ≡ 1 + byte_len (width_of s)) → k ≡ is.len
as_long k xs is long =
    let len = negative_len xs is in
    let tag : tag_of is.spelled.size ≡ get_or xs 0 0 = sym (bytes_tagged is.spelled.size (negsuc is.less)) ∙ ap (λ l. get_or l 0 0) (sym is.spelled.spelled) ∙ first_of_front is.len xs (omega (arith, len)) in
    long is.spelled.size tag ∙ sym len

one_more : (k : ℕ) (held : List ℕ) → 0 < length held → take (1 + k) held ≡ take 1 held ++ take k (drop 1 held)
one_more k [] some = absurd (omega (arith, some))
one_more k (x ∷ held) some = let whole : 1 + k ≡ suc k = omega arith in ap (λ n. take n (x ∷ held)) whole

-- behind a tag
below_there : (k : ℕ) (held : List ℕ) → NegativeInt (drop 1 held) → 0 < length held → ((s : IntSize) → tag_of s ≡ get_or (drop 1 held) 0 0 → k ≡ 1 + byte_len (width_of s)) → (k ≤ length (drop 1 held)) × EndsBelowZero (take (1 + k) held)
below_there k held is some long =
    let same = as_long k (drop 1 held) is long in (
      omega (arith, same, is.within),
      record { front = take 1 held; number = take k (drop 1 held); less = is.less; whole = one_more k held some; spelled = subst (λ n. SpellsInteger (negsuc is.less) (take n (drop 1 held))) (sym same) is.spelled },
    )

-- a tag and an integer
below_some : (held : List ℕ) → NegativeInt (drop 1 held) → 1 < length held
below_some held is = omega (arith, is.within, negative_len (drop 1 held) is, length-drop 1 held)

second : (held : List ℕ) → 0 < length held → get_or (drop 1 held) 0 0 ≡ get_or held 1 0
second [] some = absurd (omega (arith, some))
second (x ∷ held) some = refl

below : (k : ℕ) (held : List ℕ) → NegativeInt (drop 1 held) → ((s : IntSize) → tag_of s ≡ get_or held 1 0 → k ≡ 1 + byte_len (width_of s)) → EndsBelowZero (take (1 + k) held)
below k held is long =
    let some : 0 < length held = omega (arith, below_some held is) in
    (below_there k held is some (λ s e. long s (e ∙ second held some))).1

pub other_fault : (why : Unexpected) (held : List ℕ) (k : ℕ) → ((b : ℕ) → why ≡ Tag b → ⊥) → ((b : ℕ) → why ≡ Length b → ⊥) → Stands why held → ((s : IntSize) → tag_of s ≡ get_or held 1 0 → k ≡ 1 + byte_len (width_of s)) → IsFault why (take (1 + k) held) (drop (1 + k) held)
other_fault (Tag b) held k f g is long = absurd (f b refl)
other_fault (Length b) held k f g is long = absurd (g b refl)
other_fault NegativeLength held k f g is long = below k held is long
other_fault NegativeCount held k f g is long = below k held is long

-- ---- where the error is told

starts_more : (b : ℕ) (xs more : List ℕ) → StartsWith b xs → StartsWith b (xs ++ more)
starts_more b [] more e = absurd cc
starts_more b (x ∷ xs) more e = ap (λ l. l ++ more) e

stops : (P : List ℕ → List ℕ → Type 0) (n at : ℕ) (a b c : Window) → Grown n a b → at ≤ length b.buffered → c.count ≡ b.count + at → P (take at b.buffered) (drop at b.buffered ++ known_rest b.beyond) → StopsBetween P a c
stops P n at a b c grown le count told = record {
  before = take at b.buffered;
  behind = drop at b.buffered ++ known_rest b.beyond;
  left =
      subst (MayBeLeft a) (ap (λ l. l ++ known_rest b.beyond) (sym (take-append-drop at b.buffered)) ∙ append_assoc (take at b.buffered) (drop at b.buffered) (known_rest b.beyond))
      (left_before n a b (b.buffered ++ known_rest b.beyond) grown (left_now b));
  count = omega (arith, count, grown.count, length-take-le at b.buffered le);
  told = told;
}

fault_at : (kind : Kind) (why : Unexpected) (n at : ℕ) (a b c : Window) → Grown n a b → at ≤ length b.buffered → c.count ≡ b.count + at → IsFault why (take at b.buffered) (drop at b.buffered) → StopsInPlace (unexpected_refusal kind why) a c
fault_at kind (Tag x) n at a b c grown le count is = stops (λ before behind. StartsWith x behind) n at a b c grown le count (starts_more x (drop at b.buffered) (known_rest b.beyond) is)
fault_at kind (Length x) n at a b c grown le count is = stops (λ before behind. StartsWith x behind) n at a b c grown le count (starts_more x (drop at b.buffered) (known_rest b.beyond) is)
fault_at kind NegativeLength n at a b c grown le count is = stops (λ before behind. EndsBelowZero before) n at a b c grown le count is
fault_at kind NegativeCount n at a b c grown le count is = stops (λ before behind. EndsBelowZero before) n at a b c grown le count is

-- of what is buffered
pub fault_place : (kind : Kind) (why : Unexpected) (n : ℕ) (a b c : Window) → Grown n a b → ClosesAt why b c → StopsInPlace (unexpected_refusal kind why) a c
fault_place kind why n a b c grown is = fault_at kind why n is.at a b c grown is.within (ap (λ w. w.count) is.state) is.fault

-- of a byte in the place of an integer
pub no_int_place : (why : Unexpected) (a b c : Window) → NoInt a b why → c ≡ closed b → StopsInPlace (unexpected_refusal Integer why) a c
no_int_place (Tag x) a b c is same = fault_at Integer (Tag x) is.need 0 a b c is.grown (omega arith) (omega (arith, ap (λ w. w.count) same)) is.other.next
no_int_place (Length x) a b c is same = absurd is.other
no_int_place others a b c is same = absurd is.other

-- of an integer below 0 that was taken
pub below_place : (k : Complaint) (v : ℤ) (a b c : Window) → lt_z v (pos 0) ≡ true → TookInt a b v → c ≡ closed b → StopsInPlace (complain k) a c
below_place k (pos n) a b c less took same = absurd (let h : n < 0 = ltb-true n 0 less in omega (arith, h))
below_place k (negsuc n) a b c less took same = record {
  before = took.text;
  behind = b.buffered ++ known_rest b.beyond;
  left = left_untaken a b took.text (b.buffered ++ known_rest b.beyond) took.took (left_now b);
  count = ap (λ w. w.count) same ∙ took.took.count;
  told = record { front = []; number = took.text; less = n; whole = refl; spelled = took.spelled };
}

-- too few bytes have no such place
pub short_place : (n : ℕ) (e : Error) (a b c d : Window) → ShortOf n e a b → StopsInPlace e c d
short_place n (DeInvalidStartByte kind x) a b c d short = absurd short.excuse
short_place n (DeCustom m) a b c d short = absurd short.excuse
short_place n e a b c d short = tt

-- ---- the state after it

no_failure : (kind : Kind) (why : Unexpected) (n : ℕ) → n ≡ failures_by (unexpected_refusal kind why) n
no_failure kind (Tag b) n = refl
no_failure kind other n = refl

pub fault_fails : {X : Type 0} (r : Reader X) (kind : Kind) (why : Unexpected) (a b c : Window) → Looking r a b → (b.failed ≡ true → b.buffered ≡ []) → 0 < length b.buffered → ClosesAt why b c → Fails (unexpected_refusal kind why) a c
fault_fails r kind why a b c is closes some at = record {
  before = λ failed. (let works = look_works r a b is closes some in absurd cc);
  failed = ap (λ w. w.failed) at.state;
  lends = ap (λ w. w.lends) at.state ∙ is.grown.lends;
  through = ap (λ w. w.through) at.state ∙ is.grown.through;
  failures = ap (λ w. w.failures) at.state ∙ is.grown.failures ∙ no_failure kind why a.failures;
}
