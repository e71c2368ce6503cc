-- Refusals that other refusals follow from.
use Rattle.std.proofs.Common.{◌≡◌, ℕ, ◌+◌, ◌≤◌, true, ◌||◌, List, ◌++◌, length, length-append, Some, refl, sym, ap, subst, ◌∙◌, append_assoc, arith, inl, inr}
use Rattle.std.proofs.lemmas.List.{append_cancel_left}
use Rattle.bser_format.specs.Grammar.{Format}
use Rattle.bser_format.specs.declared.errors.Error.{Error}
use Rattle.bser_format.specs.declared.errors.Error.TheVariants.{DeCustom, DeReaderError, OutOfMemory}
use Rattle.bser_format.specs.declared.errors.Message.TheVariants.{Fixed}
use Rattle.bser_format.specs.declared.errors.Complaint.TheVariants as complaints
use Rattle.bser_format.specs.declared.errors.ReadCause.TheVariants.{Eof, Utf8, Reader, Memory, Failed}
use Rattle.bser_format.specs.Named as named
use Rattle.bser_format.specs.Named.{eof, reads, refuses}
use Rattle.bser_format.proofs.Steps as steps
use Rattle.bser_source.specs.Window.{Window, Grown, Took, closed, left}
use Rattle.bser_source.proofs.Windows.{grown_none, left_took}
use Rattle.bser_bunser.specs.Refusal.{Fails, failures_by}
use Rattle.bser_bunser.specs.Names.{Blame, Excused, Outside, Names, RefusedAs}
use Rattle.bser_bunser.proofs.Names.{left_before, left_untaken, outside_grown, outside_untaken, names_excuse}
use Rattle.bser_deserializer.specs.Reading.{OutsideBy, ExcusedBy, MayRefuse, NamesBy, RefusesFront, IsRefusal, bare, refusing, Needs}

-- ---- reasons outside the bytes

-- a reason that no need gives
pub outside_any : (needs : Needs) (P : Blame) (e : Error) (s : Window) → Outside P e s → OutsideBy needs P e s
outside_any needs P OutOfMemory s h = inl h
outside_any needs P (DeCustom (Fixed complaints.BorrowedFromCopying)) s h = absurd h
outside_any needs P _ s h = h

excused_any : (needs : Needs) (n : ℕ) (e : Error) (s : Window) → Excused n e s → ExcusedBy needs n e s
excused_any needs n OutOfMemory s h = inl h
excused_any needs n (DeCustom (Fixed complaints.BorrowedFromCopying)) s h = absurd h
excused_any needs n _ s h = h

-- what is a reason without needs is one with any
pub outside_bare : (needs : Needs) (P : Blame) (e : Error) (s : Window) → OutsideBy bare P e s → OutsideBy needs P e s
outside_bare needs P OutOfMemory s (inl h) = inl h
outside_bare needs P OutOfMemory s (inr h) = absurd cc
outside_bare needs P (DeCustom (Fixed complaints.BorrowedFromCopying)) s h = absurd (let f = h.1 in cc)
outside_bare needs P _ s h = h

-- what excuses without needs excuses with any
pub excused_bare : (needs : Needs) (n : ℕ) (e : Error) (s : Window) → ExcusedBy bare n e s → ExcusedBy needs n e s
excused_bare needs n OutOfMemory s (inl h) = inl h
excused_bare needs n OutOfMemory s (inr h) = absurd cc
excused_bare needs n (DeCustom (Fixed complaints.BorrowedFromCopying)) s h = absurd (let f = h.1 in cc)
excused_bare needs n _ s h = h

-- what excuses where it is read excuses where it is refused
pub excused_refusing : (needs : Needs) (n : ℕ) (e : Error) (s : Window) → ExcusedBy needs n e s → ExcusedBy (refusing needs) n e s
excused_refusing needs n OutOfMemory s (inl h) = inl h
excused_refusing needs n OutOfMemory s (inr h) = inr (ap (λ m. m || needs.keys) h)
excused_refusing needs n _ s h = h

-- before bytes were taken
pub outside_by_untaken : (needs : Needs) (P Q : Blame) (a b : Window) (bs : List ℕ) (e : Error) → ((x : List ℕ) → P eof x → Q eof (bs ++ x)) → Took a b bs → OutsideBy needs P e b → OutsideBy needs Q e a
outside_by_untaken needs P Q a b bs OutOfMemory on took (inl h) = inl (sym took.lends ∙ h)
outside_by_untaken needs P Q a b bs OutOfMemory on took (inr h) = inr h
outside_by_untaken needs P Q a b bs (DeCustom (Fixed complaints.BorrowedFromCopying)) on took h = (sym took.lends ∙ h.0, h.1)
outside_by_untaken needs P Q a b bs e on took h = outside_untaken P Q a b bs e on took h

-- before bytes came to be buffered
pub outside_by_grown : (needs : Needs) (P Q : Blame) (n : ℕ) (a b : Window) (e : Error) → Grown n a b → ((x more : List ℕ) → x ≡ b.buffered ++ more → P eof x → Q eof x) → OutsideBy needs P e b → OutsideBy needs Q e a
outside_by_grown needs P Q n a b OutOfMemory grown on (inl h) = inl (sym grown.lends ∙ h)
outside_by_grown needs P Q n a b OutOfMemory grown on (inr h) = inr h
outside_by_grown needs P Q n a b (DeCustom (Fixed complaints.BorrowedFromCopying)) grown on h = (sym grown.lends ∙ h.0, h.1)
outside_by_grown needs P Q n a b e grown on h = outside_grown P Q n a b e grown on h

-- where n bytes are wanted after those that were taken
pub excused_untaken : (needs : Needs) (n m : ℕ) (a b : Window) (bs : List ℕ) (e : Error) → length bs + n ≤ m → Took a b bs → ExcusedBy needs n e b → ExcusedBy needs m e a
excused_untaken needs n m a b bs OutOfMemory le took (inl h) = inl (sym took.lends ∙ h)
excused_untaken needs n m a b bs OutOfMemory le took (inr h) = inr h
excused_untaken needs n m a b bs (DeCustom (Fixed complaints.BorrowedFromCopying)) le took h = (sym took.lends ∙ h.0, h.1)
excused_untaken needs n m a b bs (DeReaderError (Reader fault)) le took h = sym took.lends ∙ h
excused_untaken needs n m a b bs (DeReaderError Failed) le took (inl h) = (let works = took.failed in absurd cc)
excused_untaken needs n m a b bs (DeReaderError Failed) le took (inr h) = inr (sym took.lends ∙ h.0, omega (arith, took.count, h.1, le))
excused_untaken needs n m a b bs _ le took h = absurd h

-- before bytes came to be buffered
pub excused_before : (needs : Needs) (k n : ℕ) (a b : Window) (e : Error) → Grown k a b → ExcusedBy needs n e b → ExcusedBy needs n e a
excused_before needs k n a b OutOfMemory grown (inl h) = inl (sym grown.lends ∙ h)
excused_before needs k n a b OutOfMemory grown (inr h) = inr h
excused_before needs k n a b (DeCustom (Fixed complaints.BorrowedFromCopying)) grown h = (sym grown.lends ∙ h.0, h.1)
excused_before needs k n a b (DeReaderError (Reader fault)) grown h = sym grown.lends ∙ h
excused_before needs k n a b (DeReaderError Failed) grown (inl h) = inl (sym grown.failed ∙ h)
excused_before needs k n a b (DeReaderError Failed) grown (inr h) = inr (sym grown.lends ∙ h.0, omega (arith, grown.count, h.1))
excused_before needs k n a b _ grown h = absurd h

-- where more bytes are wanted
pub excused_longer : (needs : Needs) (n m : ℕ) (e : Error) (s : Window) → n ≤ m → ExcusedBy needs n e s → ExcusedBy needs m e s
excused_longer needs n m OutOfMemory s le h = h
excused_longer needs n m (DeCustom (Fixed complaints.BorrowedFromCopying)) s le h = h
excused_longer needs n m (DeReaderError (Reader fault)) s le h = h
excused_longer needs n m (DeReaderError Failed) s le (inl h) = inl h
excused_longer needs n m (DeReaderError Failed) s le (inr h) = inr (h.0, omega (arith, h.1, le))
excused_longer needs n m _ s le h = absurd h

-- what lies outside the bytes leaves room for it
pub may_outside : (needs : Needs) (P : Blame) (e : Error) (s : Window) → OutsideBy (refusing needs) P e s → MayRefuse needs e s
may_outside needs P OutOfMemory s h = inr h
may_outside needs P (DeCustom (Fixed complaints.BorrowedFromCopying)) s h = inr h
may_outside needs P (DeReaderError (Reader fault)) s h = inr h
may_outside needs P (DeReaderError Failed) s h = inl tt
may_outside needs P _ s h = absurd h

-- what excuses leaves room for it
pub may_excused : (needs : Needs) (n : ℕ) (e : Error) (s : Window) → ExcusedBy (refusing needs) n e s → MayRefuse needs e s
may_excused needs n OutOfMemory s h = inr h
may_excused needs n (DeCustom (Fixed complaints.BorrowedFromCopying)) s h = inr h
may_excused needs n (DeReaderError (Reader fault)) s h = inr h
may_excused needs n (DeReaderError Failed) s h = inl tt
may_excused needs n _ s h = absurd h

may_untaken : (needs : Needs) (a b : Window) (bs : List ℕ) (e : Error) → Took a b bs → MayRefuse needs e b → MayRefuse needs e a
may_untaken needs a b bs e took (inl h) = inl h
may_untaken needs a b bs e took (inr h) = may_excused needs (length bs) e a (excused_untaken (refusing needs) 0 (length bs) a b bs e (omega arith) took h)

-- ---- names

-- a name without needs is one with any
pub names_any : {X : Type 0} (needs : Needs) (r : named.Reader X) (e : Error) (s : Window) → Names r e s → NamesBy needs r e s
names_any needs r e s (inl h) = inl h
names_any needs r e s (inr h) = inr (outside_any (refusing needs) (RefusedAs r) e s h)

pub names_bare : {X : Type 0} (needs : Needs) (r : named.Reader X) (e : Error) (s : Window) → NamesBy bare r e s → NamesBy needs r e s
names_bare needs r e s (inl h) = inl h
names_bare needs r e s (inr h) = inr (outside_bare (refusing needs) (RefusedAs r) e s h)

-- what is left is refused, after bytes were taken
pub names_by_untaken : {X Y : Type 0} (needs : Needs) (r : named.Reader X) (s : named.Reader Y) (e : Error) (a b : Window) (bs : List ℕ)
    → ((f : Error) (x : List ℕ) → s x ≡ refuses f → r (bs ++ x) ≡ refuses f) → Took a b bs → NamesBy needs s e b → NamesBy needs r e a
names_by_untaken needs r s e a b bs same took (inl (x, m, p)) = inl (bs ++ x, left_untaken a b bs x took m, same e x p)
names_by_untaken needs r s e a b bs same took (inr h) = inr (outside_by_untaken (refusing needs) (RefusedAs s) (RefusedAs r) a b bs e (same eof) took h)

-- what begins so is refused, once others came to be buffered
pub names_by_grown : {X Y : Type 0} (needs : Needs) (r : named.Reader X) (s : named.Reader Y) (e : Error) (n : ℕ) (a b : Window) → Grown n a b
    → ((f : Error) (x more : List ℕ) → x ≡ b.buffered ++ more → s x ≡ refuses f → r x ≡ refuses f) → NamesBy needs s e b → NamesBy needs r e a
names_by_grown needs r s e n a b grown same (inl (x, m, p)) = inl (x, left_before n a b x grown m, same e x m.more m.whole p)
names_by_grown needs r s e n a b grown same (inr h) = inr (outside_by_grown (refusing needs) (RefusedAs s) (RefusedAs r) n a b e grown (same eof) h)

-- the same refusal by another reader
pub names_by_more : {X Y : Type 0} (needs : Needs) (r : named.Reader X) (s : named.Reader Y) (e : Error) (a : Window)
    → ((f : Error) (x : List ℕ) → s x ≡ refuses f → r x ≡ refuses f) → NamesBy needs s e a → NamesBy needs r e a
names_by_more needs r s e a same h = names_by_grown needs r s e 0 a a (grown_none a) (λ f x more whole p. same f x p) h

-- a reason outside the bytes excuses where the reader reads what is in front
outside_by_excuse : {X : Type 0} (needs : Needs) (r : named.Reader X) (e : Error) (s : Window) (text rest : List ℕ) (v : X) (after : List ℕ → List ℕ)
    → left s ≡ Some (text ++ rest) → ((x : List ℕ) → r (text ++ x) ≡ reads v (after x)) → OutsideBy needs (RefusedAs r) e s → ExcusedBy needs (length text) e s
outside_by_excuse needs r OutOfMemory s text rest v after known passes h = h
outside_by_excuse needs r (DeCustom (Fixed complaints.BorrowedFromCopying)) s text rest v after known passes h = h
outside_by_excuse needs r (DeReaderError (Reader fault)) s text rest v after known passes h = h
outside_by_excuse needs r (DeReaderError Failed) s text rest v after known passes h =
    names_excuse r (DeReaderError Failed) s text rest v after known passes (inr h)
outside_by_excuse needs r _ s text rest v after known passes h = absurd h

-- where the reader reads what is in front, a refusal has a reason outside the bytes
pub named_excuse : {X : Type 0} (needs : Needs) (r : named.Reader X) (e : Error) (s : Window) (text rest : List ℕ) (v : X) (after : List ℕ → List ℕ)
    → left s ≡ Some (text ++ rest) → ((x : List ℕ) → r (text ++ x) ≡ reads v (after x)) → NamesBy needs r e s → ExcusedBy (refusing needs) (length text) e s
named_excuse needs r e s text rest v after known passes (inl h) = excused_any (refusing needs) (length text) e s (names_excuse r e s text rest v after known passes (inl h))
named_excuse needs r e s text rest v after known passes (inr h) = outside_by_excuse (refusing needs) r e s text rest v after known passes h

-- ---- what holds after a refusal

-- nothing was taken before the refusal
pub fails_untaken : (e : Error) (a b c : Window) (bs : List ℕ) → Took a b bs → Fails e b c → Fails e a c
fails_untaken e a b c bs took h = record {
  before = λ f. absurd (let w = took.working in cc);
  failed = h.failed;
  lends = h.lends ∙ took.lends;
  through = h.through ∙ took.through;
  failures = h.failures ∙ ap (failures_by e) took.failures;
}

pub fails_before : (n : ℕ) (e : Error) (a b c : Window) → Grown n a b → Fails e b c → Fails e a c
fails_before n e a b c grown h = record {
  before = λ f. h.before (grown.failed ∙ f);
  failed = h.failed;
  lends = h.lends ∙ grown.lends;
  through = h.through ∙ grown.through;
  failures = h.failures ∙ ap (failures_by e) grown.failures;
}

-- a refusal by the bytes counts no failure
pub no_failure : (n : ℕ) (e : Error) → IsRefusal e → failures_by e n ≡ n
no_failure n OutOfMemory h = refl
no_failure n (DeReaderError Eof) h = refl
no_failure n (DeReaderError Utf8) h = refl
no_failure n (DeReaderError (Reader fault)) h = absurd h
no_failure n (DeReaderError Memory) h = refl
no_failure n (DeReaderError Failed) h = refl
no_failure n _ h = refl

-- the source was closed, for a reason that counts no failure
pub fails_closed : (e : Error) (a b : Window) → (a.failed ≡ true → e ≡ DeReaderError Failed) → ((n : ℕ) → failures_by e n ≡ n) → b ≡ closed a → Fails e a b
fails_closed e a b first none same = record {
  before = first;
  failed = ap (λ s. s.failed) same;
  lends = ap (λ s. s.lends) same;
  through = ap (λ s. s.through) same;
  failures = ap (λ s. s.failures) same ∙ sym (none a.failures);
}

-- ---- calls

-- what refuses without needs refuses with any
pub with_needs : (needs : Needs) (W : Format) (N M : Type 0) (e : Error) (a b : Window) → (N → M) → RefusesFront bare W N e a b → RefusesFront needs W M e a b
with_needs needs W N M e a b name u = record {
  fails = u.fails;
  may = may_bare u.may;
  names = name u.names;
  excuse = λ text rest wanted known. excused_bare needs (length text) e a (u.excuse text rest wanted known);
}
  where
    may_bare : MayRefuse bare e a → MayRefuse needs e a
    may_bare (inl h) = inl h
    may_bare (inr h) = inr (excused_bare (refusing needs) 0 e a h)

-- what refuses a wider format refuses a narrower one
pub narrower : (needs : Needs) (V W : Format) (N M : Type 0) (e : Error) (a b : Window) → ((text : List ℕ) → W text → V text) → (N → M) → RefusesFront needs V N e a b → RefusesFront needs W M e a b
narrower needs V W N M e a b fit name u = record {
  fails = u.fails;
  may = u.may;
  names = name u.names;
  excuse = λ text rest wanted known. u.excuse text rest (fit text wanted) known;
}

-- a refusal of a front
pub first_part : (needs : Needs) (V W : Format) (N M : Type 0) (e : Error) (a b : Window)
    → ((text : List ℕ) → W text → (first : List ℕ) × (second : List ℕ) × (text ≡ first ++ second) × V first)
    → (N → M) → RefusesFront needs V N e a b → RefusesFront needs W M e a b
first_part needs V W N M e a b split name u = record {
  fails = u.fails;
  may = u.may;
  names = name u.names;
  excuse = λ text rest wanted known.
      let p = split text wanted in
      excused_longer needs (length p.0) (length text) e a (omega (arith, ap length p.2, length-append p.0 p.1)) (u.excuse p.0 (p.1 ++ rest) p.3 (known ∙ ap Some (ap (λ l. l ++ rest) p.2 ∙ append_assoc p.0 p.1 rest)));
}

-- a refusal of the rest, after a front was taken
pub sequel : (needs : Needs) (V W : Format) (N M : Type 0) (e : Error) (a b c : Window) (taken : List ℕ) → Took a b taken
    → ((text rest ys : List ℕ) → W text → text ++ rest ≡ taken ++ ys → (second : List ℕ) × (text ≡ taken ++ second) × V second)
    → (N → M) → RefusesFront needs V N e b c → RefusesFront needs W M e a c
sequel needs V W N M e a b c taken took split name u = record {
  fails = fails_untaken e a b c taken took u.fails;
  may = may_untaken needs a b taken e took u.may;
  names = name u.names;
  excuse = λ text rest wanted known.
      let r = left_took a b taken (text ++ rest) took known in
      let p = split text rest r.0 wanted r.2 in
      let same : p.0 ++ rest ≡ r.0 = append_cancel_left taken _ _ (sym (append_assoc taken p.0 rest) ∙ sym (ap (λ l. l ++ rest) p.1) ∙ r.2) in
      excused_untaken needs (length p.0) (length text) a b taken e (omega (arith, ap length p.1, length-append taken p.0)) took (u.excuse p.0 rest p.2 (r.1 ∙ ap Some (sym same)));
}

-- after what was taken, a refusal where no front of the bytes left is what was wanted
pub unfit : (needs : Needs) (W : Format) (N : Type 0) (e : Error) (a m b : Window) (taken : List ℕ) → IsRefusal e → Took a m taken → b ≡ closed m → N
    → ((text rest : List ℕ) → W text → left a ≡ Some (text ++ rest) → ⊥) → RefusesFront needs W N e a b
unfit needs W N e a m b taken kind took same name none = record {
  fails = fails_untaken e a m b taken took (fails_closed e m b (λ f. absurd (let w = took.failed in cc)) (λ n. no_failure n e kind) same);
  may = inl kind;
  names = name;
  excuse = λ text rest wanted known. absurd (none text rest wanted known);
}

-- a refusal where nothing is what was wanted, and nothing was taken
pub unfit_here : (needs : Needs) (W : Format) (N : Type 0) (e : Error) (a b : Window) → IsRefusal e → (a.failed ≡ true → e ≡ DeReaderError Failed) → b ≡ closed a → N
    → ((text : List ℕ) → W text → ⊥) → RefusesFront needs W N e a b
unfit_here needs W N e a b kind first same name none = record {
  fails = fails_closed e a b first (λ n. no_failure n e kind) same;
  may = inl kind;
  names = name;
  excuse = λ text rest wanted known. absurd (none text wanted);
}

-- a name of a reader that reads what is wanted
pub by_name : {X : Type 0} (needs : Needs) (W : Format) (r : named.Reader X) (e : Error) (a b : Window)
    → ((text : List ℕ) → W text → (v : X) × steps.Passes r v text)
    → ((x : List ℕ) → r x ≡ refuses e → IsRefusal e)
    → (needs.memory || needs.keys ≡ needs.memory)
    → Fails e a b → NamesBy needs r e a → RefusesFront needs W (NamesBy needs r e a) e a b
by_name needs W r e a b passes clean no_keys fails name = record {
  fails = fails;
  may = may_by name;
  names = name;
  excuse = λ text rest wanted known. let p = passes text wanted in exactly (length text) (named_excuse needs r e a text rest p.0 (λ x. x) known p.1 name);
}
  where
    may_by : NamesBy needs r e a → MayRefuse needs e a
    may_by (inl (x, m, h)) = inl (clean x h)
    may_by (inr h) = may_outside needs (RefusedAs r) e a h

    exactly : (n : ℕ) → ExcusedBy (refusing needs) n e a → ExcusedBy needs n e a
    exactly n h = subst (λ m. ExcusedBy (record needs { memory = m }) n e a) no_keys h
