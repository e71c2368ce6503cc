-- Refusals of a type that are told by what stands before them.
use Rattle.std.proofs.Common.{◌≡◌, ℕ, true, List, [], ◌++◌, length, Option, Some, None, ap, sym, subst, ◌∙◌, refl, inl, inr, ◌||◌}
use Rattle.bser_format.specs.Grammar.{Format}
use Rattle.bser_format.specs.Content.{Meaning}
use Rattle.bser_format.specs.declared.errors.Error.{Error}
use Rattle.bser_format.specs.declared.errors.Error.TheVariants.{DeReaderError, DeCustom, OutOfMemory}
use Rattle.bser_format.specs.declared.errors.Message.TheVariants.{Fixed}
use Rattle.bser_format.specs.declared.errors.Complaint.TheVariants.{BorrowedFromCopying}
use Rattle.bser_format.specs.declared.errors.ReadCause.TheVariants.{Failed}
use Rattle.bser_format.specs.Named.{refuses}
use Rattle.bser_format.specs.Clauses.{after_a_refusal}
use Rattle.bser_source.specs.Window.{Window, Took, closed}
use Rattle.bser_bunser.specs.Refusal.{Fails, failures_by}
use Rattle.bser_bunser.proofs.Names.{known_rest, left_now, left_untaken}
use Rattle.bser_deserializer.specs.State.{State}
use Rattle.bser_bunser.specs.Names.{Blame, RefusedAs}
use Rattle.bser_deserializer.specs.Reading.{Asking, ExcusedBy, MayRefuse, NamesAsked, OutsideBy, Refuses, RefusesFront, refusing, Needs}
use Rattle.bser_deserializer.proofs.Clean.{Clean}
use Rattle.bser_deserializer.proofs.Refusals.{excused_refusing, fails_untaken, fails_closed, no_failure}
use Rattle.bser_deserializer.proofs.Tags.{asking_refused}

-- what was taken is refused by the type's name of it
pub taken_refused : (needs : Needs) (reads : Meaning) (a : Asking reads) (s mid z : State) (text : List ℕ) (e f : Error) → Clean (a.asks s.opened s.levels s.due)
    → Took s.source mid.source text → e ≡ after_a_refusal mid.source.failed f → z.source ≡ closed mid.source
    → ((x : List ℕ) → a.asks s.opened s.levels s.due (text ++ x) ≡ refuses f) → Refuses reads (Some a) needs e s z
taken_refused needs reads a s mid z text e f clean took reason closes named =
    let same : e ≡ f = reason ∙ ap (λ b. after_a_refusal b f) took.failed in
    let is : (x : List ℕ) → a.asks s.opened s.levels s.due (text ++ x) ≡ refuses e = λ x. named x ∙ ap refuses (sym same) in
    asking_refused needs reads a (a.asks s.opened s.levels s.due) e s z (λ g x p. p) clean
    (fails_untaken e s.source mid.source z.source text took (fails_closed e mid.source z.source (λ g. absurd (let w = took.failed in cc)) (λ n. no_failure n e (clean (text ++ []) e (is []))) closes))
    (inl (text ++ (mid.source.buffered ++ known_rest mid.source.beyond), left_untaken s.source mid.source text (mid.source.buffered ++ known_rest mid.source.beyond) took (left_now mid.source), is _))

-- ---- reasons outside the bytes

names_outside : (reads : Meaning) (asks : Option (Asking reads)) (needs : Needs) (e : Error) (s : State) → ((P : Blame) → OutsideBy (refusing needs) P e s.source) → NamesAsked needs asks e s
names_outside reads None needs e s h = tt
names_outside reads (Some a) needs e s h = inr (h (RefusedAs (a.asks s.opened s.levels s.due)))

-- a refusal that has a reason outside the bytes
pub outside_refused : (reads : Meaning) (asks : Option (Asking reads)) (needs : Needs) (e : Error) (s z : State) → Fails e s.source z.source → ((n : ℕ) → ExcusedBy needs n e s.source) → ((P : Blame) → OutsideBy (refusing needs) P e s.source)
    → Refuses reads asks needs e s z
outside_refused reads asks needs e s z fails excuse refused = record {
  fails = fails;
  may = inr (excused_refusing needs 0 e s.source (excuse 0));
  names = names_outside reads asks needs e s refused;
  excuse = λ text rest wanted known. excuse (length text);
}

-- a call after an earlier refusal
pub failed_before : (reads : Meaning) (asks : Option (Asking reads)) (needs : Needs) (e f : Error) (s z : State) → s.source.failed ≡ true → e ≡ after_a_refusal s.source.failed f → z.source ≡ closed s.source
    → Refuses reads asks needs e s z
failed_before reads asks needs e f s z failed reason closes =
    let same : e ≡ DeReaderError Failed = reason ∙ ap (λ b. after_a_refusal b f) failed in
    outside_refused reads asks needs e s z (fails_closed e s.source z.source (λ g. same) (λ n. subst (λ x. failures_by x n ≡ n) (sym same) refl) closes)
    (λ n. subst (λ x. ExcusedBy needs n x s.source) (sym same) (inl failed)) (λ P. subst (λ x. OutsideBy (refusing needs) P x s.source) (sym same) (inl failed))

-- memory was refused after what was taken
pub no_room : (reads : Meaning) (asks : Option (Asking reads)) (needs : Needs) (s mid z : State) (text : List ℕ) (e : Error) → needs.memory ≡ true → Took s.source mid.source text → e ≡ OutOfMemory → z.source ≡ closed mid.source
    → Refuses reads asks needs e s z
no_room reads asks needs s mid z text e memory took same closes =
    outside_refused reads asks needs e s z (fails_untaken e s.source mid.source z.source text took (fails_closed e mid.source z.source (λ g. absurd (let w = took.failed in cc)) (λ n. subst (λ x. failures_by x n ≡ n) (sym same) refl) closes))
    (λ n. subst (λ x. ExcusedBy needs n x s.source) (sym same) (inr memory)) (λ P. subst (λ x. OutsideBy (refusing needs) P x s.source) (sym same) (inr (ap (λ m. m || needs.keys) memory)))

-- ---- more needs

pub wider_outside : (some all : Needs) (P : Blame) (e : Error) (s : Window) → (some.lent ≡ true → all.lent ≡ true) → (some.memory ≡ true → all.memory ≡ true) → OutsideBy some P e s → OutsideBy all P e s
wider_outside some all P OutOfMemory s lent memory (inl h) = inl h
wider_outside some all P OutOfMemory s lent memory (inr h) = inr (memory h)
wider_outside some all P (DeCustom (Fixed BorrowedFromCopying)) s lent memory h = (h.0, lent h.1)
wider_outside some all P _ s lent memory h = h

wider_excused : (some all : Needs) (n : ℕ) (e : Error) (s : Window) → (some.lent ≡ true → all.lent ≡ true) → (some.memory ≡ true → all.memory ≡ true) → ExcusedBy some n e s → ExcusedBy all n e s
wider_excused some all n OutOfMemory s lent memory (inl h) = inl h
wider_excused some all n OutOfMemory s lent memory (inr h) = inr (memory h)
wider_excused some all n (DeCustom (Fixed BorrowedFromCopying)) s lent memory h = (h.0, lent h.1)
wider_excused some all n _ s lent memory h = h

names_wider : (reads : Meaning) (asks : Option (Asking reads)) (some all : Needs) (e : Error) (s : State) → ((P : Blame) → OutsideBy (refusing some) P e s.source → OutsideBy (refusing all) P e s.source)
    → NamesAsked some asks e s → NamesAsked all asks e s
names_wider reads None some all e s wider h = tt
names_wider reads (Some a) some all e s wider (inl h) = inl h
names_wider reads (Some a) some all e s wider (inr h) = inr (wider (RefusedAs (a.asks s.opened s.levels s.due)) h)

-- a call that needs more may refuse the same
pub wider_needs : (some all : Needs) (W : Format) (N M : Type 0) (e : Error) (a b : Window) → (some.lent ≡ true → all.lent ≡ true) → (some.memory ≡ true → all.memory ≡ true)
    → (some.memory || some.keys ≡ true → all.memory || all.keys ≡ true) → (N → M) → RefusesFront some W N e a b → RefusesFront all W M e a b
wider_needs some all W N M e a b lent memory takes name u = record {
  fails = u.fails;
  may = at u.may;
  names = name u.names;
  excuse = λ text rest wanted known. wider_excused some all (length text) e a lent memory (u.excuse text rest wanted known);
}
  where
    at : MayRefuse some e a → MayRefuse all e a
    at (inl h) = inl h
    at (inr h) = inr (wider_excused (refusing some) (refusing all) 0 e a lent takes h)

-- a type that needs more may refuse the same
pub wider_type : (reads : Meaning) (asks : Option (Asking reads)) (some all : Needs) (e : Error) (s z : State) → (some.lent ≡ true → all.lent ≡ true) → (some.memory ≡ true → all.memory ≡ true)
    → (some.memory || some.keys ≡ true → all.memory || all.keys ≡ true) → Refuses reads asks some e s z → Refuses reads asks all e s z
wider_type reads asks some all e s z lent memory takes u =
    wider_needs some all _ _ _ e s.source z.source lent memory takes
    (names_wider reads asks some all e s (λ P h. wider_outside (refusing some) (refusing all) P e s.source lent takes h)) u
