-- How far a source may take ahead has no part in what is left, nor in a refusal.
use Rattle.std.proofs.Common.{ℕ, List, length, inl, inr}
use Rattle.bser_format.specs.Grammar.{Format}
use Rattle.bser_format.specs.declared.errors.Error.{Error}
use Rattle.bser_format.specs.declared.errors.Error.TheVariants.{DeCustom, DeReaderError, OutOfMemory}
use Rattle.bser_format.specs.declared.errors.Message.TheVariants.{Fixed}
use Rattle.bser_format.specs.declared.errors.Complaint.TheVariants as complaints
use Rattle.bser_format.specs.declared.errors.ReadCause.TheVariants.{Reader, Failed}
use Rattle.bser_format.specs.Named as named
use Rattle.bser_source.specs.Window.{Window, with_limit}
use Rattle.bser_bunser.specs.Refusal.{Fails}
use Rattle.bser_bunser.specs.Names.{Blame, MayBeLeft, RefusedAs}
use Rattle.bser_deserializer.specs.Reading.{OutsideBy, ExcusedBy, MayRefuse, NamesBy, RefusesFront, refusing, Needs}

pub left_within : (l : ℕ) (s : Window) (b : List ℕ) → MayBeLeft s b → MayBeLeft (with_limit l s) b
left_within l s b m = record { more = m.more; whole = m.whole; known = m.known }

outside_within : (l : ℕ) (needs : Needs) (P : Blame) (e : Error) (s : Window) → OutsideBy needs P e s → OutsideBy needs P e (with_limit l s)
outside_within l needs P OutOfMemory s h = h
outside_within l needs P (DeCustom (Fixed complaints.BorrowedFromCopying)) s h = h
outside_within l needs P (DeReaderError (Reader fault)) s h = h
outside_within l needs P (DeReaderError Failed) s (inl h) = inl h
outside_within l needs P (DeReaderError Failed) s (inr (lends, o)) =
    inr (lends, record { text = o.text; comes = record { more = o.comes.more; whole = o.comes.whole; known = o.comes.known }; few = o.few; long = o.long })
outside_within l needs P _ s h = h

excused_within : (l : ℕ) (needs : Needs) (n : ℕ) (e : Error) (s : Window) → ExcusedBy needs n e s → ExcusedBy needs n e (with_limit l s)
excused_within l needs n OutOfMemory s h = h
excused_within l needs n (DeCustom (Fixed complaints.BorrowedFromCopying)) s h = h
excused_within l needs n (DeReaderError (Reader fault)) s h = h
excused_within l needs n (DeReaderError Failed) s h = h
excused_within l needs n _ s h = h

may_within : (l : ℕ) (needs : Needs) (e : Error) (s : Window) → MayRefuse needs e s → MayRefuse needs e (with_limit l s)
may_within l needs e s (inl h) = inl h
may_within l needs e s (inr h) = inr (excused_within l (refusing needs) 0 e s h)

pub names_within : {X : Type 0} (l : ℕ) (needs : Needs) (r : named.Reader X) (e : Error) (s : Window) → NamesBy needs r e s → NamesBy needs r e (with_limit l s)
names_within l needs r e s (inl (b, m, h)) = inl (b, left_within l s b m, h)
names_within l needs r e s (inr h) = inr (outside_within l (refusing needs) (RefusedAs r) e s h)

fails_within : (l : ℕ) (e : Error) (a b : Window) → Fails e a b → Fails e (with_limit l a) b
fails_within l e a b h = record { before = h.before; failed = h.failed; lends = h.lends; through = h.through; failures = h.failures }

pub refuses_within : (l : ℕ) (needs : Needs) (W : Format) (N : Type 0) (e : Error) (a b : Window) → RefusesFront needs W N e a b → RefusesFront needs W N e (with_limit l a) b
refuses_within l needs W N e a b u = record {
  fails = fails_within l e a b u.fails;
  may = may_within l needs e a u.may;
  names = u.names;
  excuse = λ text rest wanted known. excused_within l needs (length text) e a (u.excuse text rest wanted known);
}
