-- A slice whose bytes are copied is what a reader that never fails is.
use Rattle.std.proofs.Common.{◌≡◌, ℕ, false, List, [], ◌++◌, Option, None, Some, length, append-nil, refl, ap, subst, ◌∙◌, inl, inr}
use Rattle.bser_format.specs.Content.{Meaning}
use Rattle.bser_format.specs.declared.errors.Error.{Error}
use Rattle.bser_format.specs.declared.errors.Error.TheVariants.{DeCustom, DeReaderError, OutOfMemory}
use Rattle.bser_format.specs.declared.errors.Message.TheVariants.{Fixed}
use Rattle.bser_format.specs.declared.errors.Complaint.TheVariants as complaints
use Rattle.bser_format.specs.declared.errors.ReadCause.TheVariants.{Reader, Failed}
use Rattle.bser_source.specs.Window.{Window}
use Rattle.bser_bunser.specs.Names.{Agree, Blame, MayBeLeft, MayCome}
use Rattle.bser_deserializer.specs.Reading.{Asking, ExcusedBy, Needs, OutsideBy, refusing}
use Rattle.bser_messages.specs.Messages.{NamesMessage, RefusesMessage, RefusesReader}
use Rattle.bser_messages.proofs.Sources.{reader_fresh, reader_refused, slice_left}
use Rattle.bser_frames.specs.Copied.{copied_fresh}

-- the same as a reader that has these bytes and counted no failure
abbrev reader_of : List ℕ → Window
reader_of bytes = reader_fresh (Some bytes) 0 None

left_is : (bytes b : List ℕ) → MayBeLeft (copied_fresh bytes) b → MayBeLeft (reader_of bytes) b
left_is bytes b m = record {
  more = b;
  whole = refl;
  known = λ rest is. slice_left bytes b (record { more = m.more; whole = m.whole; known = m.known }) ∙ (let same : bytes ≡ rest = cc in same);
}

agrees : (bytes text rest : List ℕ) → bytes ≡ rest → MayCome (copied_fresh bytes) text → Agree text rest
agrees bytes text rest is m = ([], m.more, append-nil text ∙ m.whole ∙ ap (λ l. l ++ m.more) is)

come_is : (bytes text : List ℕ) → MayCome (copied_fresh bytes) text → MayCome (reader_of bytes) text
come_is bytes text m = record {
  more = text;
  whole = refl;
  known = λ rest is. agrees bytes text rest (let same : bytes ≡ rest = cc in same) m;
}

outside_is : (needs : Needs) (P : Blame) (e : Error) (bytes : List ℕ) → OutsideBy needs P e (copied_fresh bytes) → OutsideBy needs P e (reader_of bytes)
outside_is needs P OutOfMemory bytes h = h
outside_is needs P (DeCustom (Fixed complaints.BorrowedFromCopying)) bytes h = h
outside_is needs P (DeReaderError (Reader fault)) bytes h = h
outside_is needs P (DeReaderError Failed) bytes (inl h) = inl h
outside_is needs P (DeReaderError Failed) bytes (inr (lends, o)) = inr (lends, record { text = o.text; comes = come_is bytes o.text o.comes; few = o.few; long = o.long })
outside_is needs P _ bytes h = absurd h

excused_is : (needs : Needs) (n : ℕ) (e : Error) (bytes : List ℕ) → ExcusedBy needs n e (copied_fresh bytes) → ExcusedBy needs n e (reader_of bytes)
excused_is needs n OutOfMemory bytes h = h
excused_is needs n (DeCustom (Fixed complaints.BorrowedFromCopying)) bytes h = h
excused_is needs n (DeReaderError (Reader fault)) bytes h = h
excused_is needs n (DeReaderError Failed) bytes h = h
excused_is needs n _ bytes h = absurd h

named_is : {R : Meaning} (n : ℕ) (needs : Needs) (asks : Option (Asking R)) (e : Error) (bytes : List ℕ) → NamesMessage n needs asks e (copied_fresh bytes) → NamesMessage n needs asks e (reader_of bytes)
named_is n needs None e bytes h = tt
named_is n needs (Some k) e bytes (inl (b, m, bad)) = inl (b, left_is bytes b m, bad)
named_is n needs (Some k) e bytes (inr h) = inr (outside_is (refusing needs) _ e bytes h)

-- a message of such a slice is refused as one of a reader
pub copied_refused : (n : ℕ) (reads : Meaning) (asks : Option (Asking reads)) (needs : Needs) (e : Error) (bytes : List ℕ) (a t : Window) → needs.lent ≡ false → a ≡ copied_fresh bytes → t.failures ≡ 0
    → RefusesMessage n reads asks needs e a t → RefusesReader n reads asks e (Some bytes) 0 0
copied_refused n reads asks needs e bytes a t owned fresh none v =
    let u : RefusesMessage n reads asks needs e (copied_fresh bytes) t = subst (λ w. RefusesMessage n reads asks needs e w t) fresh v in
    let w : RefusesMessage n reads asks needs e (reader_of bytes) t = record {
      through = u.through;
      failures = u.failures;
      may = elim u.may [ inl h ↦ inl h | inr h ↦ inr (excused_is (refusing needs) 0 e bytes h) ];
      names = named_is n needs asks e bytes u.names;
      excuse = λ text rest m known. excused_is needs (length text) e bytes (u.excuse text rest m (ap Some (append-nil bytes) ∙ known));
    } in
    subst (λ k. RefusesReader n reads asks e (Some bytes) 0 k) none (reader_refused n reads asks needs e (reader_of bytes) t owned refl w)
