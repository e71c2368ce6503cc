-- What reading a message is to one who holds the slice or the reader.
use Rattle.std.proofs.Common.{◌≡◌, ℕ, ◌+◌, ◌-◌, ◌^◌, ◌<◌, Bool, true, false, cond, ◌||◌, List, [], ◌++◌, Option, None, Some, length, nat_lt, refl, sym, ap, subst, ◌∙◌, arith, inl, inr, ◌⊎◌}
use Rattle.std.proofs.lemmas.List.{append-nil}
use Rattle.std.proofs.lemmas.Bool.{ltb-false}
use Rattle.std.specs.Prelude.{Result, Ok, Err, IfErr}
use Rattle.std.specs.Borrow.{GName}
use Rattle.bser_format.specs.Content.{Content, Meaning}
use Rattle.bser_format.specs.Expected.{node_due}
use Rattle.bser_format.specs.declared.errors.Error.{Error}
use Rattle.bser_format.specs.declared.errors.Error.TheVariants.{DeCustom, DeReaderError, OutOfMemory}
use Rattle.bser_format.specs.declared.errors.Message.TheVariants.{Fixed}
use Rattle.bser_format.specs.declared.errors.Complaint.TheVariants as complaints
use Rattle.bser_format.specs.declared.errors.ReadCause.TheVariants.{Reader, Failed}
use Rattle.bser_source.specs.Device.{one_more, Blamed}
use Rattle.bser_format.specs.Named as named
use Rattle.bser_source.specs.Window.{Window, left}
use Rattle.bser_source.specs.Slice.{slice_fresh}
use Rattle.bser_bunser.specs.Refusal.{failures_by}
use Rattle.bser_bunser.specs.Names as bunser
use Rattle.bser_bunser.specs.Names.{Agree, Blame, MayBeLeft, Names, Outside, RefusedAs, RefusesBy}
use Rattle.bser_deserializer.specs.Reading.{Asking, OutsideBy, ExcusedBy, IsRefusal, MayRefuse, refusing, Needs}
use Rattle.bser_messages.specs.Messages.{ReadsMessage, NamesMessage, RefusesMessage, IsMemory, NamesSlice, RefusesSlice, MayCome, IsReaderFault, IsOutside, NamesReader, RefusesReader, BeginWithHead}

-- ---- slices

-- what may be left of a slice is the slice
pub slice_left : (bytes b : List ℕ) → MayBeLeft (slice_fresh bytes) b → b ≡ bytes
slice_left bytes b m = m.whole ∙ ap (λ l. bytes ++ l) (m.known [] refl) ∙ append-nil bytes

-- nothing but want of memory is to blame beside the slice
slice_outside : (needs : Needs) (P : Blame) (e : Error) (bytes : List ℕ) → OutsideBy needs P e (slice_fresh bytes) → IsMemory needs e
slice_outside needs P OutOfMemory bytes (inl h) = absurd cc
slice_outside needs P OutOfMemory bytes (inr h) = record { memory = refl; needed = h }
slice_outside needs P (DeCustom (Fixed complaints.BorrowedFromCopying)) bytes h = absurd (let f = h.0 in cc)
slice_outside needs P (DeReaderError (Reader fault)) bytes h = absurd cc
slice_outside needs P (DeReaderError Failed) bytes (inl h) = absurd cc
slice_outside needs P (DeReaderError Failed) bytes (inr h) = absurd (let f = h.0 in cc)
slice_outside needs P _ bytes h = absurd h

pub slice_excused : (needs : Needs) (n : ℕ) (e : Error) (bytes : List ℕ) → ExcusedBy needs n e (slice_fresh bytes) → IsMemory needs e
slice_excused needs n OutOfMemory bytes (inl h) = absurd cc
slice_excused needs n OutOfMemory bytes (inr h) = record { memory = refl; needed = h }
slice_excused needs n (DeCustom (Fixed complaints.BorrowedFromCopying)) bytes h = absurd (let f = h.0 in cc)
slice_excused needs n (DeReaderError (Reader fault)) bytes h = absurd cc
slice_excused needs n (DeReaderError Failed) bytes (inl h) = absurd cc
slice_excused needs n (DeReaderError Failed) bytes (inr h) = absurd (let f = h.0 in cc)
slice_excused needs n _ bytes h = absurd h

slice_named : {R : Meaning} (n : ℕ) (needs : Needs) (asks : Option (Asking R)) (e : Error) (bytes : List ℕ) → NamesMessage n needs asks e (slice_fresh bytes) → NamesSlice n asks e bytes
slice_named n needs None e bytes h = tt
slice_named n needs (Some k) e bytes (inl (b, m, bad)) = inl (ap (named.message (k.asks 0 n node_due)) (sym (slice_left bytes b m)) ∙ bad)
slice_named n needs (Some k) e bytes (inr h) = inr ((slice_outside (refusing needs) (RefusedAs (named.message (k.asks 0 n node_due))) e bytes h).memory)

either_is : (a b : Bool) → a || b ≡ true → (a ≡ true) ⊎ (b ≡ true)
either_is true b e = inl refl
either_is false b e = inr e

slice_memory : (needs : Needs) (e : Error) (bytes : List ℕ) → MayRefuse needs e (slice_fresh bytes) → e ≡ OutOfMemory → (needs.memory ≡ true) ⊎ (needs.keys ≡ true)
slice_memory needs e bytes may is = go (subst (λ f. MayRefuse needs f (slice_fresh bytes)) is may)
  where
    go : MayRefuse needs OutOfMemory (slice_fresh bytes) → (needs.memory ≡ true) ⊎ (needs.keys ≡ true)
    go (inl h) = absurd h
    go (inr h) = either_is needs.memory needs.keys ((slice_excused (refusing needs) 0 OutOfMemory bytes h).needed)

slice_may : (needs : Needs) (e : Error) (bytes : List ℕ) → MayRefuse needs e (slice_fresh bytes) → IsRefusal e ⊎ (e ≡ OutOfMemory)
slice_may needs e bytes (inl h) = inl h
slice_may needs e bytes (inr h) = inr ((slice_excused (refusing needs) 0 e bytes h).memory)

pub slice_refused : (n : ℕ) (reads : Meaning) (asks : Option (Asking reads)) (needs : Needs) (e : Error) (bytes : List ℕ) (a t : Window) → a ≡ slice_fresh bytes → RefusesMessage n reads asks needs e a t → RefusesSlice n reads asks needs e bytes
slice_refused n reads asks needs e bytes a t fresh v =
    let u : RefusesMessage n reads asks needs e (slice_fresh bytes) t = subst (λ w. RefusesMessage n reads asks needs e w t) fresh v in
    record {
      may = slice_may needs e bytes u.may;
      names = slice_named n needs asks e bytes u.names;
      excuse = λ text rest c readable known. slice_excused needs (length text) e bytes (u.excuse text rest (c, readable) (ap Some (append-nil bytes ∙ known)));
      memory = slice_memory needs e bytes u.may;
    }

-- what the bytes of a slice are to blame for
pub slice_blamed : {X : Type 0} (r : named.Reader X) (e : Error) (bytes : List ℕ) (a t : Window) → a ≡ slice_fresh bytes → RefusesBy r e a t → r bytes ≡ named.refuses e
slice_blamed r e bytes a t fresh u = go e (subst (λ w. Names r e w) fresh u.names) u.memory
  where
    go : (e : Error) → Names r e (slice_fresh bytes) → (e ≡ OutOfMemory → ⊥) → r bytes ≡ named.refuses e
    go e (inl (b, m, bad)) spared = ap r (sym (slice_left bytes b m)) ∙ bad
    go OutOfMemory (inr h) spared = absurd (spared refl)
    go (DeReaderError (Reader fault)) (inr h) spared = absurd (let l = h in cc)
    go (DeReaderError Failed) (inr (inl h)) spared = absurd cc
    go (DeReaderError Failed) (inr (inr h)) spared = absurd (let l = h.0 in cc)
    go e (inr h) spared = absurd h

-- a head in front of what is left of a slice is in front of the slice
pub slice_head : (bytes : List ℕ) (a : Window) → a ≡ slice_fresh bytes → BeginWithHead (left a) → BeginWithHead (Some bytes)
slice_head bytes a fresh h = record {
  text = h.text;
  head = h.head;
  front = λ x known. h.front x (ap left fresh ∙ ap Some (append-nil bytes) ∙ known);
}

-- ---- readers

-- a reader's window before the first byte is read
abbrev pub reader_fresh : Option (List ℕ) → ℕ → Option GName → Window
reader_fresh remaining failures through =
    record { buffered = []; beyond = remaining; count = 0; limit = 0; lends = false; failed = false; failures = failures; through = through }

-- such a window by what it tells of itself
pub fresh_itself : (remaining : Option (List ℕ)) (failures : ℕ) (through : Option GName) (a : Window) → a ≡ reader_fresh remaining failures through → a ≡ reader_fresh a.beyond a.failures a.through
fresh_itself remaining failures through a e = subst (λ w. w ≡ reader_fresh w.beyond w.failures w.through) (sym e) refl

pub blamed_more : (n : ℕ) → Blamed n (one_more n)
blamed_more n = go (nat_lt n (2 ^ 64 - 1)) refl
  where
    go : (small : Bool) → nat_lt n (2 ^ 64 - 1) ≡ small → Blamed n (cond small (n + 1) n)
    go true e = inl (omega arith)
    go false e = inr (omega (arith, ltb-false n (2 ^ 64 - 1) e))

-- what may be left of a reader
reader_left : (remaining : Option (List ℕ)) (failures : ℕ) (through : Option GName) (b : List ℕ) → MayBeLeft (reader_fresh remaining failures through) b → MayCome remaining b
reader_left remaining failures through b m x known = m.whole ∙ m.known x known

-- what is left of a reader before the first byte is read
pub fresh_left : (remaining : Option (List ℕ)) (failures : ℕ) (through : Option GName) (b : List ℕ) → remaining ≡ Some b → left (reader_fresh remaining failures through) ≡ Some b
fresh_left None failures through b e = absurd cc
fresh_left (Some xs) failures through b e = e

-- a window on a reader that was not read has left what the reader has
pub fresh_known : (remaining : Option (List ℕ)) (failures : ℕ) (through : Option GName) (w : Window) (b : List ℕ) → w ≡ reader_fresh remaining failures through → remaining ≡ Some b → left w ≡ Some b
fresh_known remaining failures through w b fresh known = ap left fresh ∙ fresh_left remaining failures through b known

-- bytes that may come from a reader agree with those left
reader_comes : (remaining : Option (List ℕ)) (failures : ℕ) (through : Option GName) (b : List ℕ) → bunser.MayCome (reader_fresh remaining failures through) b → (x : List ℕ) → remaining ≡ Some x → Agree b x
reader_comes remaining failures through b m x known = subst (λ l. Agree l x) (sym m.whole) (m.known x known)

reader_outside : {X : Type 0} (needs : Needs) (r : named.Reader X) (e : Error) (remaining : Option (List ℕ)) (before after : ℕ) (through : Option GName) → needs.lent ≡ false → after ≡ failures_by e before
    → OutsideBy needs (RefusedAs r) e (reader_fresh remaining before through) → IsOutside r remaining before after e
reader_outside needs r OutOfMemory remaining before after through owned same h = tt
reader_outside needs r (DeCustom (Fixed complaints.BorrowedFromCopying)) remaining before after through owned same h = absurd (let l = h.1 in cc)
reader_outside needs r (DeReaderError (Reader fault)) remaining before after through owned same h = subst (Blamed before) (sym same) (blamed_more before)
reader_outside needs r (DeReaderError Failed) remaining before after through owned same (inl h) = absurd cc
reader_outside needs r (DeReaderError Failed) remaining before after through owned same (inr (lends, o)) =
    record { text = o.text; comes = reader_comes remaining before through o.text o.comes; few = o.few; long = omega (arith, o.long) }
reader_outside needs r _ remaining before after through owned same h = absurd h

-- no message is so long that its bytes are not counted
pub reader_excused : (needs : Needs) (n : ℕ) (e : Error) (remaining : Option (List ℕ)) (before after : ℕ) (through : Option GName) → needs.lent ≡ false → after ≡ failures_by e before → n < 2 ^ 63
    → ExcusedBy needs n e (reader_fresh remaining before through) → IsReaderFault before after e
reader_excused needs n OutOfMemory remaining before after through owned same short h = tt
reader_excused needs n (DeCustom (Fixed complaints.BorrowedFromCopying)) remaining before after through owned same short h = absurd (let l = h.1 in cc)
reader_excused needs n (DeReaderError (Reader fault)) remaining before after through owned same short h = subst (Blamed before) (sym same) (blamed_more before)
reader_excused needs n (DeReaderError Failed) remaining before after through owned same short (inl h) = absurd cc
reader_excused needs n (DeReaderError Failed) remaining before after through owned same short (inr h) = absurd (omega (arith, h.1, short))
reader_excused needs n _ remaining before after through owned same short h = absurd h

reader_may : (needs : Needs) (e : Error) (remaining : Option (List ℕ)) (before after : ℕ) (through : Option GName) → needs.lent ≡ false → after ≡ failures_by e before
    → MayRefuse needs e (reader_fresh remaining before through) → IsRefusal e ⊎ IsReaderFault before after e
reader_may needs e remaining before after through owned same (inl h) = inl h
reader_may needs e remaining before after through owned same (inr h) = inr (reader_excused (refusing needs) 0 e remaining before after through owned same (omega arith) h)

reader_named : {R : Meaning} (n : ℕ) (needs : Needs) (asks : Option (Asking R)) (e : Error) (remaining : Option (List ℕ)) (before after : ℕ) (through : Option GName) → needs.lent ≡ false → after ≡ failures_by e before
    → NamesMessage n needs asks e (reader_fresh remaining before through) → NamesReader n asks e remaining before after
reader_named n needs None e remaining before after through owned same h = tt
reader_named n needs (Some k) e remaining before after through owned same (inl (b, m, bad)) = inl (b, reader_left remaining before through b m, bad)
reader_named n needs (Some k) e remaining before after through owned same (inr h) = inr (reader_outside (refusing needs) (named.message (k.asks 0 n node_due)) e remaining before after through owned same h)

pub reader_refused : (n : ℕ) (reads : Meaning) (asks : Option (Asking reads)) (needs : Needs) (e : Error) (a t : Window) → needs.lent ≡ false → a ≡ reader_fresh a.beyond a.failures a.through
    → RefusesMessage n reads asks needs e a t → RefusesReader n reads asks e a.beyond a.failures t.failures
reader_refused n reads asks needs e a t owned fresh v =
    let u : RefusesMessage n reads asks needs e (reader_fresh a.beyond a.failures a.through) t = subst (λ w. RefusesMessage n reads asks needs e w t) fresh v in
    record {
      may = reader_may needs e a.beyond a.failures t.failures a.through owned v.failures u.may;
      names = reader_named n needs asks e a.beyond a.failures t.failures a.through owned v.failures u.names;
      excuse = λ text rest c readable known. reader_excused needs (length text) e a.beyond a.failures t.failures a.through owned v.failures readable.message.short (u.excuse text rest (c, readable) (fresh_left a.beyond a.failures a.through (text ++ rest) known));
    }

-- what is to blame for an error of a reader
pub reader_blamed : {X : Type 0} (r : named.Reader X) (e : Error) (remaining : Option (List ℕ)) (before after : ℕ) (through : Option GName) → after ≡ failures_by e before
    → Names r e (reader_fresh remaining before through) → ((b : List ℕ) × MayCome remaining b × (r b ≡ named.refuses e)) ⊎ IsOutside r remaining before after e
reader_blamed r e remaining before after through same (inl (b, m, bad)) = inl (b, reader_left remaining before through b m, bad)
reader_blamed r e remaining before after through same (inr h) = inr (go e same h)
  where
    go : (e : Error) → after ≡ failures_by e before → Outside (RefusedAs r) e (reader_fresh remaining before through) → IsOutside r remaining before after e
    go OutOfMemory same h = tt
    go (DeReaderError (Reader fault)) same h = subst (Blamed before) (sym same) (blamed_more before)
    go (DeReaderError Failed) same (inl h) = absurd cc
    go (DeReaderError Failed) same (inr (lends, o)) =
        record { text = o.text; comes = reader_comes remaining before through o.text o.comes; few = o.few; long = omega (arith, o.long) }
    go e same h = absurd h

-- a head in front of what is left of a reader
pub reader_head : (remaining : Option (List ℕ)) (failures : ℕ) (through : Option GName) (a : Window) → a ≡ reader_fresh remaining failures through → BeginWithHead (left a) → BeginWithHead remaining
reader_head remaining failures through a fresh h = record {
  text = h.text;
  head = h.head;
  front = λ x known. h.front x (ap left fresh ∙ fresh_left remaining failures through x known);
}

-- the same of a reader that is known to have as much left, and to have counted as much
pub reader_counted : (n : ℕ) (reads : Meaning) (asks : Option (Asking reads)) (e : Error) (left seen : Option (List ℕ)) (a b before after : ℕ) → seen ≡ left → a ≡ before → b ≡ after → RefusesReader n reads asks e seen a b → RefusesReader n reads asks e left before after
reader_counted n reads asks e left seen a b before after p q r u = rw (sym p, sym q, sym r) u

-- where a message was read, the reader counted no failure
pub none_counted : {A : Type 0} (n : ℕ) (reads : Meaning) (holds : A → Content → Type 0) (v : A) (a b : Window) (before after : ℕ) → a.failures ≡ before → b.failures ≡ after → ReadsMessage n reads holds a b v → after ≡ before
none_counted n reads holds v a b before after p q u = sym q ∙ u.took.failures ∙ p

-- ---- answers

-- a refusal that follows from another
pub if_refused : {X E : Type 0} (r : Result X E) (P Q : E → Type 0) → ((e : E) → P e → Q e) → IfErr r P → IfErr r Q
if_refused (Ok v) P Q f h = tt
if_refused (Err e) P Q f h = f e h
