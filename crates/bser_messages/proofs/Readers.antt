-- A message of a reader.
use Rattle.std.proofs.Common.{◌≡◌, ℕ, ◌+◌, ◌-◌, ◌≤◌, max, false, List, [], ◌++◌, ◌⊎◌, Option, Some, length, append-nil, refl, sym, ap, subst, ◌∙◌, arith, inl, inr}
use Rattle.std.proofs.lemmas.List.{nil_from_length}
use Rattle.std.specs.Borrow.{GName}
use Rattle.std.specs.Io.KnownBytes.{Consumes}
use Rattle.bser_format.specs.Content.{Content, Meaning}
use Rattle.bser_format.specs.declared.errors.Error.{Error}
use Rattle.bser_source.specs.Window.{Window, Took, left, with_limit}
use Rattle.bser_bunser.specs.Refusal.{failures_by}
use Rattle.bser_deserializer.specs.Reading.{Asking, ExcusedBy, bare, Needs}
use Rattle.bser_format.specs.Message.{Head}
use Rattle.bser_messages.specs.Messages.{IsReaderFault}
use Rattle.bser_messages.proofs.Ends.{head_length}
use Rattle.bser_messages.proofs.Sources.{reader_fresh, fresh_left, reader_excused, reader_refused}
use Rattle.bser_messages.specs.Limited.{TookWithin, ReadsWithin, RefusesWithin, RefusesReaderWithin}

-- where nothing was buffered nor announced, nothing past what was taken left the reader
pub reader_gave : (a t : Window) (text : List ℕ) → a.buffered ≡ [] → a.limit ≡ 0 → Took a (with_limit a.limit t) text → Consumes a.beyond t.beyond text
reader_gave a t text empty none took =
    let within : length t.buffered ≤ max (a.limit - t.count) 0 = took.within 0 (let w : length a.buffered ≤ max (a.limit - a.count) (0 + length text) = omega (arith, ap length empty) in w) in
    let over : t.buffered ≡ [] = nil_from_length t.buffered (omega (arith, within, none)) in
    let more : took.more ≡ text = ap (λ l. l ++ took.more) (sym empty) ∙ took.bytes ∙ ap (λ l. text ++ l) over ∙ append-nil text in
    subst (Consumes a.beyond t.beyond) more took.device

pub reader_took : {A : Type 0} (n m : ℕ) (reads : Meaning) (holds : A → Content → Type 0) (a t : Window) (v : A) → a.buffered ≡ [] → a.limit ≡ 0
    → ReadsWithin n m reads holds a t v → TookWithin n m reads holds a.beyond t.beyond v
reader_took n m reads holds a t v empty none r =
    let w = r.whole in
    record {
      whole = record { text = w.text; bytes = reader_gave a t w.text empty none w.took; content = w.content; message = w.message; held = w.held };
      short = r.short;
    }

-- a head that is in front announces little, or the reader is to blame
pub head_excused : (m k : ℕ) (e : Error) (c : ℕ) (text : List ℕ) (remaining : Option (List ℕ)) (before after : ℕ) (through : Option GName) → Head c k text → after ≡ failures_by e before
    → (k ≤ m) ⊎ ExcusedBy bare (length text) e (reader_fresh remaining before through) → (k ≤ m) ⊎ IsReaderFault before after e
head_excused m k e c text remaining before after through h same (inl le) = inl le
head_excused m k e c text remaining before after through h same (inr x) =
    let small = head_length c k text h in
    inr (reader_excused bare (length text) e remaining before after through refl same (omega (arith, small)) x)

pub reader_refused_within : (n m : ℕ) (reads : Meaning) (asks : Option (Asking reads)) (needs : Needs) (e : Error) (a t : Window) → needs.lent ≡ false → a ≡ reader_fresh a.beyond a.failures a.through
    → RefusesWithin n m reads asks needs e a t → RefusesReaderWithin n m reads asks e a.beyond t.beyond a.failures t.failures
reader_refused_within n m reads asks needs e a t owned fresh (inl h) =
    let empty : a.buffered ≡ [] = ap (λ w. w.buffered) fresh in
    let none : a.limit ≡ 0 = ap (λ w. w.limit) fresh in
    let gave = reader_gave a h.at h.text empty none h.took in
    let beyond : t.beyond ≡ h.at.beyond = ap (λ w. w.beyond) h.end in
    let failures : t.failures ≡ h.at.failures = ap (λ w. w.failures) h.end in
    inl (record {
      head = record {
        capabilities = h.capabilities;
        announced = h.announced;
        text = h.text;
        head = h.head;
        bytes = subst (λ b. Consumes a.beyond b h.text) (sym beyond) gave;
        more = h.more;
        name = h.name;
      };
      failures = failures ∙ h.took.failures;
    })
reader_refused_within n m reads asks needs e a t owned fresh (inr h) =
    inr (record {
      announced = λ c k text rest start known.
          head_excused m k e c text a.beyond a.failures t.failures a.through start h.refused.failures
          (subst (λ w. (k ≤ m) ⊎ ExcusedBy bare (length text) e w) fresh
          (h.announced c k text rest start (subst (λ w. left w ≡ Some (text ++ rest)) (sym fresh) (fresh_left a.beyond a.failures a.through (text ++ rest) known))));
      refused = reader_refused n reads asks needs e a t owned fresh h.refused;
    })

-- the same of a reader that is known to have as much left, and to have counted as much
pub reader_known : (n m : ℕ) (reads : Meaning) (asks : Option (Asking reads)) (e : Error) (old new x y : Option (List ℕ)) (before after i j : ℕ) → x ≡ old → y ≡ new → i ≡ before → j ≡ after
    → RefusesReaderWithin n m reads asks e x y i j → RefusesReaderWithin n m reads asks e old new before after
reader_known n m reads asks e old new x y before after i j p q r s u = rw (sym p, sym q, sym r, sym s) u

pub took_known : {A : Type 0} (n m : ℕ) (reads : Meaning) (holds : A → Content → Type 0) (old new x y : Option (List ℕ)) (v : A) → x ≡ old → y ≡ new
    → TookWithin n m reads holds x y v → TookWithin n m reads holds old new v
took_known n m reads holds old new x y v p q r = rw (sym p, sym q) r
