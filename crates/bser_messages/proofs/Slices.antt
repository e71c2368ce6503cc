-- A message of a slice.
use Rattle.std.proofs.Common.{◌≡◌, ℕ, ◌+◌, ◌-◌, ◌≤◌, List, [], ◌++◌, ◌⊎◌, Option, Some, length, take, drop, length-append, append-nil, refl, sym, ap, subst, ◌∙◌, arith, inl, inr}
use Rattle.std.proofs.Math.Seq.{drop-append_seam, take-length}
use Rattle.std.proofs.lemmas.List.{drop-drop, length-drop}
use Rattle.bser_format.specs.Content.{Content, Meaning}
use Rattle.bser_format.specs.declared.errors.Error.{Error}
use Rattle.bser_source.specs.Window.{Window, with_limit}
use Rattle.bser_source.specs.Slice.{slice_fresh}
use Rattle.bser_source.proofs.Windows.{left_took}
use Rattle.bser_deserializer.specs.Reading.{Asking, ExcusedBy, bare, Needs}
use Rattle.bser_messages.proofs.Sources.{slice_excused, slice_refused}
use Rattle.bser_messages.specs.Limited.{BeginsWithin, TookWithin, ReadsWithin, RefusesWithin, RefusesSliceWithin}

-- so many bytes of a slice were taken
slice_took : {A : Type 0} (n m : ℕ) (reads : Meaning) (holds : A → Content → Type 0) (bytes : List ℕ) (t : Window) (v : A) (k : ℕ) → k ≡ t.count
    → ReadsWithin n m reads holds (slice_fresh bytes) t v → (k ≤ length bytes) × TookWithin n m reads holds (Some bytes) (Some (drop k bytes)) v
slice_took n m reads holds bytes t v k same r =
    let w = r.whole in
    let p = left_took (slice_fresh bytes) (with_limit 0 t) w.text (bytes ++ []) w.took refl in
    let front : bytes ≡ w.text ++ p.0 = sym (append-nil bytes) ∙ p.2 in
    let count : k ≡ length w.text = omega (arith, same, w.took.count) in
    let rest : drop k bytes ≡ p.0 = ap (λ j. drop j bytes) count ∙ ap (drop (length w.text)) front ∙ drop-append_seam w.text p.0 in (
      omega (arith, ap length front, length-append w.text p.0, count),
      record {
        whole = record { text = w.text; bytes = front ∙ ap (λ l. w.text ++ l) (sym rest); content = w.content; message = w.message; held = w.held };
        short = r.short;
      },
    )

-- the same by the window that a slice is read through
pub slice_length : {A : Type 0} (n m : ℕ) (reads : Meaning) (holds : A → Content → Type 0) (bytes : List ℕ) (a t : Window) (v : A) (k : ℕ) → a ≡ slice_fresh bytes → k ≡ t.count
    → ReadsWithin n m reads holds a t v → k ≤ length bytes
slice_length n m reads holds bytes a t v k fresh same r =
    (slice_took n m reads holds bytes t v k same (subst (λ w. ReadsWithin n m reads holds w t v) fresh r)).0

pub slice_front : {A : Type 0} (n m : ℕ) (reads : Meaning) (holds : A → Content → Type 0) (bytes : List ℕ) (a t : Window) (v : A) (k : ℕ) → a ≡ slice_fresh bytes → k ≡ t.count
    → ReadsWithin n m reads holds a t v → TookWithin n m reads holds (Some bytes) (Some (drop k bytes)) v
slice_front n m reads holds bytes a t v k fresh same r =
    (slice_took n m reads holds bytes t v k same (subst (λ w. ReadsWithin n m reads holds w t v) fresh r)).1

pub slice_begins : {A : Type 0} (n m : ℕ) (reads : Meaning) (holds : A → Content → Type 0) (bytes rest : List ℕ) (v : A)
    → TookWithin n m reads holds (Some bytes) (Some rest) v → BeginsWithin n m reads holds bytes v
slice_begins n m reads holds bytes rest v r =
    let w = r.whole in
    record {
      whole = record { text = w.text; rest = rest; front = w.bytes; content = w.content; message = w.message; held = w.held };
      short = r.short;
    }

-- the range from a place to the end is what is left there
whole_rest : (n : ℕ) (l : List ℕ) → take (length l - n) (drop n l) ≡ drop n l
whole_rest n l = ap (λ k. take k (drop n l)) (sym (length-drop n l)) ∙ take-length (drop n l)

-- the rest of a slice, after its next message
pub rest_took : {A : Type 0} (n m : ℕ) (reads : Meaning) (holds : A → Content → Type 0) (bytes : List ℕ) (taken k : ℕ) (v : A)
    → TookWithin n m reads holds (Some (take (length bytes - taken) (drop taken bytes))) (Some (drop k (take (length bytes - taken) (drop taken bytes)))) v
    → TookWithin n m reads holds (Some (drop taken bytes)) (Some (drop (taken + k) bytes)) v
rest_took n m reads holds bytes taken k v r =
    let rest = subst (λ x. TookWithin n m reads holds (Some x) (Some (drop k x)) v) (whole_rest taken bytes) r in
    subst (λ l. TookWithin n m reads holds (Some (drop taken bytes)) (Some l) v) (drop-drop k taken bytes) rest

-- a slice gives no reason outside its bytes
at_most : (m k n : ℕ) (e : Error) (bytes : List ℕ) → (k ≤ m) ⊎ ExcusedBy bare n e (slice_fresh bytes) → k ≤ m
at_most m k n e bytes (inl le) = le
at_most m k n e bytes (inr h) = absurd (let f = (slice_excused bare n e bytes h).needed in cc)

refused_slice : (n m : ℕ) (reads : Meaning) (asks : Option (Asking reads)) (needs : Needs) (e : Error) (bytes : List ℕ) (t : Window)
    → RefusesWithin n m reads asks needs e (slice_fresh bytes) t → RefusesSliceWithin n m reads asks needs e bytes
refused_slice n m reads asks needs e bytes t (inl h) =
    let p = left_took (slice_fresh bytes) (with_limit 0 h.at) h.text (bytes ++ []) h.took refl in
    inl (p.0, record { capabilities = h.capabilities; announced = h.announced; text = h.text; head = h.head; bytes = sym (append-nil bytes) ∙ p.2; more = h.more; name = h.name })
refused_slice n m reads asks needs e bytes t (inr h) =
    inr (record {
      announced = λ c k text rest start front. at_most m k (length text) e bytes (h.announced c k text rest start (ap Some (append-nil bytes ∙ front)));
      refused = slice_refused n reads asks needs e bytes (slice_fresh bytes) t refl h.refused;
    })

pub slice_refused_within : (n m : ℕ) (reads : Meaning) (asks : Option (Asking reads)) (needs : Needs) (e : Error) (bytes : List ℕ) (a t : Window) → a ≡ slice_fresh bytes
    → RefusesWithin n m reads asks needs e a t → RefusesSliceWithin n m reads asks needs e bytes
slice_refused_within n m reads asks needs e bytes a t fresh u =
    refused_slice n m reads asks needs e bytes t (subst (λ w. RefusesWithin n m reads asks needs e w t) fresh u)
