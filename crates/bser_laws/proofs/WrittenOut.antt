-- A template and its rows written out are read alike.
use Rattle.std.proofs.Common.{◌≡◌, ℕ, suc, ◌+◌, arith, List, ◌++◌, Option, Some, None, Result, Ok, Err, refl, sym, ap, subst, ◌∙◌}
use Rattle.std.specs.Prelude.{IsOk, IfOk, IfErr}
use Rattle.bser_format.specs.Tree.{Tree}
use Rattle.bser_format.specs.Expand.{expand}
use Rattle.bser_format.specs.Content.{Content, Meaning}
use Rattle.bser_format.specs.Message.{IsMessage}
use Rattle.bser_format.specs.WrittenOut.{row_objects}
use Rattle.bser_format.specs.declared.errors.Error.{Error}
use Rattle.bser_format.proofs.GrammarLaws.{one_message}
use Rattle.bser_format.proofs.Written.{written_out_spelled, same_expansion}
use Rattle.std.proofs.lemmas.Option.{same_Some}
use Rattle.serde_bser.specs.Messages.{ReadsMessageAs, BeginsWith, TookMessage, RefusesSlice, RefusesReader, IsMemory, IsReaderFault}
use Rattle.serde_bser.specs.Reading.{Asking, Needs}
use Rattle.bser_laws.specs.TemplateRows.{HoldOne, IsWrittenOut, template_of}
use Rattle.bser_laws.proofs.Alike.{known_rest}

one_level : (n : ℕ) → n + 1 ≡ suc n
one_level n = omega arith

-- the message in front of bytes of which a front is a message of this tree reads as the tree does
front_reads : (n c : ℕ) (reads : Meaning) (t : Tree) (a b x y : List ℕ) (d : Content) → IsMessage n c t a → ReadsMessageAs n reads b d → a ++ x ≡ b ++ y → reads (expand t) ≡ Some d
front_reads n c reads t a b x y d p q e =
    let same = one_message n c q.capabilities a b x y t q.tree p q.message e in
    ap (λ u. reads (expand u)) same.2 ∙ q.read

-- the rows, written out, as a message
pub objects_of : {n : ℕ} {first second : List ℕ} (w : IsWrittenOut n first second) → IsMessage (suc n) w.out_capabilities (row_objects w.keys w.rows) w.out
objects_of {n} w = record {
  body = _;
  capabilities = w.out_message.fits;
  whole = w.out_message.whole;
  value = written_out_spelled n w.keys w.rows w.message.body w.message.value;
  short = w.out_message.short;
}

-- what the template's message reads as
pub template_reads : (n : ℕ) (reads : Meaning) (first second text rest : List ℕ) (c : Content) (w : IsWrittenOut n first second) → ReadsMessageAs n reads text c → first ≡ text ++ rest → reads (expand (template_of w)) ≡ Some c
template_reads n reads first second text rest c w m is = front_reads n w.capabilities reads (template_of w) w.text text w.rest rest c w.message m (sym w.front ∙ is)

-- what the objects' message reads as
pub objects_read : (n : ℕ) (reads : Meaning) (first second text rest : List ℕ) (c : Content) (w : IsWrittenOut n first second) → ReadsMessageAs (n + 1) reads text c → second ≡ text ++ rest → reads (expand (template_of w)) ≡ Some c
objects_read n reads first second text rest c w m is =
    let read = subst (λ k. ReadsMessageAs k reads text c) (one_level n) m in
    ap reads (sym (same_expansion w.keys w.rows)) ∙ front_reads (suc n) w.out_capabilities reads (row_objects w.keys w.rows) w.out text w.out_rest rest c (objects_of w) read (sym w.out_front ∙ is)

-- the objects' message, where the template reads
objects_message : (n : ℕ) (reads : Meaning) (first second : List ℕ) (c : Content) (w : IsWrittenOut n first second) → reads (expand (template_of w)) ≡ Some c → ReadsMessageAs (n + 1) reads w.out c
objects_message n reads first second c w read =
    let message : ReadsMessageAs (suc n) reads w.out c = record {
      capabilities = w.out_capabilities;
      tree = row_objects w.keys w.rows;
      message = objects_of w;
      read = ap reads (same_expansion w.keys w.rows) ∙ read;
    } in
    subst (λ k. ReadsMessageAs k reads w.out c) (sym (one_level n)) message

-- the template's message, where it reads
template_message : (n : ℕ) (reads : Meaning) (first second : List ℕ) (c : Content) (w : IsWrittenOut n first second) → reads (expand (template_of w)) ≡ Some c → ReadsMessageAs n reads w.text c
template_message n reads first second c w read = record {
  capabilities = w.capabilities;
  tree = template_of w;
  message = w.message;
  read = read;
}

-- one content, where both were read
held_alike : {A : Type 0} (reads : Meaning) (holds : A → Content → Type 0) (t : Tree) (c d : Content) (v u : A) → reads (expand t) ≡ Some c → reads (expand t) ≡ Some d → holds v c → holds u d → HoldOne reads holds t v u
held_alike reads holds t c d v u p q h k = record { content = c; read = p; first = h; second = subst (holds u) (same_Some d c (sym q ∙ p)) k }

-- ---- from slices

pub both_slices : {A : Type 0} (n : ℕ) (reads : Meaning) (holds : A → Content → Type 0) (first second : List ℕ) (r q : Result A Error) (w : IsWrittenOut n first second)
    → IfOk r (BeginsWith n reads holds first) → IfOk q (BeginsWith (n + 1) reads holds second) → IfOk r (λ v. IfOk q (HoldOne reads holds (template_of w) v))
both_slices n reads holds first second (Err e) q w h k = tt
both_slices n reads holds first second (Ok v) (Err f) w h k = tt
both_slices n reads holds first second (Ok v) (Ok u) w h k =
    held_alike reads holds (template_of w) h.content k.content v u (template_reads n reads first second h.text h.rest h.content w h.message h.front) (objects_read n reads first second k.text k.rest k.content w k.message k.front) h.held k.held

pub template_slice : {A : Type 0} (n : ℕ) (reads : Meaning) (holds : A → Content → Type 0) (asks : Option (Asking reads)) (needs : Needs) (first second : List ℕ) (r q : Result A Error) → IsWrittenOut n first second
    → IfOk r (BeginsWith n reads holds first) → IfErr q (λ e. RefusesSlice (n + 1) reads asks needs e second) → IsOk r → IfErr q (IsMemory needs)
template_slice n reads holds asks needs first second (Err e) q w h k ok = absurd cc
template_slice n reads holds asks needs first second (Ok v) (Ok u) w h k ok = tt
template_slice n reads holds asks needs first second (Ok v) (Err f) w h k ok =
    k.excuse w.out w.out_rest h.content (objects_message n reads first second h.content w (template_reads n reads first second h.text h.rest h.content w h.message h.front)) w.out_front

pub objects_slice : {A : Type 0} (n : ℕ) (reads : Meaning) (holds : A → Content → Type 0) (asks : Option (Asking reads)) (needs : Needs) (first second : List ℕ) (r q : Result A Error) → IsWrittenOut n first second
    → IfErr r (λ e. RefusesSlice n reads asks needs e first) → IfOk q (BeginsWith (n + 1) reads holds second) → IsOk q → IfErr r (IsMemory needs)
objects_slice n reads holds asks needs first second (Ok v) q w h k ok = tt
objects_slice n reads holds asks needs first second (Err e) (Err f) w h k ok = absurd cc
objects_slice n reads holds asks needs first second (Err e) (Ok u) w h k ok =
    h.excuse w.text w.rest k.content (template_message n reads first second k.content w (objects_read n reads first second k.text k.rest k.content w k.message k.front)) w.front

-- ---- from readers

pub both_readers : {A : Type 0} (n : ℕ) (reads : Meaning) (holds : A → Content → Type 0) (first second : List ℕ) (old left old_out left_out : Option (List ℕ)) (r q : Result A Error) → old ≡ Some first → old_out ≡ Some second → (w : IsWrittenOut n first second)
    → IfOk r (TookMessage n reads holds old left) → IfOk q (TookMessage (n + 1) reads holds old_out left_out) → IfOk r (λ v. IfOk q (HoldOne reads holds (template_of w) v))
both_readers n reads holds first second old left old_out left_out (Err e) q is out_is w h k = tt
both_readers n reads holds first second old left old_out left_out (Ok v) (Err f) is out_is w h k = tt
both_readers n reads holds first second old left old_out left_out (Ok v) (Ok u) is out_is w h k =
    let known = known_rest first h.text old left is h.bytes in
    let out_known = known_rest second k.text old_out left_out out_is k.bytes in
    held_alike reads holds (template_of w) h.content k.content v u (template_reads n reads first second h.text known.rest h.content w h.message known.front) (objects_read n reads first second k.text out_known.rest k.content w k.message out_known.front) h.held k.held

pub template_reader : {A : Type 0} (n : ℕ) (reads : Meaning) (holds : A → Content → Type 0) (asks : Option (Asking reads)) (first second : List ℕ) (old left old_out : Option (List ℕ)) (before after : ℕ) (r q : Result A Error) → old ≡ Some first → old_out ≡ Some second → IsWrittenOut n first second
    → IfOk r (TookMessage n reads holds old left) → IfErr q (λ e. RefusesReader (n + 1) reads asks e old_out before after) → IsOk r → IfErr q (IsReaderFault before after)
template_reader n reads holds asks first second old left old_out before after (Err e) q is out_is w h k ok = absurd cc
template_reader n reads holds asks first second old left old_out before after (Ok v) (Ok u) is out_is w h k ok = tt
template_reader n reads holds asks first second old left old_out before after (Ok v) (Err f) is out_is w h k ok =
    let known = known_rest first h.text old left is h.bytes in
    k.excuse w.out w.out_rest h.content (objects_message n reads first second h.content w (template_reads n reads first second h.text known.rest h.content w h.message known.front)) (out_is ∙ ap Some w.out_front)

pub objects_reader : {A : Type 0} (n : ℕ) (reads : Meaning) (holds : A → Content → Type 0) (asks : Option (Asking reads)) (first second : List ℕ) (old old_out left_out : Option (List ℕ)) (before after : ℕ) (r q : Result A Error) → old ≡ Some first → old_out ≡ Some second → IsWrittenOut n first second
    → IfErr r (λ e. RefusesReader n reads asks e old before after) → IfOk q (TookMessage (n + 1) reads holds old_out left_out) → IsOk q → IfErr r (IsReaderFault before after)
objects_reader n reads holds asks first second old old_out left_out before after (Ok v) q is out_is w h k ok = tt
objects_reader n reads holds asks first second old old_out left_out before after (Err e) (Err f) is out_is w h k ok = absurd cc
objects_reader n reads holds asks first second old old_out left_out before after (Err e) (Ok u) is out_is w h k ok =
    let known = known_rest second k.text old_out left_out out_is k.bytes in
    h.excuse w.text w.rest k.content (template_message n reads first second k.content w (objects_read n reads first second k.text known.rest k.content w k.message known.front)) (is ∙ ap Some w.front)
