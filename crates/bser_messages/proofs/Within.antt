-- A message that was read within limits, and one that was refused: over any source.
use Rattle.std.proofs.Common.{◌≡◌, ℕ, ◌≤◌, ◌<◌, ◌-◌, ◌^◌, List, [], ◌++◌, ◌⊎◌, Option, None, Some, length, append-nil, refl, ap, ◌∙◌, arith, inl, inr}
use Rattle.std.specs.Prelude.{pos, IsTrue, FitsSigned}
use Rattle.std.proofs.lemmas.Int.{ints}
use Rattle.bser_format.specs.Content.{Content, Meaning}
use Rattle.bser_format.specs.declared.errors.Error.{Error}
use Rattle.bser_format.specs.Message.{Head}
use Rattle.bser_format.specs.Grammar.{IntSize, int8, int16, int32, int64, width_of}
use Rattle.bser_format.proofs.OneHead.{one_head}
use Rattle.bser_format.specs.Named as named
use Rattle.bser_source.specs.Window.{Window, Grown, Took, with_limit}
use Rattle.bser_source.proofs.Windows.{left_took, left_grown, took_grown}
use Rattle.bser_bunser.specs.Names.{Names}
use Rattle.bser_bunser.specs.Refusal.{Fails, failures_by}
use Rattle.bser_bunser.specs.Tagged.{IsHead}
use Rattle.bser_bunser.proofs.Readers.{head_there}
use Rattle.bser_deserializer.specs.State.{State, Begins, IsAtEnd}
use Rattle.bser_deserializer.specs.Reading.{Answers, Asking, ExcusedBy, MayRefuse, Refuses, bare, refusing, Needs}
use Rattle.bser_deserializer.proofs.Clean.{clean_head}
use Rattle.bser_deserializer.proofs.Refusals.{by_name, excused_before, names_any, names_by_grown}
use Rattle.bser_deserializer.specs.View.{not_at_end}
use Rattle.bser_messages.specs.Messages.{NamesMessage, RefusesBody, RefusesMessage}
use Rattle.bser_messages.proofs.Messages.{head_refused, value_refused, end_refused, read_text}
use Rattle.bser_messages.specs.Limited.{ReadsWithin, ReadsBodyWithin, StopsAt, AnnouncesShort, RefusesBodyWithin, RefusesWithin}
use Rattle.bser_messages.proofs.Heads.{body_size, some_head, some_message}

-- ---- heads

-- the head that was taken is the one in front
pub announces_short : (m : ℕ) (e : Error) (a b : Window) (c k : ℕ) (head : List ℕ) → Head c k head → Took a b head → k ≤ m → AnnouncesShort m e a
announces_short m e a b c k head start took le d j text rest h known =
    let r = left_took a b head (text ++ rest) took known in
    let same = one_head d c j k text head rest r.0 h start r.2 in
    inl (omega (arith, same.2, le))

-- a head that is refused is none
pub no_head : (m : ℕ) (e : Error) (a b : Window) → Fails e a b → Names named.head e a → AnnouncesShort m e a
no_head m e a b fails name c k text rest h known =
    let u = by_name bare IsHead named.head e a b (λ t i. ((i.0, i.1), head_there i.0 i.1 t i.2)) (λ x bad. clean_head x e bad) refl fails (names_any bare named.head e a name) in
    inr (u.excuse text rest (c, k, h) known)

pub head_refused_within : (n m : ℕ) (reads : Meaning) (asks : Option (Asking reads)) (needs : Needs) (e : Error) (a b : Window) → Fails e a b → Names named.head e a
    → RefusesBodyWithin n m reads asks needs e a b
head_refused_within n m reads asks needs e a b fails name =
    inr (record { announced = no_head m e a b fails name; refused = head_refused n reads asks needs e a b fails name })

-- ---- after a head

pub value_refused_within : (n m k : ℕ) (reads : Meaning) (asks : Option (Asking reads)) (needs : Needs) (e : Error) (a : Window) (s t : State) → Begins n a s → s.len ≡ pos k → k ≤ m → Refuses reads asks needs e s t
    → RefusesBodyWithin n m reads asks needs e a t.source
value_refused_within n m k reads asks needs e a s t begins len le u =
    let head = begins.took in
    let size : head.size ≤ m = omega (arith, ints, head.value, len, le) in
    inr (record {
      announced = announces_short m e a (with_limit a.limit s.source) s.capabilities head.size head.text head.head head.took size;
      refused = value_refused n reads asks needs e a s t begins u;
    })

pub body_read : {A : Type 0} (n m k : ℕ) (reads : Meaning) (holds : A → Content → Type 0) (a : Window) (s t : State) (v : A) → Begins n a s → s.len ≡ pos k → k ≤ m → Answers reads holds s t v
    → ReadsBodyWithin n m reads holds a t v
body_read n m k reads holds a s t v begins len le answers =
    record { whole = record { begun = s; begins = begins; answers = answers }; short = omega (arith, ints, begins.took.value, len, le) }

-- ---- whole messages

pub read_short : {A : Type 0} (n m : ℕ) (reads : Meaning) (holds : A → Content → Type 0) (a : Window) (t : State) (v : A)
    → ReadsBodyWithin n m reads holds a t v → IsAtEnd t → ReadsWithin n m reads holds a t.source v
read_short n m reads holds a t v body over =
    let p = read_text n reads holds a t v body.whole over in
    let message = p.0.message in
    let head = body.whole.begins.took in
    let size = body_size n message.capabilities message.tree p.0.text message.message body.whole.begun.capabilities head.size head.text [] body.whole.answers.text head.head (append-nil p.0.text ∙ p.1) in
    record { whole = p.0; short = omega (arith, size.0, body.short) }

-- a body that does not end where its head says
pub end_refused_within : {A : Type 0} (n m : ℕ) (reads : Meaning) (asks : Option (Asking reads)) (holds : A → Content → Type 0) (needs : Needs) (e : Error) (a : Window) (t : State) (v : A)
    → a.count ≡ 0 → ReadsBodyWithin n m reads holds a t v → (IsAtEnd t → IsTrue t.source.failed) → e ≡ not_at_end t → RefusesWithin n m reads asks needs e a t.source
end_refused_within n m reads asks holds needs e a t v fresh body failed name =
    let s = body.whole.begun in
    let head = body.whole.begins.took in
    inr (record {
      announced = announces_short m e a (with_limit a.limit s.source) s.capabilities head.size head.text head.head head.took body.short;
      refused = end_refused n reads asks holds needs e a t v fresh body.whole failed name;
    })

-- a head or a value that is refused is a message that is
body_refused : (n : ℕ) (reads : Meaning) (asks : Option (Asking reads)) (needs : Needs) (e : Error) (a b : Window) → RefusesBody n reads asks needs e a b → RefusesMessage n reads asks needs e a b
body_refused n reads asks needs e a b u = record { through = u.fails.through; failures = u.fails.failures; may = u.may; names = u.names; excuse = u.excuse }

pub message_refused : (n m : ℕ) (reads : Meaning) (asks : Option (Asking reads)) (needs : Needs) (e : Error) (a b : Window) → RefusesBodyWithin n m reads asks needs e a b → RefusesWithin n m reads asks needs e a b
message_refused n m reads asks needs e a b (inl h) = inl h
message_refused n m reads asks needs e a b (inr h) = inr (record { announced = h.announced; refused = body_refused n reads asks needs e a b h.refused })

-- ---- no limit of bytes

-- no head announces more bytes than the greatest usize
announced_small : (c k : ℕ) (text : List ℕ) → Head c k text → k < 2 ^ 64
announced_small c k text h = go h.1.second.second.size h.1.second.second.fits
  where
    go : (s : IntSize) → FitsSigned (width_of s) (pos k) → k < 2 ^ 64
    go int8 f = omega (arith, f)
    go int16 f = omega (arith, f)
    go int32 f = omega (arith, f)
    go int64 f = omega (arith, f)

pub unlimited_refused : (n : ℕ) (reads : Meaning) (asks : Option (Asking reads)) (needs : Needs) (e : Error) (a b : Window) → RefusesWithin n (2 ^ 64 - 1) reads asks needs e a b
    → RefusesMessage n reads asks needs e a b
unlimited_refused n reads asks needs e a b (inl h) =
    let small = announced_small h.capabilities h.announced h.text h.head in
    absurd (omega (arith, small, h.more))
unlimited_refused n reads asks needs e a b (inr h) = h.refused

-- ---- before bytes came to be buffered

pub before_took : (k : ℕ) (a b t : Window) (text : List ℕ) → Grown k a b → k ≤ length text → Took b (with_limit b.limit t) text → Took a (with_limit a.limit t) text
before_took k a b t text grown le took =
    let same : with_limit b.limit t ≡ with_limit a.limit t = ap (λ l. with_limit l t) grown.limit in
    rw (← same) (took_grown a b (with_limit b.limit t) k text grown le took)

pub read_before : {A : Type 0} (n m : ℕ) (reads : Meaning) (holds : A → Content → Type 0) (a b t : Window) (v : A) → Grown 1 a b
    → ReadsWithin n m reads holds b t v → ReadsWithin n m reads holds a t v
read_before n m reads holds a b t v grown r =
    let w = r.whole in
    let some = some_message n w.message.capabilities w.message.tree w.text w.message.message in
    record {
      whole = record {
        text = w.text;
        content = w.content;
        message = w.message;
        held = w.held;
        took = before_took 1 a b t w.text grown some w.took;
        limit = omega (arith, w.limit, grown.limit);
      };
      short = r.short;
    }

stops_before : (m : ℕ) (e : Error) (a b t : Window) → Grown 1 a b → StopsAt m e b t → StopsAt m e a t
stops_before m e a b t grown h = record {
  capabilities = h.capabilities;
  announced = h.announced;
  text = h.text;
  head = h.head;
  at = h.at;
  took = before_took 1 a b h.at h.text grown (some_head h.capabilities h.announced h.text h.head) h.took;
  end = h.end;
  more = h.more;
  name = h.name;
}

may_before : (needs : Needs) (e : Error) (a b : Window) → Grown 1 a b → MayRefuse needs e b → MayRefuse needs e a
may_before needs e a b grown (inl h) = inl h
may_before needs e a b grown (inr h) = inr (excused_before (refusing needs) 1 0 a b e grown h)

names_before : {R : Meaning} (n : ℕ) (needs : Needs) (asks : Option (Asking R)) (e : Error) (a b : Window) → Grown 1 a b → NamesMessage n needs asks e b → NamesMessage n needs asks e a
names_before n needs None e a b grown h = tt
names_before n needs (Some k) e a b grown h = names_by_grown needs _ _ e 1 a b grown (λ f x more whole p. p) h

pub refused_before : (n m : ℕ) (reads : Meaning) (asks : Option (Asking reads)) (needs : Needs) (e : Error) (a b t : Window) → Grown 1 a b
    → RefusesWithin n m reads asks needs e b t → RefusesWithin n m reads asks needs e a t
refused_before n m reads asks needs e a b t grown (inl h) = inl (stops_before m e a b t grown h)
refused_before n m reads asks needs e a b t grown (inr h) =
    let u = h.refused in
    inr (record {
      announced = λ c k text rest start known. short_before c k text (h.announced c k text rest start (left_grown 1 a b (text ++ rest) grown known));
      refused = record {
        through = u.through ∙ grown.through;
        failures = u.failures ∙ ap (failures_by e) grown.failures;
        may = may_before needs e a b grown u.may;
        names = names_before n needs asks e a b grown u.names;
        excuse = λ text rest readable known. excused_before needs 1 (length text) a b e grown (u.excuse text rest readable (left_grown 1 a b (text ++ rest) grown known));
      };
    })
  where
    short_before : (c k : ℕ) (text : List ℕ) → (k ≤ m) ⊎ ExcusedBy bare (length text) e b → (k ≤ m) ⊎ ExcusedBy bare (length text) e a
    short_before c k text (inl le) = inl le
    short_before c k text (inr x) = inr (excused_before bare 1 (length text) a b e grown x)
