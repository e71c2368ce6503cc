-- A message that was read, and one that was refused.
use Rattle.std.proofs.Common.{◌≡◌, ℕ, ◌+◌, ◌-◌, ◌≤◌, ◌<◌, ◌^◌, min, max, List, ◌++◌, Option, None, Some, length, length-append, append_assoc, refl, sym, ap, subst, ◌∙◌, arith, true, false, inl}
use Rattle.std.proofs.lemmas.List.{append_cancel_left}
use Rattle.std.specs.Prelude.{ℤ, pos, ◌+ℤ◌, IsTrue}
use Rattle.std.proofs.KnownBytes.{Consumes-trans}
use Rattle.std.proofs.lemmas.Int.{ints}
use Rattle.bser_format.specs.Tree.{Tree}
use Rattle.bser_format.specs.Expand.{expand}
use Rattle.bser_format.specs.Expected.{Fills, FillsNode, nothing_due, node_due}
use Rattle.bser_format.specs.Content.{Content, Meaning}
use Rattle.bser_format.specs.declared.errors.Error.{Error}
use Rattle.bser_format.proofs.Frames.{framed, parts}
use Rattle.bser_format.proofs.Fronts.{one_value}
use Rattle.bser_format.proofs.OneHead.{one_head}
use Rattle.bser_format.specs.Named as named
use Rattle.bser_format.specs.Named.{refuses}
use Rattle.bser_format.specs.Clauses.{after_a_refusal, still_open}
use Rattle.bser_source.specs.Window.{Window, Within, Took, left, with_limit}
use Rattle.bser_source.proofs.Windows.{left_took, octets_then}
use Rattle.bser_bunser.specs.Tagged.{IsHead}
use Rattle.bser_bunser.specs.Refusal.{Fails, end_refusal}
use Rattle.bser_bunser.specs.Names.{Names}
use Rattle.bser_bunser.proofs.Names.{known_rest, left_now, left_untaken}
use Rattle.bser_bunser.proofs.Readers.{head_there}
use Rattle.bser_deserializer.specs.State.{State, Begins, IsAtEnd}
use Rattle.bser_deserializer.specs.Reading.{Answers, Asking, NamesAsked, NamesBy, Refuses, FillsReadably, IsRefusal, bare, Needs}
use Rattle.bser_deserializer.proofs.Clean.{clean_head}
use Rattle.bser_deserializer.proofs.Refusals.{first_part, sequel, with_needs, by_name, names_any, names_bare, names_by_more, names_by_untaken, no_failure}
use Rattle.bser_deserializer.specs.View.{not_at_end}
use Rattle.bser_messages.specs.Messages.{ReadsMessage, ReadsBody, IsReadableMessage, NamesMessage, BeginWithHead, RefusesBody, RefusesMessage}
use Rattle.bser_messages.proofs.Announced.{left_within, names_within, refuses_within}
use Rattle.bser_messages.proofs.Ends.{head_length, head_bad, value_bad, end_bad, end_kind}

-- ---- what was taken

-- where the announced length ends where the body does, it is the body's length
body_len : (start len : ℤ) (at body count : ℕ) → start ≡ pos (min at (2 ^ 63 - 1)) → count ≡ at + body → count < 2 ^ 63 → pos count ≡ start +ℤ len → len ≡ pos body
body_len start len at body count s c small sum =
    let m : min at (2 ^ 63 - 1) ≡ at = omega (arith, c, small) in
    omega (arith, ints, s, m, c, sum)

-- a head that announced the body, and then the body: nothing is buffered past it
took_message : (a s t : Window) (head body : List ℕ) → Took a (with_limit a.limit s) head → a.limit ≤ s.limit → s.limit ≤ max a.limit (s.count + length body) → Took s t body
    → Took a (with_limit a.limit t) (head ++ body)
took_message a s t head body first kept announced second = record {
  more = first.more ++ second.more;
  bytes = sym (append_assoc a.buffered first.more second.more) ∙ ap (λ l. l ++ second.more) first.bytes ∙ append_assoc head s.buffered second.more
      ∙ ap (λ l. head ++ l) second.bytes ∙ sym (append_assoc head body t.buffered);
  octets = octets_then head body first.octets second.octets;
  device = Consumes-trans a.beyond s.beyond t.beyond first.more second.more first.device second.device;
  within = λ x h. (
      let sum : x + length (head ++ body) ≡ x + length body + length head = omega (arith, length-append head body) in
      let u : length s.buffered ≤ max (a.limit - s.count) (x + length body) = first.within (x + length body) (subst (λ k. Within k a) sum h) in
      let v : Within (x + length body) s = omega (arith, u, kept) in
      let w : length t.buffered ≤ max (t.limit - t.count) x = second.within x v in
      omega (arith, w, announced, second.limit, second.count));
  count = omega (arith, length-append head body, first.count, second.count);
  limit = refl;
  lends = second.lends ∙ first.lends;
  working = first.working;
  failed = second.failed;
  failures = second.failures ∙ first.failures;
  through = second.through ∙ first.through;
}

-- the value that was due, in a state after a head
due_node : (n : ℕ) (a : Window) (s : State) (u : Tree) (b : List ℕ) → Begins n a s → Fills s.levels s.due u b → FillsNode n u b
due_node n a s u b begins h = subst (λ m. FillsNode m u b) begins.levels (subst (λ d. Fills s.levels d u b) begins.due h)

-- a message that was read, by the head that was taken and the text of its value
pub read_text : {A : Type 0} (n : ℕ) (reads : Meaning) (holds : A → Content → Type 0) (a : Window) (t : State) (v : A)
    → (body : ReadsBody n reads holds a t v) → IsAtEnd t → (m : ReadsMessage n reads holds a t.source v) × (m.text ≡ body.begins.took.text ++ body.answers.text)
read_text n reads holds a t v body over =
    let s = body.begun in
    let head = body.begins.took in
    let answers = body.answers in
    let node = due_node n a s answers.tree answers.text body.begins answers.filled in
    let start : t.start ≡ s.start = ap (λ z. z.start) answers.state in
    let len : t.len ≡ s.len = ap (λ z. z.len) answers.state in
    let long : t.len ≡ pos (length answers.text) =
    body_len t.start t.len s.source.count (length answers.text) t.source.count (start ∙ body.begins.start) answers.took.count over.ends.small over.ends.sum in
    let size : pos head.size ≡ pos (length answers.text) = sym head.value ∙ sym len ∙ long in
    let same : length answers.text ≡ head.size = omega (arith, ints, size) in
    let announced : s.source.limit ≤ max a.limit (s.source.count + length answers.text) = omega (arith, same, head.limit) in
    let short : length (head.text ++ answers.text) < 2 ^ 63 = omega (arith, length-append head.text answers.text, head.took.count, answers.took.count, over.ends.small) in (
      record {
        text = head.text ++ answers.text;
        content = answers.content;
        message = record {
          capabilities = s.capabilities;
          tree = node.tree;
          message = framed n s.capabilities head.size node.tree head.text answers.text head.head same node.spelled short;
          read = rw (sym node.stands) answers.read;
        };
        held = answers.held;
        took = took_message a s.source t.source head.text answers.text head.took head.kept announced answers.took;
        limit = omega (arith, announced, answers.took.count, answers.took.limit);
      },
      refl,
    )

-- ---- what was refused

-- a message begins with a head
head_first : (n : ℕ) (reads : Meaning) (text : List ℕ) → IsReadableMessage n reads text → (first : List ℕ) × (second : List ℕ) × (text ≡ first ++ second) × IsHead first
head_first n reads text (c, r) =
    let p = parts n r.capabilities r.tree text r.message in
    (p.head, p.body, p.whole, (r.capabilities, length p.body, p.start))

-- a head that was taken stands in front of what was left
pub head_came : (n : ℕ) (a : Window) (s : State) → Begins n a s → BeginWithHead (left a)
head_came n a s begins =
    let head = begins.took in
    record {
      text = head.text;
      head = (s.capabilities, head.size, head.head);
      front = λ x known. (let r = left_took a (with_limit a.limit s.source) head.text x head.took known in (r.0, r.2));
    }

-- by the name of the head
head_named : {R : Meaning} (n : ℕ) (needs : Needs) (asks : Option (Asking R)) (e : Error) (a : Window) → NamesBy needs named.head e a → NamesMessage n needs asks e a
head_named n needs None e a h = tt
head_named n needs (Some k) e a h = names_by_more needs (named.message (k.asks 0 n node_due)) named.head e a (λ f x bad. head_bad (k.asks 0 n node_due) f x bad) h

pub head_refused : (n : ℕ) (reads : Meaning) (asks : Option (Asking reads)) (needs : Needs) (e : Error) (a b : Window) → Fails e a b → Names named.head e a → RefusesBody n reads asks needs e a b
head_refused n reads asks needs e a b fails name =
    first_part needs IsHead (IsReadableMessage n reads) (NamesBy bare named.head e a) (NamesMessage n needs asks e a) e a b (head_first n reads)
    (λ h. head_named n needs asks e a (names_bare needs named.head e a h))
    (with_needs needs IsHead _ _ e a b (λ h. h)
    (by_name bare IsHead named.head e a b (λ text h. ((h.0, h.1), head_there h.0 h.1 text h.2)) (λ x bad. clean_head x e bad) refl fails (names_any bare named.head e a name)))

-- after a head was taken, a message's body is what is due
body_second : (n : ℕ) (reads : Meaning) (a : Window) (s : State) → (begins : Begins n a s) → (text rest ys : List ℕ) → IsReadableMessage n reads text → text ++ rest ≡ begins.took.text ++ ys
    → (second : List ℕ) × (text ≡ begins.took.text ++ second) × FillsReadably reads s second
body_second n reads a s begins text rest ys (c, r) e =
    let p = parts n r.capabilities r.tree text r.message in
    let all : p.head ++ (p.body ++ rest) ≡ begins.took.text ++ ys = sym (append_assoc p.head p.body rest) ∙ ap (λ l. l ++ rest) (sym p.whole) ∙ e in
    let same = one_head _ _ _ _ p.head begins.took.text (p.body ++ rest) ys p.start begins.took.head all in
    let node : FillsNode n (expand r.tree) p.body = record { tree = r.tree; stands = refl; spelled = p.value } in (
      p.body,
      p.whole ∙ ap (λ h. h ++ p.body) same.0,
      record {
        tree = expand r.tree;
        content = c;
        read = r.read;
        filled = rw (begins.levels, begins.due) node;
      },
    )

-- by the name of the value
value_named : {R : Meaning} (n : ℕ) (needs : Needs) (asks : Option (Asking R)) (e : Error) (a : Window) (s : State) → Begins n a s → NamesAsked needs asks e s → NamesMessage n needs asks e a
value_named n needs None e a s begins h = tt
value_named n needs (Some k) e a s begins h =
    let head = begins.took in
    let here : NamesBy needs (k.asks 0 n node_due) e s.source =
    subst (λ o. NamesBy needs (k.asks o n node_due) e s.source) begins.opened
    (subst (λ l. NamesBy needs (k.asks s.opened l node_due) e s.source) begins.levels (subst (λ d. NamesBy needs (k.asks s.opened s.levels d) e s.source) begins.due h)) in
    names_by_untaken needs (named.message (k.asks 0 n node_due)) (k.asks 0 n node_due) e a (with_limit a.limit s.source) head.text
    (λ f x bad. value_bad (k.asks 0 n node_due) f s.capabilities head.size head.text x (head_there s.capabilities head.size head.text head.head) bad)
    head.took (names_within a.limit needs (k.asks 0 n node_due) e s.source here)

pub value_refused : (n : ℕ) (reads : Meaning) (asks : Option (Asking reads)) (needs : Needs) (e : Error) (a : Window) (s t : State) → Begins n a s → Refuses reads asks needs e s t
    → RefusesBody n reads asks needs e a t.source
value_refused n reads asks needs e a s t begins u =
    sequel needs (FillsReadably reads s) (IsReadableMessage n reads) (NamesAsked needs asks e s) (NamesMessage n needs asks e a) e a (with_limit a.limit s.source) t.source begins.took.text begins.took.took
    (body_second n reads a s begins) (value_named n needs asks e a s begins) (refuses_within a.limit needs (FillsReadably reads s) (NamesAsked needs asks e s) e s.source t.source u)

-- ---- a body that does not end where it was to

-- where a message was read to its end, its end is reached
ends_there : (n : ℕ) (a : Window) (s t : State) (body : List ℕ) → (begins : Begins n a s) → t ≡ record s { source = t.source; due = nothing_due } → a.count ≡ 0
    → length begins.took.text + length body < 2 ^ 63 → begins.took.size ≡ length body → t.source.count ≡ s.source.count + length body → IsAtEnd t
ends_there n a s t body begins state fresh short size count =
    let start : t.start ≡ s.start = ap (λ z. z.start) state in
    let len : t.len ≡ s.len = ap (λ z. z.len) state in
    let opened : t.opened ≡ s.opened = ap (λ z. z.opened) state in
    let from : s.source.count ≡ length begins.took.text = omega (arith, fresh, begins.took.took.count) in
    let total : t.source.count < 2 ^ 63 = omega (arith, from, count, short) in
    let at : min s.source.count (2 ^ 63 - 1) ≡ s.source.count = omega (arith, count, total) in
    let start' : t.start ≡ pos s.source.count = start ∙ begins.start ∙ ap pos at in
    let len' : t.len ≡ pos (length body) = len ∙ begins.took.value ∙ ap pos size in
    record {
      due = ap (λ z. z.due) state;
      opened = opened ∙ begins.opened;
      ends = record { start_in = rw start' (omega (arith, ints)); len_in = rw len' (omega (arith, ints)); small = total; sum = omega (arith, ints, start', len', count) };
    }

-- why it does not end there, by the counts
end_is : (n : ℕ) (a : Window) (s t : State) (body : List ℕ) → (begins : Begins n a s) → t ≡ record s { source = t.source; due = nothing_due } → a.count ≡ 0
    → t.source.failed ≡ false → t.source.count ≡ s.source.count + length body
    → not_at_end t ≡ end_refusal (pos (length begins.took.text)) (pos begins.took.size) (length begins.took.text + length body)
end_is n a s t body begins state fresh working count =
    let start : t.start ≡ s.start = ap (λ z. z.start) state in
    let len : t.len ≡ s.len = ap (λ z. z.len) state in
    let opened : t.opened ≡ 0 = ap (λ z. z.opened) state ∙ begins.opened in
    let due : t.due ≡ nothing_due = ap (λ z. z.due) state in
    let from : s.source.count ≡ length begins.took.text = omega (arith, fresh, begins.took.took.count) in
    let small = head_length s.capabilities begins.took.size begins.took.text begins.took.head in
    let at : min s.source.count (2 ^ 63 - 1) ≡ length begins.took.text = omega (arith, from, small) in
    let start' : t.start ≡ pos (length begins.took.text) = start ∙ begins.start ∙ ap pos at in
    let len' : t.len ≡ pos begins.took.size = len ∙ begins.took.value in
    let now : t.source.count ≡ length begins.took.text + length body = omega (arith, count, from) in
    ap (λ f. after_a_refusal f (still_open t.due t.opened (end_refusal t.start t.len t.source.count))) working
    ∙ ap (λ d. still_open d t.opened (end_refusal t.start t.len t.source.count)) due
    ∙ ap (λ o. still_open nothing_due o (end_refusal t.start t.len t.source.count)) opened
    ∙ ap (λ z. end_refusal z t.len t.source.count) start'
    ∙ ap (λ z. end_refusal (pos (length begins.took.text)) z t.source.count) len'
    ∙ ap (λ c. end_refusal (pos (length begins.took.text)) (pos begins.took.size) c) now

-- no end is reached where `end` refuses
no_end : (n : ℕ) (a : Window) (s t : State) (body : List ℕ) → (begins : Begins n a s) → t ≡ record s { source = t.source; due = nothing_due } → a.count ≡ 0
    → t.source.failed ≡ false → t.source.count ≡ s.source.count + length body → (IsAtEnd t → IsTrue t.source.failed)
    → begins.took.size ≡ length body → length begins.took.text + length body < 2 ^ 63 → ⊥
no_end n a s t body begins state fresh working count refused size short =
    let over = ends_there n a s t body begins state fresh short size count in
    let failed : false ≡ true = subst IsTrue working (refused over) in
    cc

-- by the name of the end
end_named : {A : Type 0} {R : Meaning} (n : ℕ) (needs : Needs) (asks : Option (Asking R)) (holds : A → Content → Type 0) (e : Error) (a : Window) (s t : State) (v : A)
    → Begins n a s → Answers R holds s t v → a.count ≡ 0 → (IsAtEnd t → IsTrue t.source.failed) → e ≡ not_at_end t → NamesMessage n needs asks e a
end_named n needs None holds e a s t v begins answers fresh refused named = tt
end_named {R = R} n needs (Some k) holds e a s t v begins answers fresh refused named =
    let head = begins.took in
    let r = k.asks 0 n node_due in
    let node = due_node n a s answers.tree answers.text begins answers.filled in
    let after = left_now t.source in
    let x = t.source.buffered ++ known_rest t.source.beyond in
    let second = left_untaken s.source t.source answers.text x answers.took after in
    let first = left_untaken a (with_limit a.limit s.source) head.text (answers.text ++ x) head.took (left_within a.limit s.source (answers.text ++ x) second) in
    let said : e ≡ end_refusal (pos (length head.text)) (pos head.size) (length head.text + length answers.text) =
    named ∙ end_is n a s t answers.text begins answers.state fresh answers.took.failed answers.took.count in
    let bad = end_bad r s.capabilities head.size head.text answers.text x (head_there s.capabilities head.size head.text head.head)
    (k.passes 0 n node_due answers.tree answers.content answers.text x node answers.read)
    (λ same short. no_end n a s t answers.text begins answers.state fresh answers.took.failed answers.took.count refused (omega (arith, same)) (omega (arith, same, short))) in
    inl (head.text ++ (answers.text ++ x), first, bad ∙ ap refuses (sym said))

-- where a message stands there, its end is reached
end_excuse : {A : Type 0} (n : ℕ) (reads : Meaning) (holds : A → Content → Type 0) (a : Window) (s t : State) (v : A) (text rest : List ℕ)
    → Begins n a s → Answers reads holds s t v → a.count ≡ 0 → (IsAtEnd t → IsTrue t.source.failed) → IsReadableMessage n reads text → left a ≡ Some (text ++ rest) → ⊥
end_excuse n reads holds a s t v text rest begins answers fresh refused readable known =
    let head = begins.took in
    let node = due_node n a s answers.tree answers.text begins answers.filled in
    let r = left_took a (with_limit a.limit s.source) head.text (text ++ rest) head.took known in
    let p = parts n readable.1.capabilities readable.1.tree text readable.1.message in
    let all : p.head ++ (p.body ++ rest) ≡ head.text ++ r.0 = sym (append_assoc p.head p.body rest) ∙ ap (λ l. l ++ rest) (sym p.whole) ∙ r.2 in
    let same = one_head _ _ _ _ p.head head.text (p.body ++ rest) r.0 p.start head.head all in
    let left' : p.body ++ rest ≡ r.0 = append_cancel_left head.text _ _ (ap (λ h. h ++ (p.body ++ rest)) (sym same.0) ∙ all) in
    let q = left_took s.source t.source answers.text r.0 answers.took r.1 in
    let body = one_value n p.body answers.text rest q.0 readable.1.tree node.tree p.value node.spelled (left' ∙ q.2) in
    let short : length (head.text ++ p.body) < 2 ^ 63 = subst (λ l. length l < 2 ^ 63) (p.whole ∙ ap (λ h. h ++ p.body) same.0) readable.1.message.short in
    let size : head.size ≡ length answers.text = sym same.2 ∙ ap length body.0 in
    no_end n a s t answers.text begins answers.state fresh answers.took.failed answers.took.count refused size
    (omega (arith, short, length-append head.text p.body, ap length body.0))

pub end_refused : {A : Type 0} (n : ℕ) (reads : Meaning) (asks : Option (Asking reads)) (holds : A → Content → Type 0) (needs : Needs) (e : Error) (a : Window) (t : State) (v : A)
    → a.count ≡ 0 → ReadsBody n reads holds a t v → (IsAtEnd t → IsTrue t.source.failed) → e ≡ not_at_end t → RefusesMessage n reads asks needs e a t.source
end_refused n reads asks holds needs e a t v fresh body refused named =
    let s = body.begun in
    let kind : IsRefusal e = rw (named ∙ end_is n a s t body.answers.text body.begins body.answers.state fresh body.answers.took.failed body.answers.took.count) (end_kind _ _ _) in
    record {
      through = body.answers.took.through ∙ body.begins.took.took.through;
      failures = body.answers.took.failures ∙ body.begins.took.took.failures ∙ sym (no_failure a.failures e kind);
      may = inl kind;
      names = end_named n needs asks holds e a s t v body.begins body.answers fresh refused named;
      excuse = λ text rest readable known. absurd (end_excuse n reads holds a s t v text rest body.begins body.answers fresh refused readable known);
    }
