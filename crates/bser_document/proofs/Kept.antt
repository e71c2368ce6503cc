-- What is kept as more is told.
use Rattle.std.proofs.Common.{◌≡◌, ◌≤◌, ◌+◌, ℕ, List, [], ◌∷◌, ◌++◌, length, map, take, drop, get_or, set, zero, suc, ◌<◌, ◌-◌, ◌^◌, Some, None, refl, sym, ap, subst, ◌∙◌, arith}
use Rattle.std.proofs.lemmas.List.{append_assoc, append-nil, map_push, length-append, length-drop, drop-append-le, take-append-le, drop_at, take_all, length-map, get_or-map, get_or_append_left}
use Rattle.std.specs.Prelude.{Result, Ok, Err, OnOk, IsUtf8}
use Rattle.std.specs.List.{AllByRecursion}
use Rattle.bser_events.proofs.Outcomes.{both_ok}
use Rattle.bser_events.specs.Events as told
use Rattle.bser_events.specs.Events.{Event, TakesAll, none as no_more, more}
use Rattle.bser_document.proofs.Links.{marks_linked}
use Rattle.bser_document.specs.declared.document.DocumentNode.{DocumentNode}
use Rattle.bser_document.specs.declared.document.DocumentNode.TheVariants.{Null, Bool, Int, Real, Bytes, Text, Key, Array, Object, Template, Rows, Skip, Close}
use Rattle.bser_document.specs.declared.document.Document.{Document}
use Rattle.bser_document.specs.declared.builder.DocumentBuilder.{DocumentBuilder}
use Rattle.bser_document.specs.DocumentView.{piece, event_of, IsInside, IsText, Within, string_len, string_lens, Shows, Views, ViewsDocument, Takes, SameEvents, end_of, Marks, with_end, change, closed, noted, innermost, begun, mark, marks, unmarked, Marked, Linked, ClosesNodes, Closes}

both_same : {X Y Z : Type 0} (f : X → Y → Z) {a b : X} {c d : Y} → a ≡ b → c ≡ d → f a c ≡ f b d
both_same f {a} {b} {c} {d} p q = ap (λ x. f x c) p ∙ ap (f b) q

-- ---- lists of events

pub lens_snoc : (es : List Event) (e : Event) → string_lens (es ++ e ∷ []) ≡ string_lens es + string_len e
lens_snoc [] e = omega arith
lens_snoc (x ∷ es) e = omega (arith, lens_snoc es e)

-- ---- nodes over more strings

piece_more : (s x : List ℕ) (len at : ℕ) → at + len ≤ length s → piece (s ++ x) len at ≡ piece s len at
piece_more s x len at h =
    let a : at ≤ length s = omega (arith, h) in
    let b : len ≤ length (drop at s) = omega (arith, h, length-drop at s) in
    ap (take len) (drop-append-le at s x a) ∙ take-append-le len (drop at s) x b

event_more : (s x : List ℕ) (n : DocumentNode) → Within s n → event_of (s ++ x) n ≡ event_of s n
event_more s x Null h = refl
event_more s x (Bool v) h = refl
event_more s x (Int v) h = refl
event_more s x (Real v) h = refl
event_more s x (Bytes len at) h = ap told.bytes (piece_more s x len at h)
event_more s x (Text len at) h = ap told.text (piece_more s x len at h.0)
event_more s x (Key len at) h = ap told.key (piece_more s x len at h.0)
event_more s x (Array len end) h = refl
event_more s x (Object len end) h = refl
event_more s x (Template len end) h = refl
event_more s x (Rows len) h = refl
event_more s x Skip h = refl
event_more s x Close h = refl

events_more : (s x : List ℕ) (ns : List DocumentNode) → AllByRecursion (Within s) ns → map (event_of (s ++ x)) ns ≡ map (event_of s) ns
events_more s x [] h = refl
events_more s x (n ∷ ns) h = both_same (λ e es. e ∷ es) (event_more s x n h.0) (events_more s x ns h.1)

inside_more : (s x : List ℕ) (len at : ℕ) → IsInside s len at → IsInside (s ++ x) len at
inside_more s x len at h = omega (arith, h, length-append s x)

text_more : (s x : List ℕ) (len at : ℕ) → IsText s len at → IsText (s ++ x) len at
text_more s x len at h = (inside_more s x len at h.0, subst IsUtf8 (sym (piece_more s x len at h.0)) h.1)

within_more : (s x : List ℕ) (n : DocumentNode) → Within s n → Within (s ++ x) n
within_more s x Null h = tt
within_more s x (Bool v) h = tt
within_more s x (Int v) h = tt
within_more s x (Real v) h = tt
within_more s x (Bytes len at) h = inside_more s x len at h
within_more s x (Text len at) h = text_more s x len at h
within_more s x (Key len at) h = text_more s x len at h
within_more s x (Array len end) h = tt
within_more s x (Object len end) h = tt
within_more s x (Template len end) h = tt
within_more s x (Rows len) h = tt
within_more s x Skip h = tt
within_more s x Close h = tt

all_within_more : (s x : List ℕ) (ns : List DocumentNode) → AllByRecursion (Within s) ns → AllByRecursion (Within (s ++ x)) ns
all_within_more s x [] h = tt
all_within_more s x (n ∷ ns) h = (within_more s x n h.0, all_within_more s x ns h.1)

all_snoc : (s : List ℕ) (ns : List DocumentNode) (n : DocumentNode) → AllByRecursion (Within s) ns → Within s n → AllByRecursion (Within s) (ns ++ n ∷ [])
all_snoc s [] n h w = (w, tt)
all_snoc s (y ∷ ns) n h w = (h.0, all_snoc s ns n h.1 w)

-- the string that was put last
pub last_piece : (s x : List ℕ) → piece (s ++ x) (length x) (length s) ≡ x
last_piece s x = ap (take (length x)) (drop_at s x (length s) refl) ∙ take_all (length x) x (omega arith)

-- ---- steps

abbrev TakesShown : DocumentBuilder → Event → DocumentBuilder → Type 0
TakesShown old e new = (es : List Event) → Shows old.nodes.items old.strings.items es → Shows new.nodes.items new.strings.items (es ++ e ∷ [])

abbrev TakesMarked : DocumentBuilder → Event → DocumentBuilder → Type 0
TakesMarked old e new = (es : List Event) → Marked old.nodes.items old.innermost es → Marked new.nodes.items new.innermost (es ++ e ∷ [])

both_taken : (old new : DocumentBuilder) (e f : Event) → e ≡ f → TakesShown old f new → TakesMarked old f new → Takes old e new
both_taken old new e f is shown marked es views =
    subst (λ x. Views new (es ++ x ∷ [])) (sym is) (record { shows = shown es views.shows; marked = marked es views.marked })

marks_snoc : (es : List Event) (e : Event) (m : Marks) → marks (es ++ e ∷ []) m ≡ mark e (marks es m)
marks_snoc [] e m = refl
marks_snoc (x ∷ es) e m = marks_snoc es e (mark x m)

-- a node that is no container
noted_taken : (old new : DocumentBuilder) (n : DocumentNode) (e : Event) → new.nodes.items ≡ old.nodes.items ++ n ∷ [] → new.innermost ≡ old.innermost → end_of n ≡ None → ((m : Marks) → mark e m ≡ noted m) → TakesMarked old e new
noted_taken old new n e nodes same none makes es h =
    let made = marks_snoc es e unmarked ∙ makes (marks es unmarked) in
    record {
      ends = ap (map end_of) nodes ∙ map_push end_of old.nodes.items n ∙ both_same (λ l x. l ++ x ∷ []) h.ends none ∙ sym (ap (λ m. m.ends) made);
      here = same ∙ h.here ∙ sym (ap (λ m. innermost m.around) made);
    }

-- a container's node
begun_taken : (old new : DocumentBuilder) (n : DocumentNode) (e : Event) → new.nodes.items ≡ old.nodes.items ++ n ∷ [] → new.innermost ≡ length old.nodes.items
    → end_of n ≡ Some old.innermost → ((m : Marks) → mark e m ≡ begun m) → TakesMarked old e new
begun_taken old new n e nodes opened some makes es h =
    let made = marks_snoc es e unmarked ∙ makes (marks es unmarked) in
    let long : length old.nodes.items ≡ length (marks es unmarked).ends = sym (length-map old.nodes.items end_of) ∙ ap length h.ends in
    record {
      ends = ap (map end_of) nodes ∙ map_push end_of old.nodes.items n ∙ both_same (λ l x. l ++ x ∷ []) h.ends (some ∙ ap Some h.here) ∙ sym (ap (λ m. m.ends) made);
      here = opened ∙ long ∙ sym (ap (λ m. innermost m.around) made);
    }

closed_taken : (old new : DocumentBuilder) → Closes old new → TakesMarked old told.close new
closed_taken old new c es h =
    let made = marks_snoc es told.close unmarked in
    let around : List ℕ = (marks es unmarked).around in
    let long : length (marks es unmarked).ends ≡ length old.nodes.items = sym (ap length h.ends) ∙ length-map old.nodes.items end_of in
    let k = c around h.here (subst (λ n. Linked n (map end_of old.nodes.items) around) long
    (subst (λ l. Linked (length (marks es unmarked).ends) l around) (sym h.ends) (marks_linked es unmarked tt))) in
    record {
      ends = k.ends ∙ ap (λ l. (closed l around).ends) h.ends ∙ sym (ap (λ m. m.ends) made);
      here = k.here ∙ ap (λ l. innermost (closed l around).around) h.ends ∙ sym (ap (λ m. innermost m.around) made);
    }

-- a node was put behind the others, over more strings
put_takes : (old new : DocumentBuilder) (n : DocumentNode) (x : List ℕ) (e : Event)
    → new.nodes.items ≡ old.nodes.items ++ n ∷ [] → new.strings.items ≡ old.strings.items ++ x
    → event_of (old.strings.items ++ x) n ≡ e → Within (old.strings.items ++ x) n → string_len e ≡ length x → TakesShown old e new
put_takes old new n x e nodes strings tells within len es views =
    let s : List ℕ = old.strings.items in
    let t : List ℕ = s ++ x in
    let ns : List DocumentNode = old.nodes.items in
    subst (λ l. Shows l new.strings.items (es ++ e ∷ [])) (sym nodes) (subst (λ l. Shows (ns ++ n ∷ []) l (es ++ e ∷ [])) (sym strings) (record {
      same = map_push (event_of t) ns n ∙ both_same (λ l y. l ++ y ∷ []) (events_more s x ns views.within ∙ views.same) tells;
      within = all_snoc t ns n (all_within_more s x ns views.within) within;
      total = omega (arith, length-append s x, views.total, lens_snoc es e, len);
    }))

-- the same, over the same strings
put_plain : (old new : DocumentBuilder) (n : DocumentNode) (e : Event)
    → new.nodes.items ≡ old.nodes.items ++ n ∷ [] → new.strings ≡ old.strings
    → event_of old.strings.items n ≡ e → Within old.strings.items n → string_len e ≡ 0 → TakesShown old e new
put_plain old new n e nodes strings tells within len =
    let same : old.strings.items ++ [] ≡ old.strings.items = append-nil old.strings.items in
    put_takes old new n [] e nodes (ap (λ v. v.items) strings ∙ sym same)
    (ap (λ s. event_of s n) same ∙ tells) (subst (λ s. Within s n) (sym same) within) len

-- a container was closed
close_shown : (old new : DocumentBuilder) → SameEvents (old.nodes.items ++ Close ∷ []) new.nodes.items → new.strings ≡ old.strings → TakesShown old told.close new
close_shown old new h strings es views =
    let s : List ℕ = old.strings.items in
    subst (λ v. Shows new.nodes.items v.items (es ++ told.close ∷ [])) (sym strings) (record {
      same = h.same s ∙ map_push (event_of s) old.nodes.items Close ∙ ap (λ l. l ++ told.close ∷ []) views.same;
      within = h.within s (all_snoc s old.nodes.items Close views.within tt);
      total = omega (arith, views.total, lens_snoc es told.close);
    })

close_takes : (old new : DocumentBuilder) (e : Event) → e ≡ told.close → SameEvents (old.nodes.items ++ Close ∷ []) new.nodes.items → new.strings ≡ old.strings → Closes old new → Takes old e new
close_takes old new e is same strings closes = both_taken old new e told.close is (close_shown old new same strings) (closed_taken old new closes)

-- one event after the other
pub all_taken : (old : DocumentBuilder) (es : List Event) (new : DocumentBuilder) → TakesAll Takes old es new → (begun : List Event) → Views old begun → Views new (begun ++ es)
all_taken old [] new (no_more b) begun views = subst (Views b) (sym (append-nil begun)) views
all_taken old (x ∷ es) new (more a b c y ys first rest) begun views =
    subst (Views c) (append_assoc begun (y ∷ []) ys) (all_taken b ys c rest (begun ++ y ∷ []) (first begun views))

-- ---- a container's end

-- a node at its place is changed for one that tells the same
pub same_set : (xs : List DocumentNode) (i : ℕ) (y : DocumentNode) → ((d : DocumentNode) → SameEvents (get_or xs i d ∷ []) (y ∷ [])) → SameEvents xs (set xs i y)
same_set [] i y h = record { same = λ s. refl; within = λ n w. w }
same_set (x ∷ xs) zero y h = record {
  same = λ s. ap (λ l. l ++ map (event_of s) xs) ((h x).same s);
  within = λ n w. (((h x).within n (w.0, tt)).0, w.1);
}
same_set (x ∷ xs) (suc i) y h =
    let r = same_set xs i y h in record {
      same = λ s. ap (λ l. event_of s x ∷ l) (r.same s);
      within = λ n w. (w.0, r.within n w.1);
    }

-- ---- answers

pair_ok : {X E : Type 0} (P Q : Type 0) (r : Result X E) → OnOk r P → OnOk r Q → OnOk r (P × Q)
pair_ok P Q (Ok x) p q = (p, q)
pair_ok P Q (Err e) p q = tt

-- a node without a string was put, where that is the event
pub plain_ok : {X E : Type 0} (old new : DocumentBuilder) (n : DocumentNode) (e f : Event) (r : Result X E) → e ≡ f
    → OnOk r (new.nodes.items ≡ old.nodes.items ++ n ∷ []) → OnOk r (new.strings ≡ old.strings) → OnOk r (new.innermost ≡ old.innermost)
    → event_of old.strings.items n ≡ f → Within old.strings.items n → string_len f ≡ 0 → end_of n ≡ None → ((m : Marks) → mark f m ≡ noted m) → OnOk r (Takes old e new)
plain_ok old new n e f r is nodes strings begun' tells within len none makes =
    both_ok _ _ _ r nodes (pair_ok _ _ r strings begun') λ a b. both_taken old new e f is (put_plain old new n f a b.0 tells within len) (noted_taken old new n f a b.1 none makes)

-- a container's node was put
pub begun_ok : {X E : Type 0} (old new : DocumentBuilder) (n : DocumentNode) (e f : Event) (r : Result X E) → e ≡ f
    → OnOk r (new.nodes.items ≡ old.nodes.items ++ n ∷ []) → OnOk r (new.strings ≡ old.strings) → OnOk r (new.innermost ≡ length old.nodes.items)
    → event_of old.strings.items n ≡ f → Within old.strings.items n → string_len f ≡ 0 → end_of n ≡ Some old.innermost → ((m : Marks) → mark f m ≡ begun m) → OnOk r (Takes old e new)
begun_ok old new n e f r is nodes strings opened tells within len some makes =
    both_ok _ _ _ r nodes (pair_ok _ _ r strings opened) λ a b. both_taken old new e f is (put_plain old new n f a b.0 tells within len) (begun_taken old new n f a b.1 some makes)

-- a string was kept, and then its node was put
pub string_ok : {X E : Type 0} (old mid new : DocumentBuilder) (node : ℕ → ℕ → DocumentNode) (tell : List ℕ → Event) (x : List ℕ) (len at : ℕ) (e : Event) (r : Result X E) → e ≡ tell x
    → at ≡ length old.strings.items → len ≡ length x → mid.strings.items ≡ old.strings.items ++ x → mid.nodes ≡ old.nodes → mid.innermost ≡ old.innermost
    → OnOk r (new.nodes.items ≡ mid.nodes.items ++ node len at ∷ []) → OnOk r (new.strings ≡ mid.strings) → OnOk r (new.innermost ≡ mid.innermost)
    → ((s : List ℕ) (l a : ℕ) → event_of s (node l a) ≡ tell (piece s l a)) → ((s : List ℕ) (l a : ℕ) → IsInside s l a → piece s l a ≡ x → Within s (node l a)) → string_len (tell x) ≡ length x
    → ((l a : ℕ) → end_of (node l a) ≡ None) → ((m : Marks) → mark (tell x) m ≡ noted m) → OnOk r (Takes old e new)
string_ok old mid new node tell x len at e r is place long strings nodes begun' nodes' strings' begun'' tells within count none makes =
    let s : List ℕ = old.strings.items in
    let n : DocumentNode = node (length x) (length s) in
    let same : node len at ≡ n = both_same node long place in
    both_ok _ _ _ r nodes' (pair_ok _ _ r strings' begun'') λ a b.
    let put : new.nodes.items ≡ old.nodes.items ++ n ∷ [] = a ∙ both_same (λ v n. v.items ++ n ∷ []) nodes same in
    both_taken old new e (tell x) is
    (put_takes old new n x (tell x) put (ap (λ v. v.items) b.0 ∙ strings)
    (tells (s ++ x) (length x) (length s) ∙ ap tell (last_piece s x))
    (within (s ++ x) (length x) (length s) (omega (arith, length-append s x)) (last_piece s x)) count)
    (noted_taken old new n (tell x) put (b.1 ∙ begun') (none (length x) (length s)) makes)

-- ---- ends

change_set : (ns : List DocumentNode) (at n : ℕ) (m : DocumentNode) → ((d : DocumentNode) → end_of m ≡ with_end n (end_of (get_or ns at d))) → map end_of (set ns at m) ≡ change (map end_of ns) at n
change_set [] at n m h = refl
change_set (x ∷ ns) zero n m h = ap (λ e. e ∷ map end_of ns) (h x)
change_set (x ∷ ns) (suc at) n m h = ap (λ l. end_of x ∷ l) (change_set ns at n m h)

-- the ends of the nodes with one that closes
with_close : (ns : List DocumentNode) (at : ℕ) → change (map end_of (ns ++ Close ∷ [])) at (length ns + 1) ≡ change (map end_of ns ++ None ∷ []) at (length (map end_of ns) + 1)
with_close ns at = both_same (λ l n. change l at (n + 1)) (map_push end_of ns Close) (sym (length-map ns end_of))

pub close_at : (ns ms : List DocumentNode) (at outer n : ℕ) (m : DocumentNode) → ms ≡ ns ++ Close ∷ [] → n ≡ length ms → at < 2 ^ 64 - 1
    → ((d : DocumentNode) → end_of m ≡ with_end n (end_of (get_or ms at d))) → ((d : DocumentNode) (k : ℕ) → end_of (get_or ms at d) ≡ Some k → outer ≡ k) → ClosesNodes ns (set ms at m) at outer
close_at ns ms at outer n m pushed last below h gives [] is linked = absurd (omega (arith, below, is))
close_at ns ms at outer n m pushed last below h gives (x ∷ around) is linked =
    let long : n ≡ length ns + 1 = last ∙ ap length pushed ∙ length-append ns (Close ∷ []) in
    let inside : at < length ns = omega (arith, is, linked.0) in
    let there : end_of (get_or ms at Close) ≡ Some (innermost around) =
    ap (λ l. end_of (get_or l at Close)) pushed ∙ ap end_of (get_or_append_left ns (Close ∷ []) Close at inside) ∙ sym (get_or-map end_of ns at Close None inside)
    ∙ ap (λ k. get_or (map end_of ns) k None) is ∙ linked.1 in
    record {
      ends = change_set ms at n m h ∙ both_same (λ l k. change (map end_of l) at k) pushed long ∙ with_close ns at ∙ ap (λ k. change (map end_of ns ++ None ∷ []) k (length (map end_of ns) + 1)) is;
      here = gives Close (innermost around) there;
    }

pub close_past : (ns ms : List DocumentNode) (at : ℕ) → ms ≡ ns ++ Close ∷ [] → length ms ≤ at → ClosesNodes ns ms at at
close_past ns ms at pushed past [] is linked = record { ends = ap (map end_of) pushed ∙ map_push end_of ns Close; here = is }
close_past ns ms at pushed past (x ∷ around) is linked = absurd (omega (arith, past, is, linked.0, ap length pushed, length-append ns (Close ∷ [])))

-- the answer of a close
pub close_ok : {X E : Type 0} (old new : DocumentBuilder) (e : Event) (r : Result X E) → e ≡ told.close
    → OnOk r (SameEvents (old.nodes.items ++ Close ∷ []) new.nodes.items) → OnOk r (new.strings ≡ old.strings) → OnOk r (Closes old new) → OnOk r (Takes old e new)
close_ok old new e r is nodes strings ends =
    both_ok _ _ _ r nodes (pair_ok _ _ r strings ends) λ a b. close_takes old new e is a b.0 b.1

-- a document of the same nodes and strings
pub as_document : (b : DocumentBuilder) (d : Document) (es : List Event) → d.nodes ≡ b.nodes → d.strings ≡ b.strings → Views b es → ViewsDocument d es
as_document b d es nodes strings views = record {
  shows = subst (λ v. Shows v.items d.strings.items es) (sym nodes) (subst (λ v. Shows b.nodes.items v.items es) (sym strings) views.shows);
  ends = ap (λ v. map end_of v.items) nodes ∙ views.marked.ends;
}
