-- What is opened or refused after a look at its tag, and where another tag stands.
use Rattle.std.proofs.Common.{◌≡◌, ℕ, zero, suc, ◌<◌, true, List, [], ◌∷◌, ◌++◌, drop, length, inl, inr, refl, sym, ap, subst, ◌∙◌, arith}
use Rattle.std.specs.Prelude.{Result, Ok, Err, IfOk, OnErr}
use Rattle.bser_format.specs.Grammar.{Format}
use Rattle.bser_format.specs.Expected.{Due, nothing_due, node_due, key_due, field_due, name_due, row_due, WantedItems, nodes, rows_over, WantedPairs, entries_of_object, fields_of_row}
use Rattle.bser_format.specs.declared.errors.Error.{Error}
use Rattle.bser_format.specs.declared.errors.Error.TheVariants.{DeCustom, OutOfMemory}
use Rattle.bser_format.specs.declared.errors.Message.TheVariants.{Fixed}
use Rattle.bser_format.specs.declared.errors.Complaint.TheVariants.{BorrowedFromCopying}
use Rattle.bser_source.specs.Window.{Window, Grown}
use Rattle.bser_source.proofs.Windows.{left_grown, hand_first}
use Rattle.bser_format.specs.Named as named
use Rattle.bser_format.specs.Named.{Reader, reads, refuses, eof}
use Rattle.bser_format.specs.DueReaders.{Seen, tag, asked, items_at, pairs_at, stray_at, wrong_type}
use Rattle.bser_format.proofs.Steps.{Passes}
use Rattle.bser_bunser.specs.Refusal.{Fails}
use Rattle.bser_deserializer.specs.Dues.{IsTagged, name_at, due_of}
use Rattle.bser_deserializer.specs.declared.due.Due as code
use Rattle.bser_deserializer.specs.declared.due.Due.TheVariants as due
use Rattle.bser_deserializer.specs.State.{State, with_source, refused}
use Rattle.bser_bunser.specs.Names.{Blame, RefusedAs}
use Rattle.bser_deserializer.specs.Reading.{RefusesFront, NamesBy, NamesDue, MayRefuse, OutsideBy, ExcusedBy, bare, owned, only_keys, refusing, Needs}
use Rattle.bser_deserializer.specs.Parts.{BeginsItems}
use Rattle.bser_deserializer.specs.Access.{OpenItems, OpenPairs, OpensItems, OpensPairs, IsItemsHead, IsArrayHead, IsPairsHead, RefusesItems, inside_items, inside_pairs}
use Rattle.bser_deserializer.proofs.Clean.{clean_items, clean_pairs}
use Rattle.bser_deserializer.proofs.Refusals.{excused_before, fails_before, names_bare, with_needs, narrower}
use Rattle.bser_deserializer.specs.View.{SeesTag, value_here}
use Rattle.bser_deserializer.proofs.Tags.{peeked_took, peeked_names, nothing_left, failed_names, tagged_value, key_tag_told, WantsValue, wants_value, value_refused, stray_refused}
use Rattle.bser_deserializer.proofs.Containers.{RefusesHead, RefusesPairsHead, unequal, value_or_field, counted_rest, items_pass, pairs_pass, items_front, pairs_front, pairs_refused}

-- ---- results

pub if_ok : {T E : Type 0} (P Q : T → Type 0) (r : Result T E) → ((v : T) → P v → Q v) → IfOk r P → IfOk r Q
if_ok P Q (Ok v) f h = f v h
if_ok P Q (Err e) f h = tt

pub if_err : {T E : Type 0} (P Q : Type 0) (r : Result T E) → (P → Q) → OnErr r P → OnErr r Q
if_err P Q (Ok v) f h = tt
if_err P Q (Err e) f h = f h

-- ---- after a look

-- what is refused after others came to be buffered
pub refused_grown : (needs : Needs) (W : Format) (N M : Type 0) (e : Error) (n : ℕ) (a b c : Window) → Grown n a b → (N → M) → RefusesFront needs W N e b c → RefusesFront needs W M e a c
refused_grown needs W N M e n a b c grown name u = record {
  fails = fails_before n e a b c grown u.fails;
  may = may u.may;
  names = name u.names;
  excuse = λ text rest wanted known. excused_before needs n (length text) a b e grown (u.excuse text rest wanted (left_grown n a b (text ++ rest) grown known));
}
  where
    may : MayRefuse needs e b → MayRefuse needs e a
    may (inl h) = inl h
    may (inr h) = inr (excused_before (refusing needs) n 0 a b e grown h)

-- a reader that reads what has a tag takes some bytes
some_read : {X : Type 0} (k : Seen → Reader X) (o : ℕ) (d : Due) (v : X) (text : List ℕ) → IsTagged d → Passes (asked k o d) v text → 0 < length text
some_read {X = X} k o d v [] is passes = absurd (both (asked k o d []) (passes []) (nothing_left k o d [] is refl))
  where
    both : (a : named.Answer X) → a ≡ reads v [] → a ≡ refuses eof → ⊥
    both a p q = absurd cc
some_read k o d v (x ∷ text) is passes = omega arith

inside_looked : (w : WantedItems) (s : State) (x y : Window) → inside_items w (with_source s x) y ≡ inside_items w s y
inside_looked (nodes k) s x y = refl
inside_looked (rows_over ks k) s x y = refl

inside_pairs_looked : (w : WantedPairs) (s : State) (x y : Window) → inside_pairs w (with_source s x) y ≡ inside_pairs w s y
inside_pairs_looked (entries_of_object k) s x y = refl
inside_pairs_looked (fields_of_row ks) s x y = refl

pub opened_items : (s m : State) (t : ℕ) (a : OpenItems) → SeesTag s m t → OpensItems m a → OpensItems s a
opened_items s m t a sees opens =
    let x = m.source in
    let o : OpensItems (with_source s x) a = subst (λ (z : State). OpensItems z a) sees.state opens in
    record {
      text = o.text;
      head = o.head;
      took = peeked_took s.source x a.state.source t o.text sees.peeks o.took (some_read (items_at s.levels) s.opened s.due a.wanted o.text (tagged_value s.due sees.due) (items_pass s.opened s.levels s.due a.wanted o.text o.head));
      state = o.state ∙ inside_looked a.wanted s x a.state.source;
      levels = o.levels;
      opened = o.opened;
    }

pub opened_pairs : (s m : State) (t : ℕ) (a : OpenPairs) → SeesTag s m t → OpensPairs m a → OpensPairs s a
opened_pairs s m t a sees opens =
    let x = m.source in
    let o : OpensPairs (with_source s x) a = subst (λ (z : State). OpensPairs z a) sees.state opens in
    record {
      text = o.text;
      head = o.head;
      took = peeked_took s.source x a.state.source t o.text sees.peeks o.took (some_read (pairs_at s.levels) s.opened s.due a.wanted o.text (tagged_value s.due sees.due) (pairs_pass s.opened s.levels s.due a.wanted o.text o.head));
      state = o.state ∙ inside_pairs_looked a.wanted s x a.state.source;
      pending = o.pending;
      levels = o.levels;
      opened = o.opened;
    }

-- what is refused after the look, where the front that is wanted is the same before it
looked : {X : Type 0} (needs : Needs) (k : ℕ → Seen → Reader X) (front : State → Format) (e : Error) (s m : State) (t : ℕ) (c : Window) → ((x : Window) (text : List ℕ) → front s text → front (with_source s x) text) → SeesTag s m t
    → RefusesFront needs (front m) (NamesDue needs (k m.levels) e m) e m.source c → RefusesFront needs (front s) (NamesDue needs (k s.levels) e s) e s.source c
looked needs k front e s m t c fit sees refusal =
    let r = asked (k s.levels) s.opened s.due in
    let x = m.source in
    let u = subst (λ (z : State). RefusesFront needs (front z) (NamesDue needs (k z.levels) e z) e z.source c) sees.state refusal in
    refused_grown needs (front s) (NamesBy needs r e x) (NamesBy needs r e s.source) e 1 s.source x c sees.peeks.filled.grown (peeked_names needs r r e s.source x t (λ f y h. h) sees.peeks)
    (narrower needs (front (with_source s x)) (front s) (NamesBy needs r e x) (NamesBy needs r e x) e x c (fit x) (λ n. n) u)

pub refused_items : (needs : Needs) (e : Error) (s m : State) (t : ℕ) (c : Window) → SeesTag s m t → RefusesHead needs e m c → RefusesHead needs e s c
refused_items needs e s m t c sees u = looked needs items_at IsItemsHead e s m t c (λ x text h. h) sees u

pub refused_pairs : (needs : Needs) (e : Error) (s m : State) (t : ℕ) (c : Window) → SeesTag s m t → RefusesPairsHead needs e m c → RefusesPairsHead needs e s c
refused_pairs needs e s m t c sees u = looked needs pairs_at IsPairsHead e s m t c (λ x text h. h) sees u

-- ---- arrays among them

-- what refuses without needs
pub bare_items : (e : Error) (s t : State) → RefusesHead bare e s t.source → RefusesItems e s t
bare_items e s t u =
    let r = asked (items_at s.levels) s.opened s.due in
    record {
      refuses = with_needs owned (IsItemsHead s) (NamesBy bare r e s.source) (NamesBy owned r e s.source) e s.source t.source (names_bare owned r e s.source) u;
      array = narrower only_keys (IsItemsHead s) (IsArrayHead s) (NamesBy only_keys r e s.source) (NamesBy only_keys r e s.source) e s.source t.source (λ text h. (nodes h.0, h.1)) (λ n. n)
          (with_needs only_keys (IsItemsHead s) (NamesBy bare r e s.source) (NamesBy only_keys r e s.source) e s.source t.source (names_bare only_keys r e s.source) u);
    }

-- memory is taken for a value or for the keys of a template
keys_or_value : (P : Blame) (e : Error) (s : Window) → OutsideBy (refusing owned) P e s → OutsideBy (refusing only_keys) P e s
keys_or_value P OutOfMemory s h = h
keys_or_value P (DeCustom (Fixed BorrowedFromCopying)) s h = h
keys_or_value P _ s h = h

excused_keys : (e : Error) (s : Window) → ExcusedBy (refusing owned) 0 e s → ExcusedBy (refusing only_keys) 0 e s
excused_keys OutOfMemory s h = h
excused_keys (DeCustom (Fixed BorrowedFromCopying)) s h = h
excused_keys _ s h = h

keys_names : {X : Type 0} (r : Reader X) (e : Error) (s : Window) → NamesBy owned r e s → NamesBy only_keys r e s
keys_names r e s (inl h) = inl h
keys_names r e s (inr h) = inr (keys_or_value (RefusedAs r) e s h)

keys_may : (e : Error) (s : Window) → MayRefuse owned e s → MayRefuse only_keys e s
keys_may e s (inl h) = inl h
keys_may e s (inr h) = inr (excused_keys e s h)

array_first : (n : ℕ) (d : Due) (k : ℕ) (text : List ℕ) → BeginsItems n d (nodes k) text → (rest : List ℕ) × (text ≡ 0x00 ∷ rest)
array_first n d k text h = let p = value_or_field n d (nodes k) text h in counted_rest 0x00 n k text p.1

-- where a template's tag stands no array does
pub template_items : (e : Error) (s m t : State) → SeesTag s m 0x0b → RefusesHead owned e m t.source → RefusesItems e s t
template_items e s m t sees refusal =
    let r = asked (items_at s.levels) s.opened s.due in
    let u = refused_items owned e s m 0x0b t.source sees refusal in
    record {
      refuses = u;
      array = record {
        fails = u.fails;
        may = keys_may e s.source u.may;
        names = keys_names r e s.source u.names;
        excuse = λ text rest wanted known.
            let first = array_first s.levels s.due wanted.0 text wanted.1 in
            let p = hand_first m.source (text ++ rest) (left_grown 1 s.source m.source (text ++ rest) sees.peeks.filled.grown known) in
            let whole : 0x0b ∷ (drop 1 m.source.buffered ++ p.0) ≡ 0x00 ∷ (first.0 ++ rest) = ap (λ l. l ++ p.0) (sym sees.peeks.next) ∙ p.1 ∙ ap (λ l. l ++ rest) first.1 in
            absurd cc;
      };
    }

-- ---- where neither stands

items_wants : (n : ℕ) (d : Due) → WantsValue (items_at n) d
items_wants n d = wants_value (items_at n) d (λ x. refl) (λ x. refl) (λ k x. refl) (λ ks x. refl)

-- no tag of a value
pub no_items_tag : (e : Error) (s t : State) → Fails e s.source t.source → NamesBy bare (value_here s.opened s.due) e s.source → RefusesItems e s t
no_items_tag e s t fails said =
    bare_items e s t (value_refused bare (items_at s.levels) (IsItemsHead s) e s t.source (items_wants s.levels s.due) (clean_items s.levels) (items_front s) fails said)

other_items : (n t : ℕ) (y : List ℕ) → (t ≡ 0x00 → ⊥) → (t ≡ 0x0b → ⊥) → items_at n (tag t) y ≡ refuses wrong_type
other_items n t y array template = rw (unequal t 0x00 array, unequal t 0x0b template) refl

other_pairs : (n t : ℕ) (y : List ℕ) → (t ≡ 0x01 → ⊥) → pairs_at n (tag t) y ≡ refuses wrong_type
other_pairs n t y object = rw (unequal t 0x01 object) refl

stray_same : (s m : State) (t : ℕ) → m ≡ with_source s m.source → stray_at m.due t ≡ stray_at s.due t
stray_same s m t same = ap (λ (z : State). stray_at z.due t) same

-- a tag of another kind
pub other_items_tag : (e : Error) (s m t : State) (b : ℕ) → SeesTag s m b → (b ≡ 0x00 → ⊥) → (b ≡ 0x0b → ⊥) → e ≡ stray_at m.due b → t ≡ refused m → RefusesItems e s t
other_items_tag e s m t b sees array template reason state =
    bare_items e s t (subst (λ f. RefusesHead bare f s t.source) (sym (reason ∙ stray_same s m b sees.state))
    (stray_refused bare (items_at s.levels) (IsItemsHead s) b s m.source t.source (tagged_value s.due sees.due) (clean_items s.levels) (λ y. other_items s.levels b y array template) (items_front s) sees.peeks (ap (λ z. z.source) state)))

pub other_pairs_tag : (e : Error) (s m t : State) (b : ℕ) → SeesTag s m b → (b ≡ 0x01 → ⊥) → e ≡ stray_at m.due b → t ≡ refused m → RefusesPairsHead bare e s t.source
other_pairs_tag e s m t b sees object reason state =
    subst (λ f. RefusesPairsHead bare f s t.source) (sym (reason ∙ stray_same s m b sees.state))
    (stray_refused bare (pairs_at s.levels) (IsPairsHead s) b s m.source t.source (tagged_value s.due sees.due) (clean_pairs s.levels) (λ y. other_pairs s.levels b y object) (pairs_front s) sees.peeks (ap (λ z. z.source) state))

name_no_row : (place : ℕ) (ks ls : List (List ℕ)) → name_at place ks ≡ row_due ls → ⊥
name_no_row place [] ls e = absurd cc
name_no_row zero (k ∷ ks) ls e = absurd cc
name_no_row (suc place) (k ∷ ks) ls e = name_no_row place ks ls e

no_row : (ks : List (List ℕ)) (place : ℕ) (d : code.Due) (ls : List (List ℕ)) → (d ≡ due.Row → ⊥) → due_of ks place d ≡ row_due ls → ⊥
no_row ks place due.Nothing ls other e = absurd cc
no_row ks place due.Node ls other e = absurd cc
no_row ks place due.Key ls other e = absurd cc
no_row ks place due.Field ls other e = absurd cc
no_row ks place due.Name ls other e = name_no_row place ks ls e
no_row ks place due.Row ls other e = other refl

pairs_wants : (n : ℕ) (d : Due) → ((ls : List (List ℕ)) → d ≡ row_due ls → ⊥) → WantsValue (pairs_at n) d
pairs_wants n nothing_due other = tt
pairs_wants n node_due other = tt
pairs_wants n key_due other = λ t x is. elim (key_tag_told t is) [ inl e ↦ rw e refl | inr e ↦ rw e refl ]
pairs_wants n field_due other = tt
pairs_wants n (name_due k) other = λ x. refl
pairs_wants n (row_due ks) other = absurd (other ks refl)

-- no tag of a value, where no row is due
pub no_pairs_tag : (ks : List (List ℕ)) (place : ℕ) (d : code.Due) (e : Error) (s t : State) → s.due ≡ due_of ks place d → (d ≡ due.Row → ⊥) → Fails e s.source t.source → NamesBy bare (value_here s.opened s.due) e s.source → RefusesPairsHead bare e s t.source
no_pairs_tag ks place d e s t same other fails said =
    value_refused bare (pairs_at s.levels) (IsPairsHead s) e s t.source (pairs_wants s.levels s.due (λ ls h. no_row ks place d ls other (sym same ∙ h))) (clean_pairs s.levels) (pairs_front s) fails said

-- an earlier call was refused
pub failed_pairs : (e : Error) (s t : State) → s.source.failed ≡ true → Fails e s.source t.source → RefusesPairsHead bare e s t.source
failed_pairs e s t failed fails =
    pairs_refused bare e s t.source refl (fails, failed_names bare (asked (pairs_at s.levels) s.opened s.due) e s.source t.source failed fails)
