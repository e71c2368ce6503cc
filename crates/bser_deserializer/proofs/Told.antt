-- Whatever is due is read and told: values, fields and keys.
use Rattle.std.proofs.Common.{◌≡◌, ◌⊎◌, inl, inr, ℕ, zero, suc, ◌-◌, ◌≤◌, ◌<◌, ◌^◌, min, map, Bool, true, false, cond, List, [], ◌∷◌, ◌++◌, length, get_or, Option, Some, None, refl, sym, ap, subst, ◌∙◌, append-nil, length-append, arith, IsUtf8}
use Rattle.std.specs.Str.{is_utf8}
use Rattle.std.proofs.lemmas.Bool.{ne_eqb}
use Rattle.std.proofs.lemmas.List.{get_or-map}
use Rattle.std.proofs.lemmas.Str.{is_utf8-from_IsUtf8, IsUtf8-from_is_utf8}
use Rattle.bser_format.specs.Tree as trees
use Rattle.bser_format.specs.Tree.{Tree}
use Rattle.bser_format.specs.Grammar.{Format, Bytes, ◌then◌, Spells, SpellsField}
use Rattle.bser_format.specs.Content.{Content, byte_list}
use Rattle.bser_format.specs.Expand.{expand, key_tree}
use Rattle.bser_format.specs.Expected.{Due, nothing_due, node_due, key_due, field_due, name_due, row_due, Fills}
use Rattle.bser_format.specs.ReadsAny.{reads_ignored}
use Rattle.bser_format.specs.ReadsScalars.{reads_slice}
use Rattle.bser_format.proofs.KeyNames.{slice_key}
use Rattle.bser_format.specs.declared.errors.Error.{Error}
use Rattle.bser_format.specs.declared.errors.Error.TheVariants.{DeInvalidStartByte}
use Rattle.bser_format.specs.declared.errors.Kind.TheVariants.{MapKey}
use Rattle.bser_format.specs.Named.{Reader, reads, refuses, give, refuse, and_then, string_after, field_of, with_text_keys}
use Rattle.bser_format.specs.NamedLaws.{HasTextKeys}
use Rattle.bser_format.specs.DueReaders.{tag, is_key_tag, bytes_at, wrong_type}
use Rattle.bser_format.specs.Asks.{done, asks_bytes, asks_any}
use Rattle.bser_format.proofs.Anything.{ignored_passes}
use Rattle.bser_format.proofs.TextLaws.{reads_text_keys}
use Rattle.bser_source.specs.Window.{Window, AreOctets, Filled, Took, consumed}
use Rattle.bser_source.proofs.Windows.{took_grown}
use Rattle.bser_bunser.specs.Refusal.{Fails}
use Rattle.bser_events.specs.Events as events
use Rattle.bser_events.specs.Events.{Event, TakesAll, none, more}
use Rattle.bser_events.specs.Found as found
use Rattle.bser_events.specs.Places.{Placed, PlacedAs, SpellsEvent, AnyBytes, place_at, counted, reading_at, mark_of}
use Rattle.bser_events.specs.declared.event.Place.{Place}
use Rattle.bser_events.proofs.Midways.{took_none}
use Rattle.bser_events.proofs.Placings.{stands_by, with_any_bytes}
use Rattle.bser_deserializer.specs.Calls.{spells_due}
use Rattle.std.specs.Prelude.{Result, Ok, Err, OnErr}
use Rattle.bser_events.proofs.Takings.{takes_one, takes_anywhere}
use Rattle.bser_deserializer.specs.declared.due.Due as code
use Rattle.bser_deserializer.specs.declared.due.Due.TheVariants as due
use Rattle.bser_deserializer.specs.Dues.{due_of, name_at}
use Rattle.bser_deserializer.specs.State.{State, past}
use Rattle.bser_deserializer.specs.Reading.{Answers, NamesBy, FillsReadably, Refuses, owned, bare}
use Rattle.bser_deserializer.specs.Askings.{asking_bytes, asking_ignored}
use Rattle.bser_deserializer.proofs.Clean.{clean_any}
use Rattle.bser_deserializer.proofs.Refusals.{by_name, names_bare, names_by_more}
use Rattle.bser_deserializer.specs.Any.{TookAny, TookValue, TookField, TellsName, told_field, IsKeyDue}
use Rattle.bser_deserializer.proofs.Strings.{key_tags, other_after, took_first, peeks_first}
use Rattle.bser_deserializer.proofs.Tags.{peeked_names}
use Rattle.bser_deserializer.proofs.WholeRows.{spelled_whole, field_whole}

-- ---- refusals

-- what r refuses of what is due, each type refuses that reads whatever stands there
pub any_refused : {X : Type 0} (r : Reader X) (e : Error) (s z : State) → ((f : Error) (x : List ℕ) → r x ≡ refuses f → asks_any s.opened s.levels s.due x ≡ refuses f)
    → Fails e s.source z.source → NamesBy owned r e s.source → Refuses reads_ignored (Some asking_ignored) owned e s z
any_refused r e s z same fails said =
    by_name owned (FillsReadably reads_ignored s) (asks_any s.opened s.levels s.due) e s.source z.source
    (λ text f. (tt, λ x. ignored_passes s.opened s.levels s.due f.tree f.content text x f.filled f.read))
    (λ x h. clean_any s.opened s.levels s.due x e h) refl fails
    (names_by_more owned (asks_any s.opened s.levels s.due) r e s.source same said)

-- ---- values

-- what is read with keys in UTF-8, whatever follows, is spelled
spelled_front : (n : ℕ) (t : Tree) (text : List ℕ) → AreOctets text → ((x : List ℕ) → with_text_keys n (text ++ x) ≡ reads t x) → Spells n t text × HasTextKeys t
spelled_front n t text octets passes =
    let h = (reads_text_keys n text [] t octets).0 (ap (with_text_keys n) (sym (append-nil text)) ∙ passes []) in
    (subst (Spells n t) (sym (h.1 ∙ append-nil h.0)) h.2, h.3)

pub value_told : {B : Type 0} (takes : B → Event → B → Type 0) (n : ℕ) (a b : Window) (before after : B)
    → found.Found takes (with_text_keys n) events.events a b before after → TookValue takes n before after a b
value_told takes n a b before after f =
    let h = spelled_front n f.value f.text f.took.octets f.passes in
    record { tree = f.value; text = f.text; spelled = h.0; keys = h.1; took = f.took; told = f.told }

then_some : (t : ℕ) (G : Format) (b : List ℕ) → (Bytes (t ∷ []) then G) b → 1 ≤ length b
then_some t G b h = omega (arith, ap length h.whole, ap length h.first, length-append h.front h.rest)

pub spelled_some : (n : ℕ) (t : Tree) (b : List ℕ) → Spells n t b → 1 ≤ length b
spelled_some n trees.null b h = omega (arith, ap length h)
spelled_some n (trees.boolean v) b h = omega (arith, ap length h)
spelled_some n (trees.integer v) b h = omega (arith, ap length h.spelled)
spelled_some n (trees.real r) b h = omega (arith, ap length h.1)
spelled_some n (trees.bytes s) b h = then_some 0x02 _ b h
spelled_some n (trees.text s) b h = then_some 0x0d _ b h
spelled_some zero (trees.array ts) b h = absurd h
spelled_some (suc n) (trees.array ts) b h = then_some 0x00 _ b h
spelled_some zero (trees.object es) b h = absurd h
spelled_some (suc n) (trees.object es) b h = then_some 0x01 _ b h
spelled_some zero (trees.template ks rs) b h = absurd h
spelled_some (suc zero) (trees.template ks rs) b h = absurd h
spelled_some (suc (suc n)) (trees.template ks rs) b h = then_some 0x0b _ b h.1

-- ---- fields

-- they begin with an event that has bytes
abbrev StartsValue : List Event → Type 0
StartsValue [] = ⊥
StartsValue (e ∷ es) = (text : List ℕ) → SpellsEvent e text → 1 ≤ length text

value_starts : (t : Tree) → StartsValue (events.events t)
value_starts trees.null = λ text h. omega (arith, ap length h)
value_starts (trees.boolean v) = λ text h. omega (arith, ap length h)
value_starts (trees.integer v) = λ text h. omega (arith, ap length h.spelled)
value_starts (trees.real r) = λ text h. omega (arith, ap length h.1)
value_starts (trees.bytes s) = λ text h. then_some 0x02 _ text h
value_starts (trees.text s) = λ text h. then_some 0x0d _ text h
value_starts (trees.array ts) = λ text h. omega (arith, ap length h.whole)
value_starts (trees.object es) = λ text h. omega (arith, ap length h.whole)
value_starts (trees.template ks rs) = λ text h. omega (arith, ap length h.whole)

-- what was told from where a byte was buffered was told from before that
told_before : {B : Type 0} (takes : B → Event → Place → B → Type 0) (a : Window) (b c : Window × B) (es : List Event) → Filled 1 a b.0 → StartsValue es
    → TakesAll (Placed takes) b es c → TakesAll (PlacedAs AnyBytes takes) (a, b.1) es c
told_before takes a b c es filled starts (none m) = absurd starts
told_before takes a b c es filled starts (more m n o e rest first after) =
    more (a, m.1) n o e rest
    (record {
      text = first.text;
      took = took_grown a m.0 n.0 1 first.text filled.grown (starts first.text first.spelled) first.took;
      spelled = tt;
      told = subst (λ k. takes m.1 e (place_at (counted k) (reading_at n.0) (mark_of e first.text)) n.1) filled.grown.count first.told;
    })
    (with_any_bytes takes n o rest after)

-- a value that begins with another byte than a skip's, which was buffered
pub field_from : {B : Type 0} (takes : B → Event → Place → B → Type 0) (n : ℕ) (a b c : Window) (x y : B)
    → Filled 1 a b → TookValue (Placed takes) n (b, x) (c, y) b c → TookField (PlacedAs AnyBytes takes) n (a, x) (c, y) a c
field_from takes n a b c x y filled v = record {
  field = Some v.tree;
  text = v.text;
  spelled = v.spelled;
  keys = v.keys;
  took = took_grown a b c 1 v.text filled.grown (spelled_some n v.tree v.text v.spelled) v.took;
  told = told_before takes a (b, x) (c, y) (events.events v.tree) filled (value_starts v.tree) v.told;
}

-- a skip
pub skipped_field : {B : Type 0} (takes : B → Event → Place → B → Type 0) (n start : ℕ) (held : List ℕ) (a b c d : Window) (x y : B)
    → held ≡ b.buffered → Filled 1 a b → c ≡ consumed 1 b → get_or held 0 0 ≡ 0x0c → d ≡ c → start ≡ reading_at a → takes x events.null (place_at start (reading_at c) false) y
    → TookField (PlacedAs AnyBytes takes) n (a, x) (d, y) a d
skipped_field takes n start held a b c d x y same filled took skip end at told =
    let skipped : Took a c (0x0c ∷ []) = subst (λ t. Took a c (t ∷ [])) skip (took_first held a b c same filled took) in
    record {
      field = None;
      text = 0x0c ∷ [];
      spelled = refl;
      keys = refl;
      took = subst (λ w. Took a w (0x0c ∷ [])) (sym end) skipped;
      told = takes_one (PlacedAs AnyBytes takes) (a, x) (d, y) events.null (stands_by AnyBytes takes start false events.null (0x0c ∷ []) a c d x y skipped at refl tt end told);
    }

field_other : (r : Reader Tree) (t : ℕ) (y : List ℕ) (e : Error) → (t ≡ 0x0c → ⊥) → r (t ∷ y) ≡ refuses e → field_of r (t ∷ y) ≡ refuses e
field_other r t y e never h = rw (ne_eqb t 0x0c never) (ap (and_then (λ u. give (Some u))) h)

-- such a value is refused
pub field_names : (n : ℕ) (held : List ℕ) (e : Error) (a b : Window) → held ≡ b.buffered → Filled 1 a b → (get_or held 0 0 ≡ 0x0c → ⊥)
    → NamesBy owned (with_text_keys n) e b → NamesBy owned (field_of (with_text_keys n)) e a
field_names n held e a b same filled never h =
    peeked_names owned (field_of (with_text_keys n)) (with_text_keys n) e a b (get_or held 0 0)
    (λ f y p. field_other (with_text_keys n) (get_or held 0 0) y f never p) (peeks_first held a b same filled) h

-- ---- a value or a field that is due

-- the bytes said in another way
pub told_as : {B : Type 0} (F G : Event → Format) (takes : B → Event → Place → B → Type 0) (before after : Window × B) (s z : State) → F ≡ G
    → TookAny (PlacedAs F takes) before after s z → TookAny (PlacedAs G takes) before after s z
told_as F G takes before after s z same h = subst (λ f. TookAny (PlacedAs f takes) before after s z) same h

pub any_value : {B : Type 0} (takes : B → Event → B → Type 0) (s z : State) (before after : B) → s.due ≡ node_due
    → TookValue takes s.levels before after s.source z.source → z ≡ past s z.source → TookAny takes before after s z
any_value takes s z before after due v state = record {
  tree = v.tree;
  text = v.text;
  filled = subst (λ d. Fills s.levels d (expand v.tree) v.text) (sym due) (record { tree = v.tree; stands = refl; spelled = v.spelled });
  spelled = λ _. v.spelled;
  rows = spelled_whole s.levels v.tree v.text v.spelled;
  keys = v.keys;
  took = v.took;
  state = state;
  told = v.told;
}

pub any_value_refused : (e : Error) (s z : State) → s.due ≡ node_due → Fails e s.source z.source → NamesBy owned (with_text_keys s.levels) e s.source
    → Refuses reads_ignored (Some asking_ignored) owned e s z
any_value_refused e s z due fails said =
    any_refused (with_text_keys s.levels) e s z
    (λ f x p. subst (λ d. asks_any s.opened s.levels d x ≡ refuses f) (sym due) (ap (and_then done) p)) fails said

field_filled : (n : ℕ) (f : Option Tree) (text : List ℕ) → SpellsField (Spells n) f text → Fills n field_due (expand (told_field f)) text
field_filled n None text h = inl (refl, h)
field_filled n (Some t) text h = inr (record { tree = t; stands = refl; spelled = h })

apart : field_due ≡ node_due → ⊥
apart e = cc

pub any_field : {B : Type 0} (takes : B → Event → B → Type 0) (s z : State) (before after : B) → s.due ≡ field_due
    → TookField takes s.levels before after s.source z.source → z ≡ past s z.source → TookAny takes before after s z
any_field takes s z before after due f state = record {
  tree = told_field f.field;
  text = f.text;
  filled = subst (λ d. Fills s.levels d (expand (told_field f.field)) f.text) (sym due) (field_filled s.levels f.field f.text f.spelled);
  spelled = λ e. absurd (apart (sym due ∙ e));
  rows = field_whole s.levels f.field f.text f.spelled;
  keys = f.keys;
  took = f.took;
  state = state;
  told = f.told;
}

pub any_field_refused : (e : Error) (s z : State) → s.due ≡ field_due → Fails e s.source z.source → NamesBy owned (field_of (with_text_keys s.levels)) e s.source
    → Refuses reads_ignored (Some asking_ignored) owned e s z
any_field_refused e s z due fails said =
    any_refused (field_of (with_text_keys s.levels)) e s z
    (λ f x p. subst (λ d. asks_any s.opened s.levels d x ≡ refuses f) (sym due) (ap (and_then done) p)) fails said

-- ---- keys

-- a key of a row, which has no bytes
pub name_told : {B : Type 0} (takes : B → Event → Place → B → Type 0) (start place : ℕ) (ks : List (List ℕ)) (k : List ℕ) (w c : Window) (x y : B) → w.failed ≡ false → start ≡ reading_at w → c ≡ w
    → IsUtf8 k → k ≡ get_or ks place [] → takes x (events.key k) (place_at start (reading_at w) false) y → TellsName (PlacedAs AnyBytes takes) place ks (w, x) (c, y)
name_told takes start place ks k w c x y works at end utf8 is told = record {
  utf8 = subst (λ l. IsUtf8 l) is utf8;
  told = subst (λ l. PlacedAs AnyBytes takes (w, x) (events.key l) (c, y)) is (stands_by AnyBytes takes start false (events.key k) [] w w c x y (took_none w works) at refl tt end told);
}

pub kept_key : {A : Type 0} (kept : A → List ℕ) (ks : List A) (i : ℕ) (d v : A) (k : List ℕ) → i < length ks → v ≡ get_or ks i d → k ≡ kept v → k ≡ get_or (map kept ks) i []
kept_key kept ks i d v k inside found is = is ∙ ap kept found ∙ sym (get_or-map kept ks i d [] inside)

-- of a key that is expected nothing is said of the bytes
pub key_spells : (d : Due) → IsKeyDue d → AnyBytes ≡ spells_due d
key_spells nothing_due is = refl
key_spells key_due is = refl
key_spells (name_due k) is = refl
key_spells node_due is = absurd is
key_spells field_due is = absurd is
key_spells (row_due ks) is = absurd is

pub no_value_due : {X E : Type 0} (P : Type 0) (r : Result X E) (d : Due) → IsKeyDue d → OnErr r (d ≡ node_due → P)
no_value_due P (Ok x) d is = tt
no_value_due P (Err e) d is = λ due. absurd (subst IsKeyDue due is)

name_is : (place : ℕ) (ks : List (List ℕ)) → IsKeyDue (name_at place ks)
name_is place [] = tt
name_is zero (k ∷ ks) = tt
name_is (suc place) (k ∷ ks) = name_is place ks

pub key_is : (ks : List (List ℕ)) (place : ℕ) (d : code.Due) → d ≡ due.Nothing ⊎ (d ≡ due.Key ⊎ d ≡ due.Name) → IsKeyDue (due_of ks place d)
key_is ks place d is = elim is [
  | inl h ↦ subst (λ x. IsKeyDue (due_of ks place x)) (sym h) tt
  | inr (inl h) ↦ subst (λ x. IsKeyDue (due_of ks place x)) (sym h) tt
  | inr (inr h) ↦ subst (λ x. IsKeyDue (due_of ks place x)) (sym h) (name_is place ks)
]

same_after : (e f : Error) (t : ℕ) (y : List ℕ) → is_key_tag t ≡ true → string_after e t y ≡ string_after f t y
same_after e f t y is = elim (key_tags t is) [
  | inl h ↦ subst (λ u. string_after e u y ≡ string_after f u y) (sym h) refl
  | inr h ↦ subst (λ u. string_after e u y ≡ string_after f u y) (sym h) refl
]

-- what is refused as bytes is refused
key_asked : (o n : ℕ) (d : Due) (x : List ℕ) (e : Error) → IsKeyDue d → asks_bytes o n d x ≡ refuses e → asks_any o n d x ≡ refuses e
key_asked o n nothing_due x e is h = h
key_asked o n key_due [] e is h = h
key_asked o n key_due (t ∷ y) e is h = go (is_key_tag t) refl h
  where
    go : (c : Bool) → is_key_tag t ≡ c → and_then done (and_then bytes_at (cond c (give (tag t)) (refuse (DeInvalidStartByte MapKey t)) y)) ≡ refuses e
        → and_then done (string_after (DeInvalidStartByte MapKey t) t y) ≡ refuses e
    go true p q = ap (and_then done) (same_after (DeInvalidStartByte MapKey t) wrong_type t y p) ∙ q
    go false p q = ap (and_then done) (other_after (DeInvalidStartByte MapKey t) t y p) ∙ q
key_asked o n (name_due k) x e is h = absurd cc
key_asked o n node_due x e is h = absurd is
key_asked o n field_due x e is h = absurd is
key_asked o n (row_due ks) x e is h = absurd is

pub any_key_refused : (e : Error) (s z : State) → IsKeyDue s.due → Refuses reads_slice (Some asking_bytes) bare e s z → Refuses reads_ignored (Some asking_ignored) owned e s z
any_key_refused e s z is u =
    any_refused (asks_bytes s.opened s.levels s.due) e s z (λ f x p. key_asked s.opened s.levels s.due x f is p) u.fails
    (names_bare owned (asks_bytes s.opened s.levels s.due) e s.source u.names)

-- the tree of a key that was taken
key_read : (n : ℕ) (d : Due) (u : Tree) (text s : List ℕ) (c : Content) → IsKeyDue d → Fills n d u text → reads_slice u ≡ Some c → c ≡ byte_list s → u ≡ key_tree s
key_read n nothing_due u text s c is f read held = absurd f
key_read n key_due u text s c is f read held =
    let e : c ≡ byte_list f.key = slice_key f.key c (ap reads_slice (sym f.stands) ∙ read) in
    let same : f.key ≡ s = cc in
    f.stands ∙ ap key_tree same
key_read n (name_due k) u text s c is f read held =
    let e : c ≡ byte_list k = slice_key k c (ap reads_slice (sym f.0) ∙ read) in
    let same : k ≡ s = cc in
    f.0 ∙ ap key_tree same
key_read n node_due u text s c is f read held = absurd is
key_read n field_due u text s c is f read held = absurd is
key_read n (row_due ks) u text s c is f read held = absurd is

text_key : (s : List ℕ) → IsUtf8 s → key_tree s ≡ trees.text s
text_key s good = ap (λ b. cond b (trees.text s) (trees.bytes s)) (is_utf8-from_IsUtf8 s good)

bytes_key : (s : List ℕ) → ¬ (IsUtf8 s) → key_tree s ≡ trees.bytes s
bytes_key s bad = go (is_utf8 s) refl
  where
    go : (b : Bool) → is_utf8 s ≡ b → cond b (trees.text s) (trees.bytes s) ≡ trees.bytes s
    go true e = absurd (bad (IsUtf8-from_is_utf8 s e))
    go false e = refl

pub any_text_key : {A B : Type 0} (held : A → List ℕ) (takes : B → Event → B → Type 0) (s m z : State) (v : A) (t : List ℕ) (before after : B) → IsKeyDue s.due
    → Answers reads_slice (λ r c. c ≡ byte_list (held r)) s m v → t ≡ held v → IsUtf8 t → z ≡ m → takes before (events.text t) after → TookAny takes before after s z
any_text_key held takes s m z v t before after is a same good end told =
    let b : a.tree ≡ trees.text t = key_read s.levels s.due a.tree a.text t a.content is a.filled a.read (a.held ∙ ap byte_list (sym same)) ∙ text_key t good in
    subst (TookAny takes before after s) (sym end) (record {
      tree = trees.text t;
      text = a.text;
      filled = subst (λ u. Fills s.levels s.due u a.text) b a.filled;
      spelled = λ e. absurd (subst IsKeyDue e is);
      rows = tt;
      keys = refl;
      took = a.took;
      state = a.state;
      told = takes_one takes before after (events.text t) told;
    })

pub any_bytes_key : {A B : Type 0} (held : A → List ℕ) (takes : B → Event → B → Type 0) (s m z : State) (v : A) (t : List ℕ) (before after : B) → IsKeyDue s.due
    → Answers reads_slice (λ r c. c ≡ byte_list (held r)) s m v → t ≡ held v → ¬ (IsUtf8 t) → z ≡ m → takes before (events.bytes t) after → TookAny takes before after s z
any_bytes_key held takes s m z v t before after is a same bad end told =
    let b : a.tree ≡ trees.bytes t = key_read s.levels s.due a.tree a.text t a.content is a.filled a.read (a.held ∙ ap byte_list (sym same)) ∙ bytes_key t bad in
    subst (TookAny takes before after s) (sym end) (record {
      tree = trees.bytes t;
      text = a.text;
      filled = subst (λ u. Fills s.levels s.due u a.text) b a.filled;
      spelled = λ e. absurd (subst IsKeyDue e is);
      rows = tt;
      keys = refl;
      took = a.took;
      state = a.state;
      told = takes_one takes before after (events.bytes t) told;
    })

-- ---- builders that do not look at places

pub any_told : {B : Type 0} {spells : Event → Format} (takes : B → Event → B → Type 0) (before after : Window × B) (s z : State) → TookAny (PlacedAs spells (λ x e p y. takes x e y)) before after s z → TookAny takes before.1 after.1 s z
any_told takes before after s z k = record {
  tree = k.tree;
  text = k.text;
  filled = k.filled;
  spelled = k.spelled;
  rows = k.rows;
  keys = k.keys;
  took = k.took;
  state = k.state;
  told = takes_anywhere takes before after (events.events k.tree) k.told;
}
