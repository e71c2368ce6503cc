-- What the calls on an enum refuse, its type refuses by the same name.
use Rattle.std.proofs.Common.{◌≡◌, ◌-◌, ℕ, zero, suc, pos, Bool, true, false, cond, List, ◌∷◌, ◌++◌, Some, None, append_assoc, refl, sym, ap, subst, ◌∙◌, inl, inr, arith}
use Rattle.bser_format.specs.Tree.{Tree}
use Rattle.bser_format.specs.Grammar.{SpellsCount}
use Rattle.bser_format.specs.Content.{Content, number}
use Rattle.bser_format.specs.Expected.{Due, Fills, nothing_due, node_due, key_due, field_due, name_due, row_due, WantedPairs, entries_of_object, fields_of_row}
use Rattle.bser_format.specs.declared.errors.Error.{Error}
use Rattle.bser_format.specs.declared.errors.name.EnumName.{EnumName}
use Rattle.bser_format.specs.Named.{Reader, refuses, refuse, and_then, ◌>>=◌}
use Rattle.bser_format.specs.DueReaders.{is_key_tag, seen, less_one, variant_due, wrong_type}
use Rattle.bser_format.specs.Asks.{Asks, Payloads, done, labels, payload, alone, payload_asked, is_object, asks_enum, inside}
use Rattle.bser_source.specs.Window.{Window}
use Rattle.bser_source.proofs.Windows.{took_then}
use Rattle.bser_deserializer.specs.Access.{OpenPairs, inside_pairs}
use Rattle.bser_deserializer.specs.Dues.{IsValueDue}
use Rattle.bser_deserializer.specs.Parts.{BeginsPairs, ObjectHead, pairs_left, pair_key, pair_value}
use Rattle.bser_deserializer.specs.Reading.{Answers, NamesBy, Needs}
use Rattle.bser_deserializer.specs.State.{State}
use Rattle.bser_deserializer.proofs.Refusals.{names_by_more, names_by_untaken}
use Rattle.bser_deserializer.proofs.Containers.{tagged}
use Rattle.bser_deserializer.proofs.Tags.{complained_names, key_tag_told}
use Rattle.bser_structs.specs.EnumNames.{NamesEnum}
use Rattle.bser_structs.specs.ReadVariants.{reads_place, HoldsPlace, LacksPayload, OpenVariant, OpensEntry}
use Rattle.bser_structs.proofs.Names.{alone_passes, entry_passes, name_first}

-- ---- a variant

-- what refuses the name refuses both ways to go on
either_way : {X : Type 0} (c : Bool) (V : Reader X) (f g : X → Reader Unit) (b : List ℕ) (e : Error) → V b ≡ refuses e → cond c (V >>= f) (V >>= g) b ≡ refuses e
either_way true V f g b e h = ap (and_then f) h
either_way false V f g b e h = ap (and_then g) h

name_refused : (enum : EnumName) (vs : Payloads) (o n : ℕ) (d : Due) (x : List ℕ) (e : Error) → variant_due enum o n (labels vs) d x ≡ refuses e → asks_enum enum vs o n d x ≡ refuses e
name_refused enum vs o n nothing_due x e h = ap (and_then done) h
name_refused enum vs o n node_due x e h =
    either_way (is_object (seen o node_due x)) (variant_due enum o n (labels vs) node_due) (λ i. payload_asked (payload i vs) (suc o) (less_one n) node_due) (λ i. alone (payload i vs)) x e h
name_refused enum vs o n field_due x e h =
    either_way (is_object (seen o field_due x)) (variant_due enum o n (labels vs) field_due) (λ i. payload_asked (payload i vs) (suc o) (less_one n) node_due) (λ i. alone (payload i vs)) x e h
name_refused enum vs o n key_due x e h = ap (and_then (λ i. alone (payload i vs))) h
name_refused enum vs o n (name_due k) x e h = ap (and_then (λ i. alone (payload i vs))) h
name_refused enum vs o n (row_due ks) x e h = ap (and_then (λ i. payload_asked (payload i vs) (suc o) n field_due)) h

pub variant_named : (enum : EnumName) (vs : Payloads) (needs : Needs) (e : Error) (s : State) → NamesBy needs (variant_due enum s.opened s.levels (labels vs) s.due) e s.source → NamesEnum needs enum vs e s
variant_named enum vs needs e s h =
    names_by_more needs (asks_enum enum vs s.opened s.levels s.due) (variant_due enum s.opened s.levels (labels vs) s.due) e s.source (λ f x p. name_refused enum vs s.opened s.levels s.due x f p) h

-- ---- a name alone

no_object : (o : ℕ) (d : Due) (t : ℕ) (y : List ℕ) → IsValueDue d → is_key_tag t ≡ true → is_object (seen o d (t ∷ y)) ≡ false
no_object o d t y v is = elim (key_tag_told t is) [
  | inl e ↦ subst (λ z. is_object (seen o d (z ∷ y)) ≡ false) (sym e) (of_bytes d v)
  | inr e ↦ subst (λ z. is_object (seen o d (z ∷ y)) ≡ false) (sym e) (of_text d v)
]
  where
    of_bytes : (d : Due) → IsValueDue d → is_object (seen o d (0x02 ∷ y)) ≡ false
    of_bytes nothing_due v = absurd v
    of_bytes node_due v = refl
    of_bytes key_due v = absurd v
    of_bytes field_due v = refl
    of_bytes (name_due k) v = absurd v
    of_bytes (row_due ks) v = absurd v

    of_text : (d : Due) → IsValueDue d → is_object (seen o d (0x0d ∷ y)) ≡ false
    of_text nothing_due v = absurd v
    of_text node_due v = refl
    of_text key_due v = absurd v
    of_text field_due v = refl
    of_text (name_due k) v = absurd v
    of_text (row_due ks) v = absurd v

-- after a name alone it is told whether that is enough
alone_asked : (enum : EnumName) (vs : Payloads) (o n : ℕ) (d : Due) (u : Tree) (c : Content) (p : ℕ) (b x : List ℕ) → Fills n d u b → reads_place (labels vs) u ≡ Some c → c ≡ number (pos p) → asks_enum enum vs o n d (b ++ x) ≡ alone (payload p vs) x
alone_asked enum vs o n d u c p b x f e held = at d f
  where
    told : (d : Due) → Fills n d u b → and_then (λ i. alone (payload i vs)) (variant_due enum o n (labels vs) d (b ++ x)) ≡ alone (payload p vs) x
    told d f =
        let q = alone_passes enum o n n (labels vs) d u c b f e in
        let both : number (pos q.0) ≡ number (pos p) = sym q.1 ∙ held in
        let same : q.0 ≡ p = cc in
        ap (and_then (λ i. alone (payload i vs))) (q.2 x) ∙ ap (λ i. alone (payload i vs) x) same

    of_value : (d : Due) → IsValueDue d → Fills n d u b → is_object (seen o d (b ++ x)) ≡ false
    of_value d v f = let t = name_first (labels vs) n d u c b v f e in ap (λ l. is_object (seen o d (l ++ x))) t.2 ∙ no_object o d t.0 (t.1 ++ x) v t.3

    at : (d : Due) → Fills n d u b → asks_enum enum vs o n d (b ++ x) ≡ alone (payload p vs) x
    at nothing_due f = absurd f
    at node_due f = ap (λ z. cond z (variant_due enum o n (labels vs) node_due >>= λ i. payload_asked (payload i vs) (suc o) (less_one n) node_due) (variant_due enum o n (labels vs) node_due >>= λ i. alone (payload i vs)) (b ++ x)) (of_value node_due tt f) ∙ told node_due f
    at field_due f = ap (λ z. cond z (variant_due enum o n (labels vs) field_due >>= λ i. payload_asked (payload i vs) (suc o) (less_one n) node_due) (variant_due enum o n (labels vs) field_due >>= λ i. alone (payload i vs)) (b ++ x)) (of_value field_due tt f) ∙ told field_due f
    at key_due f = told key_due f
    at (name_due k) f = told (name_due k) f
    at (row_due ks) f = absurd (let none : None ≡ Some c = ap (reads_place (labels vs)) (sym f.stands) ∙ e in cc)

pub lacking_named : (enum : EnumName) (vs : Payloads) (A : Asks) (needs : Needs) (e : Error) (old new last : State) (place : ℕ) → payload place vs ≡ Some A → Answers (reads_place (labels vs)) HoldsPlace old new place → LacksPayload e new last
    → NamesEnum needs enum vs e old
lacking_named enum vs A needs e old new last place some a lacks =
    names_by_untaken needs (asks_enum enum vs old.opened old.levels old.due) (refuse {X = Unit} wrong_type) e old.source new.source a.text
    (λ f x h. alone_asked enum vs old.opened old.levels old.due a.tree a.content place a.text x a.filled a.read a.held ∙ ap (λ q. alone q x) some ∙ h) a.took
    (complained_names needs (refuse {X = Unit} wrong_type) wrong_type e new.source lacks.name (λ x. refl))

-- ---- a payload

-- the head of an object shows one
shows_object : (o n k : ℕ) (d : Due) (head x : List ℕ) → IsValueDue d → ObjectHead n k head → is_object (seen o d (head ++ x)) ≡ true
shows_object o zero k d head x v h = absurd h
shows_object o (suc n) k d head x v h = let p = tagged 0x01 (SpellsCount k) head h in ap (λ l. is_object (seen o d (l ++ x))) p.1 ∙ at d v (p.0 ++ x)
  where
    at : (d : Due) → IsValueDue d → (y : List ℕ) → is_object (seen o d (0x01 ∷ y)) ≡ true
    at nothing_due v y = absurd v
    at node_due v y = refl
    at key_due v y = absurd v
    at field_due v y = refl
    at (name_due l) v y = absurd v
    at (row_due ks) v y = absurd v

-- after a head and a key the payload is asked for
entry_asked : (enum : EnumName) (vs : Payloads) (o i n : ℕ) (d : Due) (w : WantedPairs) (u : Tree) (c : Content) (p : ℕ) (head key x : List ℕ) → BeginsPairs n d w head → pairs_left w ≡ 1 → Fills i (pair_key w) u key
    → reads_place (labels vs) u ≡ Some c → c ≡ number (pos p) → asks_enum enum vs o n d (head ++ (key ++ x)) ≡ payload_asked (payload p vs) (suc o) (inside w n) (pair_value w) x
entry_asked enum vs o i n d w u c p head key x h single f e held = at d w h f single
  where
    told : (d : Due) (w : WantedPairs) (m : ℕ) (q : Due) → BeginsPairs n d w head → Fills i (pair_key w) u key → pairs_left w ≡ 1
        → and_then (λ i. payload_asked (payload i vs) (suc o) m q) (variant_due enum o n (labels vs) d (head ++ (key ++ x))) ≡ payload_asked (payload p vs) (suc o) m q x
    told d w m q h f single =
        let r = entry_passes enum o i n (labels vs) d w u c head key h single f e in
        let both : number (pos r.0) ≡ number (pos p) = sym r.1 ∙ held in
        let same : r.0 ≡ p = cc in
        ap (and_then (λ i. payload_asked (payload i vs) (suc o) m q)) (r.2 x) ∙ ap (λ i. payload_asked (payload i vs) (suc o) m q x) same

    at : (d : Due) (w : WantedPairs) → BeginsPairs n d w head → Fills i (pair_key w) u key → pairs_left w ≡ 1
        → asks_enum enum vs o n d (head ++ (key ++ x)) ≡ payload_asked (payload p vs) (suc o) (inside w n) (pair_value w) x
    at node_due (entries_of_object k) h f single =
        ap (λ z. cond z (variant_due enum o n (labels vs) node_due >>= λ i. payload_asked (payload i vs) (suc o) (less_one n) node_due) (variant_due enum o n (labels vs) node_due >>= λ i. alone (payload i vs)) (head ++ (key ++ x)))
        (shows_object o n k node_due head (key ++ x) tt h)
        ∙ told node_due (entries_of_object k) (less_one n) node_due h f single
    at field_due (entries_of_object k) h f single =
        ap (λ z. cond z (variant_due enum o n (labels vs) field_due >>= λ i. payload_asked (payload i vs) (suc o) (less_one n) node_due) (variant_due enum o n (labels vs) field_due >>= λ i. alone (payload i vs)) (head ++ (key ++ x)))
        (shows_object o n k field_due head (key ++ x) tt h)
        ∙ told field_due (entries_of_object k) (less_one n) node_due h f single
    at (row_due ks) (fields_of_row ls) h f single = told (row_due ks) (fields_of_row ls) n field_due h f single
    at (row_due ks) (entries_of_object k) h f single = absurd h
    at node_due (fields_of_row ls) h f single = absurd h
    at field_due (fields_of_row ls) h f single = absurd h
    at nothing_due w h f single = absurd h
    at key_due w h f single = absurd h
    at (name_due k) w h f single = absurd h

one_less : (n : ℕ) → n - 1 ≡ less_one n
one_less zero = refl
one_less (suc n) = omega arith

levels_there : (w : WantedPairs) (o : State) (r : Window) → (inside_pairs w o r).levels ≡ inside w o.levels
levels_there (entries_of_object k) o r = one_less o.levels
levels_there (fields_of_row ks) o r = refl

pub payload_named : (enum : EnumName) (vs : Payloads) (needs : Needs) (e : Error) (old : State) (new : OpenVariant) (place : ℕ) → OpensEntry (labels vs) old new place
    → NamesBy needs (payload_asked (payload place vs) (suc old.opened) new.state.levels new.payload) e new.state.source → NamesEnum needs enum vs e old
payload_named enum vs needs e old new place h named =
    let u : OpenPairs = h.inside in
    let a = h.key in
    let depth : new.state.levels ≡ inside u.wanted old.levels =
    ap (λ (s : State). s.levels) a.state ∙ ap (λ (s : State). s.levels) h.opens.state ∙ levels_there u.wanted old u.state.source in
    let r = payload_asked (payload place vs) (suc old.opened) new.state.levels new.payload in
    names_by_untaken needs (asks_enum enum vs old.opened old.levels old.due) r e old.source new.state.source (h.opens.text ++ a.text)
    (λ f x p. ap (asks_enum enum vs old.opened old.levels old.due) (append_assoc h.opens.text a.text x)
    ∙ entry_asked enum vs old.opened u.state.levels old.levels old.due u.wanted a.tree a.content place h.opens.text a.text x h.opens.head h.single a.filled a.read a.held
    ∙ ap (λ m. payload_asked (payload place vs) (suc old.opened) m (pair_value u.wanted) x) (sym depth)
    ∙ ap (λ q. payload_asked (payload place vs) (suc old.opened) new.state.levels q x) (sym h.payload) ∙ p)
    (took_then old.source u.state.source new.state.source h.opens.text a.text h.opens.took a.took) named
