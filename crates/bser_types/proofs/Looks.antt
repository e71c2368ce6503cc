-- A look at the kind of what is due, and then a call that reads it.
use Rattle.std.proofs.Common.{◌≡◌, ℕ, ◌≤◌, Bool, true, false, cond, List, [], ◌∷◌, ◌++◌, length, drop, Option, Some, None, refl, sym, ap, subst, ◌∙◌, arith, inl, inr}
use Rattle.bser_format.specs.Tree.{Tree}
use Rattle.bser_format.specs.Content.{Content, Meaning}
use Rattle.bser_format.specs.Expected.{Due, Fills, nothing_due, node_due, key_due, field_due, name_due, row_due}
use Rattle.bser_format.specs.declared.errors.Error.{Error}
use Rattle.bser_format.specs.declared.errors.Error.TheVariants.{DeInvalidStartByte}
use Rattle.bser_format.specs.declared.errors.Kind.TheVariants.{NextItem, MapKey}
use Rattle.bser_format.specs.Named.{reads, refuses, give, refuse}
use Rattle.bser_format.specs.DueReaders.{Seen, tag, name, row, seen, is_tag, is_key_tag}
use Rattle.bser_format.specs.Asks.{is_null, is_sequence}
use Rattle.bser_format.proofs.Sights.{sight, null_tree, array_tree}
use Rattle.bser_source.specs.Window.{Window, Grown, Took, left}
use Rattle.bser_source.proofs.Windows.{grown_none, grown_later, took_grown, left_grown, hand_first}
use Rattle.bser_deserializer.specs.Dues.{IsTagged}
use Rattle.bser_deserializer.specs.State.{State, past}
use Rattle.bser_deserializer.specs.Nodes.{node_at, BeginsNode, Stands, SeesNode}
use Rattle.bser_deserializer.specs.Reading.{Answers, Asking, NamesAsked, RefusesFront, FillsReadably, Refuses, MayRefuse, NamesBy, bare, refusing, Needs}
use Rattle.bser_deserializer.specs.declared.node.Node.{Node}
use Rattle.bser_deserializer.proofs.Refusals.{fails_before, excused_bare, excused_before, names_bare, names_by_grown, named_excuse}
use Rattle.bser_deserializer.proofs.Nodes.{node_passes}
use Rattle.bser_types.proofs.Naming.{HeadAsked, head_named}

-- ---- what stands there is what is seen

told : (c : Bool) (t : ℕ) (e : Error) (y : List ℕ) (s : Seen) (z : List ℕ) → cond c (give (tag t)) (refuse e) y ≡ reads s z → s ≡ tag t
told true t e y s z h = cc
told false t e y s z h = absurd cc

-- a tag that stands there is seen
tag_seen : (o : ℕ) (d : Due) (t : ℕ) (y : List ℕ) (s : Seen) (z : List ℕ) → IsTagged d → seen o d (t ∷ y) ≡ reads s z → s ≡ tag t
tag_seen o nothing_due t y s z is h = absurd is
tag_seen o node_due t y s z is h = told (is_tag false t) t (DeInvalidStartByte NextItem t) y s z h
tag_seen o key_due t y s z is h = told (is_key_tag t) t (DeInvalidStartByte MapKey t) y s z h
tag_seen o field_due t y s z is h = told (is_tag true t) t (DeInvalidStartByte NextItem t) y s z h
tag_seen o (name_due k) t y s z is h = absurd is
tag_seen o (row_due ks) t y s z is h = absurd is

some_byte : (o : ℕ) (d : Due) (s : Seen) (z : List ℕ) → IsTagged d → seen o d [] ≡ reads s z → ⊥
some_byte o nothing_due s z is h = is
some_byte o node_due s z is h = cc
some_byte o key_due s z is h = cc
some_byte o field_due s z is h = cc
some_byte o (name_due k) s z is h = is
some_byte o (row_due ks) s z is h = is

-- what is seen of the bytes left is what stands there
pub stands_seen : (s : State) (now : Window) (v w : Seen) (all z more : List ℕ) → Stands s now v → seen s.opened s.due all ≡ reads w z → now.buffered ++ more ≡ all → w ≡ v
stands_seen s now (tag t) w all z more stands h same =
    let whole : t ∷ (drop 1 now.buffered ++ more) ≡ all = sym (ap (λ l. l ++ more) stands.1.next) ∙ same in
    tag_seen s.opened s.due t (drop 1 now.buffered ++ more) w z stands.0 (ap (seen s.opened s.due) whole ∙ h)
stands_seen s now (name k) w all z more stands h same =
    let there : reads (name k) all ≡ reads w z = ap (λ d. seen s.opened d all) (sym stands.0) ∙ h in
    cc
stands_seen s now (row ks) w all z more stands h same =
    let there : reads (row ks) all ≡ reads w z = ap (λ d. seen s.opened d all) (sym stands.0) ∙ h in
    cc

pub stands_grown : (s : State) (now : Window) (v : Seen) → Stands s now v → Grown 1 s.source now
stands_grown s now (tag t) h = h.1.filled.grown
stands_grown s now (name k) h = subst (Grown 1 s.source) (sym h.2) (grown_later 0 1 s.source s.source (omega arith) (grown_none s.source))
stands_grown s now (row ks) h = subst (Grown 1 s.source) (sym h.2) (grown_later 0 1 s.source s.source (omega arith) (grown_none s.source))

-- what begins with a tag is some bytes
long : (s : State) (u : Tree) (taken : List ℕ) → Fills s.levels s.due u taken → IsTagged s.due → 1 ≤ length taken
long s u [] filled is =
    let k = sight s.opened s.levels s.due u [] filled in
    absurd (some_byte s.opened s.due k.shown (k.left []) is (k.sees []))
long s u (x ∷ taken) filled is = omega arith

pub took_from : (s : State) (now t : Window) (v : Seen) (u : Tree) (taken : List ℕ) → Stands s now v → Fills s.levels s.due u taken → Took now t taken → Took s.source t taken
took_from s now t (tag x) u taken stands filled took = took_grown s.source now t 1 taken stands.1.filled.grown (long s u taken filled stands.0) took
took_from s now t (name k) u taken stands filled took = subst (λ w. Took w t taken) stands.2 took
took_from s now t (row ks) u taken stands filled took = subst (λ w. Took w t taken) stands.2 took

-- ---- what is seen tells of the tree

-- what was seen tells null and arrays from the others
pub seen_tells : (s mid : State) (k : Node) (u : Tree) (taken rest more : List ℕ) → (sees : SeesNode s mid k) → Fills s.levels s.due u taken → mid.source.buffered ++ more ≡ taken ++ rest
    → (is_null sees.seen ≡ null_tree u) × (is_sequence sees.seen ≡ array_tree u)
seen_tells s mid k u taken rest more sees filled same =
    let g = sight s.opened s.levels s.due u taken filled in
    let is : g.shown ≡ sees.seen = stands_seen s mid.source sees.seen g.shown (taken ++ rest) (g.left rest) more sees.stands (g.sees rest) same in
    (ap is_null (sym is) ∙ g.none, ap is_sequence (sym is) ∙ g.sequence)

begins_tag : (d : Due) (t : ℕ) (k : Node) → IsTagged d → node_at d (tag t) ≡ Some k → BeginsNode d (t ∷ [])
begins_tag nothing_due t k is e = absurd is
begins_tag node_due t k is e = (t, k, refl, e)
begins_tag key_due t k is e = (t, k, refl, e)
begins_tag field_due t k is e = (t, k, refl, e)
begins_tag (name_due n) t k is e = absurd is
begins_tag (row_due ks) t k is e = absurd is

-- what stands there is seen off all bytes that begin with those buffered
stands_sees : (s : State) (now : Window) (v : Seen) (k : Node) (x more : List ℕ) → Stands s now v → node_at s.due v ≡ Some k → x ≡ now.buffered ++ more → (y : List ℕ) × (seen s.opened s.due x ≡ reads v y)
stands_sees s now (tag t) k x more stands kind here =
    let y = drop 1 now.buffered ++ more in
    let whole : x ≡ t ∷ y = here ∙ ap (λ l. l ++ more) stands.1.next in
    let p = node_passes s.opened s.due (t ∷ []) (begins_tag s.due t k stands.0 kind) in
    let there : seen s.opened s.due (t ∷ y) ≡ reads p.0 y = p.1 y in
    (y, ap (seen s.opened s.due) whole ∙ there ∙ ap (λ v. reads v y) (tag_seen s.opened s.due t y p.0 y stands.0 there))
stands_sees s now (name n) k x more stands kind here = (x, ap (λ d. seen s.opened d x) stands.0)
stands_sees s now (row ks) k x more stands kind here = (x, ap (λ d. seen s.opened d x) stands.0)

-- ---- what is read after a look

-- what is known of a tree, where this was seen before the bytes that it fills
abbrev pub Tells : (s mid : State) → (k : Node) → SeesNode s mid k → (Tree → Type 0) → Type 0
Tells s mid k sees Known = (u : Tree) (taken rest more : List ℕ) → Fills s.levels s.due u taken → mid.source.buffered ++ more ≡ taken ++ rest → Known u

-- whether it is null, and whether an array
abbrev pub KnownOf : Seen → Tree → Type 0
KnownOf v u = (is_null v ≡ null_tree u) × (is_sequence v ≡ array_tree u)

-- what the call read is what is due, by what is known of it
pub known_answers : {A B : Type 0} (inner outer : Meaning) (holds_in : A → Content → Type 0) (holds_out : B → Content → Type 0) (s mid t : State) (k : Node) (v : A) (w : B) (Known : Tree → Type 0) → (sees : SeesNode s mid k) → Tells s mid k sees Known
    → ((u : Tree) (c : Content) → Known u → inner u ≡ Some c → holds_in v c → (d : Content) × (outer u ≡ Some d) × holds_out w d)
    → Answers inner holds_in mid t v → Answers outer holds_out s t w
known_answers inner outer holds_in holds_out s mid t k v w Known sees tells means a =
    let filled : Fills s.levels s.due a.tree a.text = subst (λ (x : State). Fills x.levels x.due a.tree a.text) sees.state a.filled in
    let r = means a.tree a.content (tells a.tree a.text t.source.buffered a.took.more filled a.took.bytes) a.read a.held in
    record {
      tree = a.tree;
      content = r.0;
      text = a.text;
      filled = filled;
      read = r.1;
      held = r.2;
      took = took_from s mid.source t.source sees.seen a.tree a.text sees.stands filled a.took;
      state = a.state ∙ ap (λ (x : State). past x t.source) sees.state;
    }

-- what the call read is what is due
pub look_answers : {A B : Type 0} (inner outer : Meaning) (holds_in : A → Content → Type 0) (holds_out : B → Content → Type 0) (s mid t : State) (k : Node) (v : A) (w : B) → (sees : SeesNode s mid k)
    → ((u : Tree) (c : Content) → is_null sees.seen ≡ null_tree u → is_sequence sees.seen ≡ array_tree u → inner u ≡ Some c → holds_in v c → (d : Content) × (outer u ≡ Some d) × holds_out w d)
    → Answers inner holds_in mid t v → Answers outer holds_out s t w
look_answers inner outer holds_in holds_out s mid t k v w sees means a =
    known_answers inner outer holds_in holds_out s mid t k v w (KnownOf sees.seen) sees (λ u taken rest more filled same. seen_tells s mid k u taken rest more sees filled same) (λ u c known read held. means u c known.0 known.1 read held) a

-- what the call that reads what was seen refuses, the whole refuses
abbrev pub SeenAsked : {R T : Meaning} → Option (Asking R) → Option (Asking T) → State → Seen → Type 0
SeenAsked None tells s v = Unit {0}
SeenAsked (Some a) None s v = ⊥
SeenAsked (Some a) (Some b) s v =
    (x y : List ℕ) (e : Error) → seen s.opened s.due x ≡ reads v y → b.asks s.opened s.levels s.due x ≡ refuses e → a.asks s.opened s.levels s.due x ≡ refuses e

look_named : (needs : Needs) (inner outer : Meaning) (tells : Option (Asking inner)) (asks : Option (Asking outer)) (s mid : State) (k : Node) (e : Error) → (sees : SeesNode s mid k) → SeenAsked asks tells s sees.seen
    → NamesAsked needs tells e mid → NamesAsked needs asks e s
look_named needs inner outer tells None s mid k e sees asked said = tt
look_named needs inner outer None (Some a) s mid k e sees asked said = absurd asked
look_named needs inner outer (Some b) (Some a) s mid k e sees asked said = at (subst (λ (x : State). NamesBy needs (b.asks x.opened x.levels x.due) e mid.source) sees.state said)
  where
    grown : Grown 1 s.source mid.source
    grown = stands_grown s mid.source sees.seen sees.stands

    at : NamesBy needs (b.asks s.opened s.levels s.due) e mid.source → NamesBy needs (a.asks s.opened s.levels s.due) e s.source
    at h =
        names_by_grown needs (a.asks s.opened s.levels s.due) (b.asks s.opened s.levels s.due) e 1 s.source mid.source grown
        (λ f x more whole p. let there = stands_sees s mid.source sees.seen k x more sees.stands sees.kind whole in asked x there.0 f there.1 p) h

-- what the call refused is refused, by what is known of what is due
pub known_refused : (needs : Needs) (inner outer : Meaning) (tells : Option (Asking inner)) (asks : Option (Asking outer)) (s mid z : State) (k : Node) (e : Error) (Known : Tree → Type 0) → (sees : SeesNode s mid k) → Tells s mid k sees Known
    → ((u : Tree) (c : Content) → Known u → outer u ≡ Some c → (d : Content) × (inner u ≡ Some d))
    → SeenAsked asks tells s sees.seen → Refuses inner tells needs e mid z → Refuses outer asks needs e s z
known_refused needs inner outer tells asks s mid z k e Known sees knows means asked u = record {
  fails = fails_before 1 e s.source mid.source z.source grown u.fails;
  may = at u.may;
  names = look_named needs inner outer tells asks s mid k e sees asked u.names;
  excuse = λ taken rest f known.
      excused_before needs 1 (length taken) s.source mid.source e grown (u.excuse taken rest (within taken rest f known) (left_grown 1 s.source mid.source (taken ++ rest) grown known));
}
  where
    grown : Grown 1 s.source mid.source
    grown = stands_grown s mid.source sees.seen sees.stands

    at : MayRefuse needs e mid.source → MayRefuse needs e s.source
    at (inl h) = inl h
    at (inr h) = inr (excused_before (refusing needs) 1 0 s.source mid.source e grown h)

    within : (taken rest : List ℕ) → FillsReadably outer s taken → left s.source ≡ Some (taken ++ rest) → FillsReadably inner mid taken
    within taken rest f known =
        let hand = hand_first mid.source (taken ++ rest) (left_grown 1 s.source mid.source (taken ++ rest) grown known) in
        let i = means f.tree f.content (knows f.tree taken rest hand.0 f.filled hand.1) f.read in
        record { tree = f.tree; content = i.0; filled = subst (λ (x : State). Fills x.levels x.due f.tree taken) (sym sees.state) f.filled; read = i.1 }

-- what the call refused is refused
pub look_refused : (needs : Needs) (inner outer : Meaning) (tells : Option (Asking inner)) (asks : Option (Asking outer)) (s mid z : State) (k : Node) (e : Error) → (sees : SeesNode s mid k)
    → ((u : Tree) (c : Content) → is_null sees.seen ≡ null_tree u → is_sequence sees.seen ≡ array_tree u → outer u ≡ Some c → (d : Content) × (inner u ≡ Some d))
    → SeenAsked asks tells s sees.seen → Refuses inner tells needs e mid z → Refuses outer asks needs e s z
look_refused needs inner outer tells asks s mid z k e sees means asked u =
    known_refused needs inner outer tells asks s mid z k e (KnownOf sees.seen) sees (λ t taken rest more filled same. seen_tells s mid k t taken rest more sees filled same) (λ t c known read. means t c known.0 known.1 read) asked u

-- where nothing is seen, no value is read
pub no_value : (needs : Needs) (means : Meaning) (asks : Option (Asking means)) (s z : State) (e : Error) → HeadAsked asks s (seen s.opened s.due)
    → RefusesFront bare (BeginsNode s.due) (NamesBy bare (seen s.opened s.due) e s.source) e s.source z.source → Refuses means asks needs e s z
no_value needs means asks s z e head u = record {
  fails = u.fails;
  may = at u.may;
  names = head_named means asks needs e s (seen s.opened s.due) head (names_bare needs (seen s.opened s.due) e s.source u.names);
  excuse = λ taken rest f known.
      let k = sight s.opened s.levels s.due f.tree taken f.filled in
      excused_bare needs (length taken) e s.source (named_excuse bare (seen s.opened s.due) e s.source taken rest k.shown k.left known k.sees u.names);
}
  where
    at : MayRefuse bare e s.source → MayRefuse needs e s.source
    at (inl h) = inl h
    at (inr h) = inr (excused_bare (refusing needs) 0 e s.source h)
