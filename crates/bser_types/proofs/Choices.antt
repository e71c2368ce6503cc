-- A look that tells objects from the others, and then a call that reads by one of two types.
use Rattle.std.proofs.Common.{◌≡◌, ℕ, zero, suc, Bool, true, false, cond, List, [], ◌∷◌, ◌++◌, Option, Some, refl, sym, ap, ◌∙◌, inl, inr}
use Rattle.std.specs.Prelude.{ℤ}
use Rattle.std.specs.Str.{is_utf8}
use Rattle.bser_format.specs.Tree.{Tree, null, boolean, integer, real, bytes, text, array, object, template}
use Rattle.bser_format.specs.Expand.{expand, key_tree}
use Rattle.bser_format.specs.Grammar.{Spells, SpellsString, int8, int16, int32, int64, IntSize, int_bytes}
use Rattle.bser_format.specs.Content.{Content, Meaning}
use Rattle.bser_format.specs.Expected.{Due, Fills, nothing_due, node_due, key_due, field_due, name_due, row_due}
use Rattle.bser_format.specs.declared.errors.Error.{Error}
use Rattle.bser_format.specs.Named.{Reader, reads, and_then, next}
use Rattle.bser_format.specs.DueReaders.{Seen, tag, name, row, value_tag, key_tag, seen}
use Rattle.bser_format.specs.Asks.{Asks}
use Rattle.bser_format.specs.TypeLaws.{Passes}
use Rattle.bser_format.proofs.Sights.{way}
use Rattle.bser_deserializer.specs.State.{State}
use Rattle.bser_deserializer.specs.Nodes.{BeginsNode, SeesNode}
use Rattle.bser_deserializer.specs.Reading.{Answers, Asking, RefusesFront, Refuses, NamesBy, bare, Needs}
use Rattle.bser_deserializer.specs.declared.node.Node.{Node}
use Rattle.bser_deserializer.specs.declared.node.Node.TheVariants as kinds
use Rattle.bser_types.specs.Choices.{reads_object_or, is_pairs, asks_object_or}
use Rattle.bser_types.proofs.Naming.{HeadAsked}
use Rattle.bser_types.proofs.NodeKinds.{is_object, kind_tells}
use Rattle.bser_types.proofs.Looks.{Tells, SeenAsked, known_answers, known_refused, no_value, stands_seen}

-- ---- what is seen tells objects from the others

abbrev object_tree : Tree → Bool
object_tree (object es) = true
object_tree _ = false

-- what is seen off these bytes by this look, whatever follows them
record Sight (look : Reader Seen) (u : Tree) (b : List ℕ) : Type 0 where
  shown : Seen
  left : List ℕ → List ℕ
  sees : (x : List ℕ) → look (b ++ x) ≡ reads shown (left x)
  pairs : is_pairs shown ≡ object_tree u

-- a first byte that is such a tag
abbrev starts : (ℕ → Reader Seen) → Reader Seen
starts look b = and_then look (next b)

at_tag : (look : ℕ → Reader Seen) (t : ℕ) (u : Tree) (b rest : List ℕ) → b ≡ t ∷ rest → ((y : List ℕ) → look t y ≡ reads (tag t) y) → is_pairs (tag t) ≡ object_tree u → Sight (starts look) u b
at_tag look t u b rest e is p = record { shown = tag t; left = λ x. rest ++ x; sees = λ x. ap (λ l. starts look (l ++ x)) e ∙ is (rest ++ x); pairs = p }

int_sight : (skips : Bool) (s : IntSize) (v : ℤ) (b : List ℕ) → b ≡ int_bytes s v → Sight (starts (value_tag skips)) (integer v) b
int_sight skips int8 v b e = at_tag (value_tag skips) 0x03 (integer v) b _ e (λ y. refl) refl
int_sight skips int16 v b e = at_tag (value_tag skips) 0x04 (integer v) b _ e (λ y. refl) refl
int_sight skips int32 v b e = at_tag (value_tag skips) 0x05 (integer v) b _ e (λ y. refl) refl
int_sight skips int64 v b e = at_tag (value_tag skips) 0x06 (integer v) b _ e (λ y. refl) refl

node_sight : (skips : Bool) (n : ℕ) (t : Tree) (b : List ℕ) → Spells n t b → Sight (starts (value_tag skips)) (expand t) b
node_sight skips n null b h = at_tag (value_tag skips) 0x0a null b [] h (λ y. refl) refl
node_sight skips n (boolean true) b h = at_tag (value_tag skips) 0x08 (boolean true) b [] h (λ y. refl) refl
node_sight skips n (boolean false) b h = at_tag (value_tag skips) 0x09 (boolean false) b [] h (λ y. refl) refl
node_sight skips n (integer v) b h = int_sight skips h.size v b h.spelled
node_sight skips n (real v) b h = at_tag (value_tag skips) 0x07 (real v) b _ h.1 (λ y. refl) refl
node_sight skips n (bytes v) b h = at_tag (value_tag skips) 0x02 (bytes v) b h.rest (h.whole ∙ ap (λ l. l ++ h.rest) h.first) (λ y. refl) refl
node_sight skips n (text v) b h = at_tag (value_tag skips) 0x0d (text v) b h.rest (h.whole ∙ ap (λ l. l ++ h.rest) h.first) (λ y. refl) refl
node_sight skips zero (array ts) b h = absurd h
node_sight skips zero (object es) b h = absurd h
node_sight skips zero (template ks rs) b h = absurd h
node_sight skips (suc zero) (template ks rs) b h = absurd h
node_sight skips (suc n) (array ts) b h = at_tag (value_tag skips) 0x00 _ b h.rest (h.whole ∙ ap (λ l. l ++ h.rest) h.first) (λ y. refl) refl
node_sight skips (suc n) (object es) b h = at_tag (value_tag skips) 0x01 _ b h.rest (h.whole ∙ ap (λ l. l ++ h.rest) h.first) (λ y. refl) refl
node_sight skips (suc (suc n)) (template ks rs) b h = let k = h.1 in at_tag (value_tag skips) 0x0b _ b k.rest (k.whole ∙ ap (λ l. l ++ k.rest) k.first) (λ y. refl) refl

key_not : (s : List ℕ) → false ≡ object_tree (key_tree s)
key_not s = go (is_utf8 s)
  where
    go : (b : Bool) → false ≡ object_tree (cond b (text s) (bytes s))
    go true = refl
    go false = refl

key_sight : (s b : List ℕ) → SpellsString s b → Sight (starts key_tag) (key_tree s) b
key_sight s b (inl h) = at_tag key_tag 0x02 (key_tree s) b h.rest (h.whole ∙ ap (λ l. l ++ h.rest) h.first) (λ y. refl) (key_not s)
key_sight s b (inr h) = at_tag key_tag 0x0d (key_tree s) b h.rest (h.whole ∙ ap (λ l. l ++ h.rest) h.first) (λ y. refl) (key_not s)

-- of an equal tree
as_tree : (look : Reader Seen) (u v : Tree) (b : List ℕ) → v ≡ u → Sight look u b → Sight look v b
as_tree look u v b e s = record { shown = s.shown; left = s.left; sees = s.sees; pairs = s.pairs ∙ ap object_tree (sym e) }

sight : (o n : ℕ) (d : Due) (u : Tree) (b : List ℕ) → Fills n d u b → Sight (seen o d) u b
sight o n nothing_due u b f = absurd f
sight o n node_due u b f = as_tree (seen o node_due) (expand f.tree) u b f.stands (node_sight false n f.tree b f.spelled)
sight o n key_due u b f = as_tree (seen o key_due) (key_tree f.key) u b f.stands (key_sight f.key b f.spelled)
sight o n field_due u b (inl f) = as_tree (seen o field_due) null u b f.0 (at_tag (value_tag true) 0x0c null b [] f.1 (λ y. refl) refl)
sight o n field_due u b (inr f) = as_tree (seen o field_due) (expand f.tree) u b f.stands (node_sight true n f.tree b f.spelled)
sight o n (name_due s) u b f = as_tree (seen o (name_due s)) (key_tree s) u b f.0 (record { shown = name s; left = λ x. b ++ x; sees = λ x. refl; pairs = key_not s })
sight o n (row_due ks) u b f = as_tree (seen o (row_due ks)) _ u b f.stands (record { shown = row ks; left = λ x. b ++ x; sees = λ x. refl; pairs = refl })

-- ---- the kind that was seen tells

other_kind : (k : Node) → (k ≡ kinds.Object → ⊥) → is_object (Some k) ≡ false
other_kind kinds.Object other = absurd (other refl)
other_kind _ other = refl

-- the kind that was seen tells whether an object is due
object_told : (s mid : State) (k : Node) → (sees : SeesNode s mid k) → Tells s mid k sees (λ u. object_tree u ≡ is_object (Some k))
object_told s mid k sees u taken rest more filled same =
    let g = sight s.opened s.levels s.due u taken filled in
    let is : g.shown ≡ sees.seen = stands_seen s mid.source sees.seen g.shown (taken ++ rest) (g.left rest) more sees.stands (g.sees rest) same in
    sym g.pairs ∙ ap is_pairs is ∙ (kind_tells s.due sees.seen k sees.kind).1

-- ---- the two ways

by_object : (O T : Meaning) (u : Tree) → object_tree u ≡ true → reads_object_or O T u ≡ O u
by_object O T null is = absurd cc
by_object O T (boolean v) is = absurd cc
by_object O T (integer v) is = absurd cc
by_object O T (real r) is = absurd cc
by_object O T (bytes s) is = absurd cc
by_object O T (text s) is = absurd cc
by_object O T (array ts) is = absurd cc
by_object O T (object es) is = refl
by_object O T (template ks rs) is = absurd cc

by_other : (O T : Meaning) (u : Tree) → object_tree u ≡ false → reads_object_or O T u ≡ T u
by_other O T null is = refl
by_other O T (boolean v) is = refl
by_other O T (integer v) is = refl
by_other O T (real r) is = refl
by_other O T (bytes s) is = refl
by_other O T (text s) is = refl
by_other O T (array ts) is = refl
by_other O T (object es) is = absurd cc
by_other O T (template ks rs) is = refl

-- an object was read by the first type
pub object_answers : {A B : Type 0} (O T : Meaning) (holds_in : A → Content → Type 0) (holds_out : B → Content → Type 0) (s mid t : State) (v : A) (w : B) → SeesNode s mid kinds.Object → ((c : Content) → holds_in v c → holds_out w c)
    → Answers O holds_in mid t v → Answers (reads_object_or O T) holds_out s t w
object_answers O T holds_in holds_out s mid t v w sees holds a =
    known_answers O (reads_object_or O T) holds_in holds_out s mid t kinds.Object v w (λ u. object_tree u ≡ true) sees (object_told s mid kinds.Object sees)
    (λ u c is read held. (c, by_object O T u is ∙ read, holds c held)) a

-- anything else was read by the second type
pub other_answers : {A B : Type 0} (O T : Meaning) (holds_in : A → Content → Type 0) (holds_out : B → Content → Type 0) (s mid t : State) (k : Node) (v : A) (w : B) → SeesNode s mid k → (k ≡ kinds.Object → ⊥) → ((c : Content) → holds_in v c → holds_out w c)
    → Answers T holds_in mid t v → Answers (reads_object_or O T) holds_out s t w
other_answers O T holds_in holds_out s mid t k v w sees other holds a =
    known_answers T (reads_object_or O T) holds_in holds_out s mid t k v w (λ u. object_tree u ≡ is_object (Some k)) sees (object_told s mid k sees)
    (λ u c is read held. (c, by_other O T u (is ∙ other_kind k other) ∙ read, holds c held)) a

-- what was seen of an object, and what of anything else
pub object_seen : (s mid : State) → (sees : SeesNode s mid kinds.Object) → is_pairs sees.seen ≡ true
object_seen s mid sees = (kind_tells s.due sees.seen kinds.Object sees.kind).1

pub other_seen : (s mid : State) (k : Node) → (sees : SeesNode s mid k) → (k ≡ kinds.Object → ⊥) → is_pairs sees.seen ≡ false
other_seen s mid k sees other = (kind_tells s.due sees.seen k sees.kind).1 ∙ other_kind k other

-- the first type refused an object
pub object_refused : (O T : Meaning) (tells : Option (Asking O)) (asks : Option (Asking (reads_object_or O T))) (needs : Needs) (s mid z : State) (e : Error) → (sees : SeesNode s mid kinds.Object) → SeenAsked asks tells s sees.seen → Refuses O tells needs e mid z
    → Refuses (reads_object_or O T) asks needs e s z
object_refused O T tells asks needs s mid z e sees asked u =
    known_refused needs O (reads_object_or O T) tells asks s mid z kinds.Object e (λ t. object_tree t ≡ true) sees (object_told s mid kinds.Object sees)
    (λ t c is read. (c, sym (by_object O T t is) ∙ read)) asked u

-- the second type refused anything else
pub other_refused : (O T : Meaning) (tells : Option (Asking T)) (asks : Option (Asking (reads_object_or O T))) (needs : Needs) (s mid z : State) (k : Node) (e : Error) → (sees : SeesNode s mid k) → (k ≡ kinds.Object → ⊥) → SeenAsked asks tells s sees.seen
    → Refuses T tells needs e mid z → Refuses (reads_object_or O T) asks needs e s z
other_refused O T tells asks needs s mid z k e sees other asked u =
    known_refused needs T (reads_object_or O T) tells asks s mid z k e (λ t. object_tree t ≡ is_object (Some k)) sees (object_told s mid k sees)
    (λ t c is read. (c, sym (by_other O T t (is ∙ other_kind k other)) ∙ read)) asked u

-- where nothing is seen, neither type reads
pub neither_seen : (O T : Meaning) (asks : Option (Asking (reads_object_or O T))) (needs : Needs) (s z : State) (e : Error) → HeadAsked asks s (seen s.opened s.due) → RefusesFront bare (BeginsNode s.due) (NamesBy bare (seen s.opened s.due) e s.source) e s.source z.source
    → Refuses (reads_object_or O T) asks needs e s z
neither_seen O T asks needs s z e asked u = no_value needs (reads_object_or O T) asks s z e asked u

-- ---- what is passed over

-- what is read as the one or the other is passed over, where both types pass over what they read
pub object_or_passes : (A B : Asks) (O T : Meaning) → Passes A O → Passes B T → Passes (asks_object_or A B) (reads_object_or O T)
object_or_passes A B O T first second o n d u c b x f r = at (object_tree u) refl
  where
    at : (k : Bool) → object_tree u ≡ k → asks_object_or A B o n d (b ++ x) ≡ reads tt x
    at true is =
        let s = sight o n d u b f in
        way is_pairs (A o n d) (B o n d) (seen o d (b ++ x)) s.shown (s.left x) (b ++ x) true (s.sees x) (s.pairs ∙ is) ∙ first o n d u c b x f (sym (by_object O T u is) ∙ r)
    at false is =
        let s = sight o n d u b f in
        way is_pairs (A o n d) (B o n d) (seen o d (b ++ x)) s.shown (s.left x) (b ++ x) false (s.sees x) (s.pairs ∙ is) ∙ second o n d u c b x f (sym (by_other O T u is) ∙ r)
