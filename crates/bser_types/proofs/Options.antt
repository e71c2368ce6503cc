-- A value that may be null.
use Rattle.std.proofs.Common.{◌≡◌, ℕ, Bool, true, false, Option, Some, None, nat_eq, refl, sym, ap, subst, ◌∙◌}
use Rattle.std.specs.Prelude.{option_map}
use Rattle.std.proofs.lemmas.Bool.{eqb-true}
use Rattle.bser_format.specs.Tree.{Tree, null, boolean, integer, real, bytes, text, array, object, template}
use Rattle.bser_format.specs.Content.{Content, just, Meaning}
use Rattle.bser_format.specs.Expected.{Due, nothing_due, node_due, key_due, field_due, name_due, row_due}
use Rattle.bser_format.specs.ReadsHolders.{reads_option}
use Rattle.bser_format.specs.declared.errors.Error.{Error}
use Rattle.bser_format.specs.DueReaders.{Seen, tag, name, row, seen}
use Rattle.bser_format.specs.Asks.{is_null, by_sight, asks_unit}
use Rattle.bser_format.proofs.Sights.{null_tree, way}
use Rattle.bser_deserializer.specs.State.{State}
use Rattle.bser_deserializer.specs.Nodes.{node_at, tag_node, key_node, field_node, BeginsNode, IsOther}
use Rattle.bser_deserializer.specs.Reading.{Answers, Asking, RefusesFront, Refuses, NamesBy, bare, Needs}
use Rattle.bser_deserializer.specs.Holds.{HoldsOption}
use Rattle.bser_deserializer.specs.declared.node.Node.{Node}
use Rattle.bser_deserializer.specs.declared.node.Node.TheVariants as kinds
use Rattle.bser_types.specs.Askings.{asking_option}
use Rattle.bser_types.proofs.Naming.{HeadAsked}
use Rattle.bser_types.proofs.Looks.{SeenAsked, look_answers, look_refused, no_value}

-- ---- what is not null is read by the type inside

some_option : (means : Meaning) (u : Tree) → null_tree u ≡ false → reads_option means u ≡ option_map just (means u)
some_option means null some = absurd cc
some_option means (boolean v) some = refl
some_option means (integer v) some = refl
some_option means (real r) some = refl
some_option means (bytes s) some = refl
some_option means (text s) some = refl
some_option means (array ts) some = refl
some_option means (object es) some = refl
some_option means (template ks rs) some = refl

inner_of : (o : Option Content) (c : Content) → option_map just o ≡ Some c → (d : Content) × (o ≡ Some d)
inner_of None c e = absurd cc
inner_of (Some d) c e = (d, refl)

-- ---- where another kind of value stands

by_null : (f : ℕ → Option Node) (t : ℕ) (k : Node) → f t ≡ Some k → (f 0x0a ≡ Some k → ⊥) → (f 0x0c ≡ Some k → ⊥) → is_null (tag t) ≡ false
by_null f t k e ten twelve = go (nat_eq t 0x0a) (nat_eq t 0x0c) refl refl
  where
    go : (a b : Bool) → nat_eq t 0x0a ≡ a → nat_eq t 0x0c ≡ b → is_null (tag t) ≡ false
    go true b p q = absurd (ten (subst (λ y. f y ≡ Some k) (eqb-true t 0x0a p) e))
    go false true p q = absurd (twelve (subst (λ y. f y ≡ Some k) (eqb-true t 0x0c q) e))
    go false false p q = rw (p, q) refl

not_null : (d : Due) (v : Seen) (k : Node) → node_at d v ≡ Some k → (k ≡ kinds.Null → ⊥) → is_null v ≡ false
not_null nothing_due (tag t) k e other = absurd cc
not_null node_due (tag t) k e other = by_null tag_node t k e (λ h. other cc) (λ h. cc)
not_null key_due (tag t) k e other = by_null key_node t k e (λ h. cc) (λ h. cc)
not_null field_due (tag t) k e other = by_null field_node t k e (λ h. other cc) (λ h. other cc)
not_null (name_due n) (tag t) k e other = absurd cc
not_null (row_due ks) (tag t) k e other = absurd cc
not_null d (name n) k e other = refl
not_null d (row ks) k e other = refl

-- ---- what the type inside asks for

option_head : (T : Meaning) (tells : Option (Asking T)) (s : State) → HeadAsked (option_map asking_option tells) s (seen s.opened s.due)
option_head T None s = tt
option_head T (Some a) s = λ x e h. ap (λ z. by_sight is_null (asks_unit s.opened s.levels s.due) (a.asks s.opened s.levels s.due) z x) h

option_seen : (T : Meaning) (tells : Option (Asking T)) (s : State) (v : Seen) → is_null v ≡ false → SeenAsked (option_map asking_option tells) tells s v
option_seen T None s v some = tt
option_seen T (Some a) s v some =
    λ x y e there h. way is_null (asks_unit s.opened s.levels s.due) (a.asks s.opened s.levels s.due) (seen s.opened s.due x) v y x false there some ∙ h

-- ---- an option

-- what the type inside read is something
pub something_answers : {A : Type 0} (means : Meaning) (holds : A → Content → Type 0) (s mid t : State) (v : A) → IsOther s mid → Answers means holds mid t v → Answers (reads_option means) (HoldsOption holds) s t (Some v)
something_answers means holds s mid t v o a =
    let other = not_null s.due o.sees.seen o.kind o.sees.kind o.other in
    look_answers means (reads_option means) holds (HoldsOption holds) s mid t o.kind v (Some v) o.sees
    (λ u c none sequence read held. (just c, some_option means u (sym none ∙ other) ∙ ap (option_map just) read, (c, refl, held))) a

-- what the type inside refuses is refused
pub something_refused : (needs : Needs) (means : Meaning) (tells : Option (Asking means)) (s mid z : State) (e : Error) → IsOther s mid → Refuses means tells needs e mid z
    → Refuses (reads_option means) (option_map asking_option tells) needs e s z
something_refused needs means tells s mid z e o u =
    let other = not_null s.due o.sees.seen o.kind o.sees.kind o.other in
    look_refused needs means (reads_option means) tells (option_map asking_option tells) s mid z o.kind e o.sees
    (λ t c none sequence read. inner_of (means t) c (sym (some_option means t (sym none ∙ other)) ∙ read)) (option_seen means tells s o.sees.seen other) u

-- where nothing is seen, no option is read
pub nothing_seen : (needs : Needs) (means : Meaning) (tells : Option (Asking means)) (s z : State) (e : Error) → RefusesFront bare (BeginsNode s.due) (NamesBy bare (seen s.opened s.due) e s.source) e s.source z.source
    → Refuses (reads_option means) (option_map asking_option tells) needs e s z
nothing_seen needs means tells s z e u = no_value needs (reads_option means) (option_map asking_option tells) s z e (option_head means tells s) u
