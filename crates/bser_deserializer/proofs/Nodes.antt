-- The kind of what is due.
use Rattle.std.proofs.Common.{◌≡◌, ℕ, zero, suc, ◌≤◌, Bool, true, false, cond, List, [], ◌∷◌, ◌++◌, Option, Some, None, refl, sym, ap, subst, ◌∙◌, arith, nat_eq, nat_lt, ◌||◌, ◌&&◌}
use Rattle.std.specs.Prelude.{is_some}
use Rattle.std.proofs.lemmas.Bool.{eqb-true, le-ltb, ne_eqb}
use Rattle.bser_format.specs.Expected.{Due, nothing_due, node_due, key_due, field_due, name_due, row_due}
use Rattle.bser_format.specs.declared.errors.Error.{Error}
use Rattle.bser_format.specs.declared.errors.Error.TheVariants.{DeInvalidStartByte}
use Rattle.bser_format.specs.declared.errors.Kind.TheVariants.{NextItem, MapKey}
use Rattle.bser_format.specs.Named as named
use Rattle.bser_format.specs.Named.{refuses, reads, and_then, eof, front}
use Rattle.bser_format.specs.DueReaders.{Seen, tag, name, row, seen, stray_at, nothing_here, is_tag, is_key_tag}
use Rattle.bser_format.specs.Clauses.{after_a_refusal}
use Rattle.bser_format.proofs.Steps as steps
use Rattle.bser_source.specs.Window.{Window, Peeks, closed, consumed}
use Rattle.bser_bunser.specs.Refusal.{Fails}
use Rattle.bser_deserializer.specs.declared.node.Node.{Node}
use Rattle.bser_deserializer.specs.declared.node.Node.TheVariants as kinds
use Rattle.bser_deserializer.specs.declared.due.Due as code
use Rattle.bser_deserializer.specs.declared.due.Due.TheVariants as due
use Rattle.bser_deserializer.specs.Dues.{IsValueDue, IsTagged, due_of, name_at}
use Rattle.bser_deserializer.specs.State.{State, past}
use Rattle.bser_deserializer.specs.Nodes.{node_at, tag_node, field_node, BeginsNode, SeesNode, Stands, TookNull}
use Rattle.bser_deserializer.specs.Reading.{RefusesFront, NamesBy, bare}
use Rattle.bser_deserializer.proofs.Clean.{clean_seen}
use Rattle.bser_deserializer.specs.View.{is_null_at}
use Rattle.bser_deserializer.proofs.Tags.{front_refused, stray_fails, grown_left, nothing_kind, complained_fails, complained_names}
use Rattle.bser_deserializer.proofs.Scalars.{tag_took, past_seen, null_filled}

is_null : Option Node → Bool
is_null (Some kinds.Null) = true
is_null _ = false

beyond_tags : (t : ℕ) → 14 ≤ t → (is_tag false t ≡ false) × (nat_eq t 0x0a ≡ false)
beyond_tags t le = (rw (le-ltb t 12 (omega (arith, le)), ne_eqb t 13 (λ e. omega (arith, le, e))) refl, ne_eqb t 10 (λ e. omega (arith, le, e)))

-- the tags that have a kind, and the one of null
tag_told : (t : ℕ) → (is_tag false t ≡ is_some (tag_node t)) × (nat_eq t 0x0a ≡ is_null (tag_node t))
unfolding is_null
tag_told zero = (refl, refl)
tag_told (suc zero) = (refl, refl)
tag_told (suc (suc zero)) = (refl, refl)
tag_told (suc (suc (suc zero))) = (refl, refl)
tag_told (suc (suc (suc (suc zero)))) = (refl, refl)
tag_told (suc (suc (suc (suc (suc zero))))) = (refl, refl)
tag_told (suc (suc (suc (suc (suc (suc zero)))))) = (refl, refl)
tag_told (suc (suc (suc (suc (suc (suc (suc zero))))))) = (refl, refl)
tag_told (suc (suc (suc (suc (suc (suc (suc (suc zero)))))))) = (refl, refl)
tag_told (suc (suc (suc (suc (suc (suc (suc (suc (suc zero))))))))) = (refl, refl)
tag_told (suc (suc (suc (suc (suc (suc (suc (suc (suc (suc zero)))))))))) = (refl, refl)
tag_told (suc (suc (suc (suc (suc (suc (suc (suc (suc (suc (suc zero))))))))))) = (refl, refl)
tag_told (suc (suc (suc (suc (suc (suc (suc (suc (suc (suc (suc (suc zero)))))))))))) = (refl, refl)
tag_told (suc (suc (suc (suc (suc (suc (suc (suc (suc (suc (suc (suc (suc zero))))))))))))) = (refl, refl)
tag_told (suc (suc (suc (suc (suc (suc (suc (suc (suc (suc (suc (suc (suc (suc t)))))))))))))) =
    beyond_tags (suc (suc (suc (suc (suc (suc (suc (suc (suc (suc (suc (suc (suc (suc t)))))))))))))) (omega arith)

node_tag : (t : ℕ) (k : Node) → tag_node t ≡ Some k → is_tag false t ≡ true
node_tag t k e = (tag_told t).0 ∙ ap is_some e

no_node_tag : (t : ℕ) → tag_node t ≡ None → is_tag false t ≡ false
no_node_tag t e = (tag_told t).0 ∙ ap is_some e

pub null_node : (t : ℕ) → tag_node t ≡ Some kinds.Null → nat_eq t 0x0a ≡ true
unfolding is_null
null_node t e = (tag_told t).1 ∙ ap is_null e

-- a tag of a value may be a field's
wider : (a b c : Bool) → a || b || (false && c) ≡ true → a || b || (true && c) ≡ true
wider true b c e = refl
wider false true c e = refl
wider false false c e = absurd cc

field_tag : (t : ℕ) (k : Node) → field_node t ≡ Some k → is_tag true t ≡ true
field_tag t k e = go (nat_eq t 0x0c) refl e
  where
    go : (c : Bool) → nat_eq t 0x0c ≡ c → cond c (Some kinds.Null) (tag_node t) ≡ Some k → is_tag true t ≡ true
    go true q h = rw (eqb-true t 0x0c q) refl
    go false q h = wider (nat_lt t 0x0c) (nat_eq t 0x0d) (nat_eq t 0x0c) (node_tag t k h)

no_field_tag : (t : ℕ) → field_node t ≡ None → is_tag true t ≡ false
no_field_tag t e = go (nat_eq t 0x0c) refl e
  where
    go : (c : Bool) → nat_eq t 0x0c ≡ c → cond c (Some kinds.Null) (tag_node t) ≡ None → is_tag true t ≡ false
    go true q h = absurd cc
    go false q h = (let other = no_node_tag t h in rw q other)

key_tag : (c : Bool) (k : Node) → cond c (Some kinds.Key) None ≡ Some k → c ≡ true
key_tag true k e = refl
key_tag false k e = absurd cc

no_key_tag : (c : Bool) → ◌≡◌ {A = Option Node} (cond c (Some kinds.Key) None) None → c ≡ false
no_key_tag true e = absurd cc
no_key_tag false e = refl

tag_passes : (c : Bool) (t : ℕ) (e : Error) (x : List ℕ) → c ≡ true → cond c (named.give (tag t)) (named.refuse e) x ≡ reads (tag t) x
tag_passes true t e x is = refl
tag_passes false t e x is = absurd cc

-- a tag that may stand there is seen
pub node_passes : (o : ℕ) (d : Due) (text : List ℕ) → BeginsNode d text → (v : Seen) × steps.Passes (seen o d) v text
node_passes o nothing_due text h = absurd h
node_passes o node_due text (t, k, e, is) =
    (tag t, λ x. ap (λ l. seen o node_due (l ++ x)) e ∙ tag_passes (is_tag false t) t (DeInvalidStartByte NextItem t) x (node_tag t k is))
node_passes o key_due text (t, k, e, is) =
    (tag t, λ x. ap (λ l. seen o key_due (l ++ x)) e ∙ tag_passes (is_key_tag t) t (DeInvalidStartByte MapKey t) x (key_tag (is_key_tag t) k is))
node_passes o field_due text (t, k, e, is) =
    (tag t, λ x. ap (λ l. seen o field_due (l ++ x)) e ∙ tag_passes (is_tag true t) t (DeInvalidStartByte NextItem t) x (field_tag t k is))
node_passes o (name_due k) text h = (name k, λ x. ap (λ l. reads (name k) (l ++ x)) h)
node_passes o (row_due ks) text h = (row ks, λ x. ap (λ l. reads (row ks) (l ++ x)) h)

-- what stands there is refused by its name
pub node_refused : (e : Error) (s : State) (b : Window) → Fails e s.source b → NamesBy bare (seen s.opened s.due) e s.source
    → RefusesFront bare (BeginsNode s.due) (NamesBy bare (seen s.opened s.due) e s.source) e s.source b
node_refused e s b fails said =
    front_refused bare (seen s.opened s.due) (seen s.opened s.due) (BeginsNode s.due) e s.source b (λ f x p. p) (λ x h. clean_seen s.opened s.due x h)
    (node_passes s.opened s.due) fails said

-- a tag that may not stand there is refused
no_node_seen : (o : ℕ) (d : Due) (t : ℕ) (y : List ℕ) → IsTagged d → node_at d (tag t) ≡ None → seen o d (t ∷ y) ≡ refuses (stray_at d t)
no_node_seen o nothing_due t y is none = absurd is
no_node_seen o node_due t y is none = (let other = no_node_tag t none in rw other refl)
no_node_seen o key_due t y is none = (let other = no_key_tag (is_key_tag t) none in rw other refl)
no_node_seen o field_due t y is none = (let other = no_field_tag t none in rw other refl)
no_node_seen o (name_due k) t y is none = absurd is
no_node_seen o (row_due ks) t y is none = absurd is

pub no_node_refused : (e : Error) (x : ℕ) (s : State) (m b : Window) → IsTagged s.due → Peeks s.source m x → node_at s.due (tag x) ≡ None
    → e ≡ stray_at s.due x → b ≡ closed m
    → RefusesFront bare (BeginsNode s.due) (NamesBy bare (seen s.opened s.due) e s.source) e s.source b
no_node_refused e x s m b is peeks none reason same =
    subst (λ z. RefusesFront bare (BeginsNode s.due) (NamesBy bare (seen s.opened s.due) z s.source) z s.source b) (sym reason)
    (node_refused (stray_at s.due x) s b (stray_fails s.due x s.source m b peeks same)
    (grown_left bare (seen s.opened s.due) (stray_at s.due x) 1 s.source m x (λ y. no_node_seen s.opened s.due x y is none) peeks.filled.grown peeks.next))

-- nothing is due
pub nothing_refused : (e : Error) (s : State) (b : Window) → s.due ≡ nothing_due → e ≡ after_a_refusal s.source.failed (nothing_here s.opened)
    → b ≡ closed s.source
    → RefusesFront bare (BeginsNode s.due) (NamesBy bare (seen s.opened s.due) e s.source) e s.source b
nothing_refused e s b none reason same =
    node_refused e s b (complained_fails (nothing_here s.opened) e s.source b (nothing_kind s.opened) reason same)
    (complained_names bare (seen s.opened s.due) (nothing_here s.opened) e s.source reason (λ x. ap (λ d. seen s.opened d x) none))

-- what has no tag and is no row is a key
pub key_here : (ks : List (List ℕ)) (place : ℕ) (d : code.Due) → (IsTagged (due_of ks place d) → ⊥) → (due_of ks place d ≡ nothing_due → ⊥)
    → (d ≡ due.Row → ⊥)
    → (k : List ℕ) × (due_of ks place d ≡ name_due k)
key_here ks place due.Nothing untagged some other = absurd (some refl)
key_here ks place due.Node untagged some other = absurd (untagged tt)
key_here ks place due.Key untagged some other = absurd (untagged tt)
key_here ks place due.Field untagged some other = absurd (untagged tt)
key_here ks place due.Name untagged some other = by_place place ks some
  where
    by_place : (place : ℕ) (ks : List (List ℕ)) → (name_at place ks ≡ nothing_due → ⊥) → (k : List ℕ) × (name_at place ks ≡ name_due k)
    by_place place [] some = absurd (some refl)
    by_place zero (k ∷ ks) some = (k, refl)
    by_place (suc place) (k ∷ ks) some = by_place place ks some
key_here ks place due.Row untagged some other = absurd (other refl)

-- the key of a row's field, or a row, is seen without a byte
pub key_seen : (s : State) (k : List ℕ) → s.due ≡ name_due k → s.source.failed ≡ false → SeesNode s s kinds.Key
key_seen s k is works = record { seen = name k; stands = (is, works, refl); kind = ap (λ d. node_at d (name k)) is; state = refl }

pub row_seen : (s : State) (ks : List (List ℕ)) → s.due ≡ row_due ks → s.source.failed ≡ false → SeesNode s s kinds.Object
row_seen s ks is works = record { seen = row ks; stands = (is, works, refl); kind = ap (λ d. node_at d (row ks)) is; state = refl }

-- a null that was seen is taken
null_tagged : (d : Due) (x : ℕ) → IsTagged d → node_at d (tag x) ≡ Some kinds.Null → IsValueDue d × (is_null_at d x ≡ true)
null_tagged nothing_due x is e = absurd is
null_tagged node_due x is e = (tt, null_node x e)
null_tagged key_due x is e = absurd (go (is_key_tag x) e)
  where
    go : (c : Bool) → cond c (Some kinds.Key) None ≡ Some kinds.Null → ⊥
    go true h = cc
    go false h = cc
null_tagged field_due x is e = (tt, go (nat_eq x 0x0c) refl e)
  where
    go : (c : Bool) → nat_eq x 0x0c ≡ c → cond c (Some kinds.Null) (tag_node x) ≡ Some kinds.Null → nat_eq x 0x0a || nat_eq x 0x0c ≡ true
    go true q h = rw (eqb-true x 0x0c q) refl
    go false q h = (let is = null_node x h in rw is refl)
null_tagged (name_due k) x is e = absurd is
null_tagged (row_due ks) x is e = absurd is

null_taken : (s m t : State) (v : Seen) → Stands s m.source v → node_at s.due v ≡ Some kinds.Null → m ≡ record s { source = m.source }
    → t.source ≡ consumed 1 m.source → t ≡ past m t.source → TookNull s t
null_taken s m t (tag x) stands kind seen same state =
    let is = null_tagged s.due x stands.0 kind in
    record {
      text = x ∷ [];
      filled = null_filled s.levels s.due x is.0 is.1;
      took = tag_took s.source m.source t.source x stands.1 same;
      state = state ∙ past_seen s m t.source seen;
    }
null_taken s m t (name k) stands kind seen same state = absurd (let no = sym (ap (λ d. node_at d (name k)) stands.0) ∙ kind in cc)
null_taken s m t (row ks) stands kind seen same state = absurd (let no = sym (ap (λ d. node_at d (row ks)) stands.0) ∙ kind in cc)

pub null_read : (s m t : State) → SeesNode s m kinds.Null → t.source ≡ consumed 1 m.source → t ≡ past m t.source → TookNull s t
null_read s m t sees same state = null_taken s m t sees.seen sees.stands sees.kind sees.state same state
