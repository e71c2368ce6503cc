-- Nulls and other values, by the tag that is due.
use Rattle.std.proofs.Common.{◌≡◌, ℕ, Bool, true, false, ◌||◌, [], ◌∷◌, Option, Some, None, refl, subst, ◌∙◌, nat_eq}
use Rattle.std.proofs.lemmas.Bool.{eqb-true}
use Rattle.bser_format.specs.Expected.{Due, nothing_due, node_due, key_due, field_due, name_due, row_due}
use Rattle.bser_format.specs.declared.errors.Error.{Error}
use Rattle.bser_format.specs.DueReaders.{tag, seen, stray_at}
use Rattle.bser_source.specs.Window.{Window, Peeks, closed, consumed}
use Rattle.bser_deserializer.specs.declared.node.Node.{Node}
use Rattle.bser_deserializer.specs.declared.node.Node.TheVariants as kinds
use Rattle.bser_deserializer.specs.Dues.{IsValueDue}
use Rattle.bser_deserializer.specs.Nodes.{node_at, tag_node, field_node, BeginsNode, IsOther, TookNull}
use Rattle.bser_deserializer.specs.Reading.{RefusesFront, NamesBy, bare}
use Rattle.bser_deserializer.specs.State.{State, past, with_source}
use Rattle.bser_deserializer.specs.View.{is_null_at, is_other_kind}
use Rattle.bser_deserializer.proofs.Tags.{tagged_value}
use Rattle.bser_deserializer.proofs.Nodes.{null_node, no_node_refused}
use Rattle.bser_deserializer.proofs.Scalars.{tag_took, null_filled}

-- such a tag has a kind
other_kind : (k : Option Node) → is_other_kind k ≡ true → (n : Node) × (k ≡ Some n) × (n ≡ kinds.Null → ⊥)
other_kind None h = absurd cc
other_kind (Some kinds.Null) h = absurd cc
other_kind (Some kinds.Bool) h = (kinds.Bool, refl, λ e. cc)
other_kind (Some kinds.Integer) h = (kinds.Integer, refl, λ e. cc)
other_kind (Some kinds.Real) h = (kinds.Real, refl, λ e. cc)
other_kind (Some kinds.Bytes) h = (kinds.Bytes, refl, λ e. cc)
other_kind (Some kinds.Text) h = (kinds.Text, refl, λ e. cc)
other_kind (Some kinds.Array) h = (kinds.Array, refl, λ e. cc)
other_kind (Some kinds.Object) h = (kinds.Object, refl, λ e. cc)
other_kind (Some kinds.Key) h = (kinds.Key, refl, λ e. cc)

-- it is the kind of what is due
kind_due : (d : Due) (t : ℕ) → IsValueDue d → is_other_kind (tag_node t) ≡ true → node_at d (tag t) ≡ tag_node t
kind_due nothing_due t is h = absurd is
kind_due node_due t is h = refl
kind_due key_due t is h = absurd is
kind_due field_due t is h = go (nat_eq t 0x0c) refl
  where
    go : (c : Bool) → nat_eq t 0x0c ≡ c → field_node t ≡ tag_node t
    go true e = absurd (let skip : is_other_kind (tag_node 0x0c) ≡ true = subst (λ z. is_other_kind (tag_node z) ≡ true) (eqb-true t 0x0c e) h in cc)
    go false e = rw e refl
kind_due (name_due k) t is h = absurd is
kind_due (row_due ks) t is h = absurd is

-- a value other than null is due
pub other_seen : (t : ℕ) (s : State) (m : Window) → IsValueDue s.due → Peeks s.source m t → is_other_kind (tag_node t) ≡ true → IsOther s (with_source s m)
other_seen t s m is peeks h =
    let k = other_kind (tag_node t) h in
    record {
      kind = k.0;
      sees = record { seen = tag t; stands = (tagged_value s.due is, peeks); kind = kind_due s.due t is h ∙ k.1; state = refl };
      other = k.2;
    }

-- no kind has another tag
no_kind : (t : ℕ) (k : Option Node) → tag_node t ≡ k → nat_eq t 0x0a ≡ false → is_other_kind k ≡ false → k ≡ None
no_kind t None e none other = refl
no_kind t (Some kinds.Null) e none other = absurd (let null = null_node t e in cc)
no_kind t (Some kinds.Bool) e none other = absurd cc
no_kind t (Some kinds.Integer) e none other = absurd cc
no_kind t (Some kinds.Real) e none other = absurd cc
no_kind t (Some kinds.Bytes) e none other = absurd cc
no_kind t (Some kinds.Text) e none other = absurd cc
no_kind t (Some kinds.Array) e none other = absurd cc
no_kind t (Some kinds.Object) e none other = absurd cc
no_kind t (Some kinds.Key) e none other = absurd cc

stray_kind : (d : Due) (t : ℕ) → IsValueDue d → is_other_kind (tag_node t) ≡ false → is_null_at d t ≡ false → node_at d (tag t) ≡ None
stray_kind nothing_due t is other none = absurd is
stray_kind node_due t is other none = no_kind t (tag_node t) refl none other
stray_kind key_due t is other none = absurd is
stray_kind field_due t is other none = go (nat_eq t 0x0a) (nat_eq t 0x0c) refl refl none
  where
    go : (a b : Bool) → nat_eq t 0x0a ≡ a → nat_eq t 0x0c ≡ b → a || b ≡ false → field_node t ≡ None
    go true b p q h = absurd cc
    go false true p q h = absurd cc
    go false false p q h = rw q (no_kind t (tag_node t) refl p other)
stray_kind (name_due k) t is other none = absurd is
stray_kind (row_due ks) t is other none = absurd is

-- a tag that may not stand there
pub stray_refused : (e : Error) (t : ℕ) (s : State) (m b : Window) → IsValueDue s.due → Peeks s.source m t → is_other_kind (tag_node t) ≡ false → is_null_at s.due t ≡ false
    → e ≡ stray_at s.due t → b ≡ closed m → RefusesFront bare (BeginsNode s.due) (NamesBy bare (seen s.opened s.due) e s.source) e s.source b
stray_refused e t s m b is peeks other none reason same =
    no_node_refused e t s m b (tagged_value s.due is) peeks (stray_kind s.due t is other none) reason same

-- a null or a skip was taken
pub null_tag_taken : (t : ℕ) (s u : State) (m : Window) → IsValueDue s.due → Peeks s.source m t → is_null_at s.due t ≡ true → u.source ≡ consumed 1 m → u ≡ past s u.source → TookNull s u
null_tag_taken t s u m is peeks null same state = record {
  text = t ∷ [];
  filled = null_filled s.levels s.due t is null;
  took = tag_took s.source m u.source t peeks same;
  state = state;
}
