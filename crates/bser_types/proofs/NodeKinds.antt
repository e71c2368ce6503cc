-- The kind that was seen tells arrays and objects from the others.
use Rattle.std.proofs.Common.{◌≡◌, ◌≤◌, ℕ, zero, suc, Bool, true, false, cond, nat_eq, List, Option, Some, None, refl, sym, ap, subst, ◌∙◌, arith, inl, inr}
use Rattle.std.proofs.lemmas.Bool.{eqb-true, ne_eqb}
use Rattle.bser_format.specs.Expected.{Due, nothing_due, node_due, key_due, field_due, name_due, row_due}
use Rattle.bser_format.specs.DueReaders.{Seen, tag, name, row, is_key_tag}
use Rattle.bser_format.specs.Asks.{is_sequence}
use Rattle.bser_deserializer.specs.Nodes.{node_at, tag_node}
use Rattle.bser_deserializer.specs.declared.node.Node.{Node}
use Rattle.bser_deserializer.specs.declared.node.Node.TheVariants as kinds
use Rattle.bser_deserializer.proofs.Tags.{key_tag_told}
use Rattle.bser_types.specs.Choices.{is_pairs}

abbrev pub is_array : Option Node → Bool
is_array (Some kinds.Array) = true
is_array _ = false

abbrev pub is_object : Option Node → Bool
is_object (Some kinds.Object) = true
is_object _ = false

-- what was seen is an array or an object where this kind is one
abbrev pub Tell : Seen → Option Node → Type 0
Tell v k = (is_sequence v ≡ is_array k) × (is_pairs v ≡ is_object k)

beyond : (t : ℕ) → 14 ≤ t → Tell (tag t) None
beyond t le = (rw (ne_eqb t 0 (λ e. omega (arith, le, e)), ne_eqb t 11 (λ e. omega (arith, le, e))) refl, ne_eqb t 1 (λ e. omega (arith, le, e)))

tag_tells : (t : ℕ) → Tell (tag t) (tag_node t)
tag_tells zero = (refl, refl)
tag_tells (suc zero) = (refl, refl)
tag_tells (suc (suc zero)) = (refl, refl)
tag_tells (suc (suc (suc zero))) = (refl, refl)
tag_tells (suc (suc (suc (suc zero)))) = (refl, refl)
tag_tells (suc (suc (suc (suc (suc zero))))) = (refl, refl)
tag_tells (suc (suc (suc (suc (suc (suc zero)))))) = (refl, refl)
tag_tells (suc (suc (suc (suc (suc (suc (suc zero))))))) = (refl, refl)
tag_tells (suc (suc (suc (suc (suc (suc (suc (suc zero)))))))) = (refl, refl)
tag_tells (suc (suc (suc (suc (suc (suc (suc (suc (suc zero))))))))) = (refl, refl)
tag_tells (suc (suc (suc (suc (suc (suc (suc (suc (suc (suc zero)))))))))) = (refl, refl)
tag_tells (suc (suc (suc (suc (suc (suc (suc (suc (suc (suc (suc zero))))))))))) = (refl, refl)
tag_tells (suc (suc (suc (suc (suc (suc (suc (suc (suc (suc (suc (suc zero)))))))))))) = (refl, refl)
tag_tells (suc (suc (suc (suc (suc (suc (suc (suc (suc (suc (suc (suc (suc zero))))))))))))) = (refl, refl)
tag_tells (suc (suc (suc (suc (suc (suc (suc (suc (suc (suc (suc (suc (suc (suc t)))))))))))))) = beyond (suc (suc (suc (suc (suc (suc (suc (suc (suc (suc (suc (suc (suc (suc t)))))))))))))) (omega arith)

key_tells : (t : ℕ) (k : Node) → node_at key_due (tag t) ≡ Some k → Tell (tag t) (Some k)
key_tells t k e = at (is_key_tag t) refl e
  where
    at : (c : Bool) → is_key_tag t ≡ c → cond c (Some kinds.Key) None ≡ Some k → Tell (tag t) (Some k)
    at true q h = elim (key_tag_told t q) [ inl p ↦ rw p (ap is_array h, ap is_object h) | inr p ↦ rw p (ap is_array h, ap is_object h) ]
    at false q h = absurd cc

field_tells : (t : ℕ) (k : Node) → node_at field_due (tag t) ≡ Some k → Tell (tag t) (Some k)
field_tells t k e = at (nat_eq t 0x0c) refl e
  where
    at : (c : Bool) → nat_eq t 0x0c ≡ c → cond c (Some kinds.Null) (tag_node t) ≡ Some k → Tell (tag t) (Some k)
    at true q h = rw (eqb-true t 0x0c q) (ap is_array h, ap is_object h)
    at false q h = subst (Tell (tag t)) h (tag_tells t)

name_kind : (d : Due) (n : List ℕ) → node_at d (name n) ≡ Some kinds.Key
name_kind nothing_due n = refl
name_kind node_due n = refl
name_kind key_due n = refl
name_kind field_due n = refl
name_kind (name_due m) n = refl
name_kind (row_due ks) n = refl

row_kind : (d : Due) (ks : List (List ℕ)) → node_at d (row ks) ≡ Some kinds.Object
row_kind nothing_due ks = refl
row_kind node_due ks = refl
row_kind key_due ks = refl
row_kind field_due ks = refl
row_kind (name_due m) ks = refl
row_kind (row_due ls) ks = refl

pub kind_tells : (d : Due) (v : Seen) (k : Node) → node_at d v ≡ Some k → Tell v (Some k)
kind_tells nothing_due (tag t) k e = absurd cc
kind_tells node_due (tag t) k e = subst (Tell (tag t)) e (tag_tells t)
kind_tells key_due (tag t) k e = key_tells t k e
kind_tells field_due (tag t) k e = field_tells t k e
kind_tells (name_due n) (tag t) k e = absurd cc
kind_tells (row_due ks) (tag t) k e = absurd cc
kind_tells d (name n) k e = subst (Tell (name n)) (sym (name_kind d n) ∙ e) (refl, refl)
kind_tells d (row ks) k e = subst (Tell (row ks)) (sym (row_kind d ks) ∙ e) (refl, refl)
