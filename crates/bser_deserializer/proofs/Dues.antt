-- What is due, by the place of a row's key.
use Rattle.std.proofs.Common.{◌≡◌, ℕ, zero, suc, ◌<◌, List, [], ◌∷◌, length, ◌≤◌, None, refl, arith}
use Rattle.bser_format.specs.Expected.{nothing_due, name_due}
use Rattle.bser_format.specs.DueReaders.{tag}
use Rattle.bser_deserializer.specs.declared.due.Due as code
use Rattle.bser_deserializer.specs.declared.due.Due.TheVariants as due
use Rattle.bser_deserializer.specs.Dues.{due_of, name_at, IsTagged, IsValueDue}
use Rattle.bser_deserializer.specs.Nodes.{node_at}

no_name_node : (place : ℕ) (ks : List (List ℕ)) (t : ℕ) → None ≡ node_at (name_at place ks) (tag t)
no_name_node place [] t = refl
no_name_node zero (k ∷ ks) t = refl
no_name_node (suc place) (k ∷ ks) t = no_name_node place ks t

-- what has no tag is of no kind by one
pub no_tag_node : (ks : List (List ℕ)) (place : ℕ) (d : code.Due) (t : ℕ) → (d ≡ due.Node → ⊥) → (d ≡ due.Key → ⊥) → (d ≡ due.Field → ⊥) → None ≡ node_at (due_of ks place d) (tag t)
no_tag_node ks place due.Nothing t node key field = refl
no_tag_node ks place due.Node t node key field = absurd (node refl)
no_tag_node ks place due.Key t node key field = absurd (key refl)
no_tag_node ks place due.Field t node key field = absurd (field refl)
no_tag_node ks place due.Name t node key field = no_name_node place ks t
no_tag_node ks place due.Row t node key field = refl

-- past the keys nothing is due
pub past_names : (place : ℕ) (ks : List (List ℕ)) → length ks ≤ place → name_at place ks ≡ nothing_due
past_names place [] le = refl
past_names zero (k ∷ ks) le = absurd (omega (arith, le))
past_names (suc place) (k ∷ ks) le = past_names place ks (omega (arith, le))

-- at a place within the keys a key is due
pub at_name : (place : ℕ) (ks : List (List ℕ)) → place < length ks → (k : List ℕ) × (name_at place ks ≡ name_due k)
at_name place [] lt = absurd (omega (arith, lt))
at_name zero (k ∷ ks) lt = (k, refl)
at_name (suc place) (k ∷ ks) lt = at_name place ks (omega (arith, lt))

name_no_value : (place : ℕ) (ks : List (List ℕ)) → IsValueDue (name_at place ks) → ⊥
name_no_value place [] h = h
name_no_value zero (k ∷ ks) h = h
name_no_value (suc place) (k ∷ ks) h = name_no_value place ks h

-- only a value or a field is a value that is due
pub no_value_due : (ks : List (List ℕ)) (place : ℕ) (d : code.Due) → (d ≡ due.Node → ⊥) → (d ≡ due.Field → ⊥) → IsValueDue (due_of ks place d) → ⊥
no_value_due ks place due.Nothing node field h = h
no_value_due ks place due.Node node field h = node refl
no_value_due ks place due.Key node field h = h
no_value_due ks place due.Field node field h = field refl
no_value_due ks place due.Name node field h = name_no_value place ks h
no_value_due ks place due.Row node field h = h

name_untagged : (place : ℕ) (ks : List (List ℕ)) → IsTagged (name_at place ks) → ⊥
name_untagged place [] h = h
name_untagged zero (k ∷ ks) h = h
name_untagged (suc place) (k ∷ ks) h = name_untagged place ks h

-- what has no tag is no value, key or field
pub untagged : (ks : List (List ℕ)) (place : ℕ) (d : code.Due) → (d ≡ due.Node → ⊥) → (d ≡ due.Key → ⊥) → (d ≡ due.Field → ⊥) → IsTagged (due_of ks place d) → ⊥
untagged ks place due.Nothing node key field h = h
untagged ks place due.Node node key field h = node refl
untagged ks place due.Key node key field h = key refl
untagged ks place due.Field node key field h = field refl
untagged ks place due.Name node key field h = name_untagged place ks h
untagged ks place due.Row node key field h = h
