-- Facts of which there is one proof at most, so that a document's ghost fields give them.
use Rattle.std.proofs.Common.{ℕ, ℤ, List, [], ◌∷◌, Option, ap}
use Rattle.std.specs.Prelude.{FitsSigned}
use Rattle.std.specs.Int.{w64}
use Rattle.std.specs.Ordering.{nat_cmp}
use Rattle.std.specs.Cmp.Lexicographic.{slice_cmp}
use Rattle.std.specs.List.{AllByRecursion, AllByRecursion-prop}
use Rattle.std.specs.List.Sorted.{IsStrictlySortedBy-prop}
use Rattle.std.specs.Coded.{×_prop, Unit-prop, le_prop}
use Rattle.std.proofs.Props.{props}
use Rattle.std.proofs.lemmas.Str.{IsUtf8-had}
use mathlib.Core.Bool.{Bool-set}
pub use mathlib.Core.List.{is_set as List-set}
use mathlib.Core.Logic.{∥∥₁_elim, ∥∥₁_map}
use mathlib.Core.HLevel.{collapsible→set}
pub use native.Mathlib.Nat.{ℕ_set}
use Rattle.bser_format.specs.Compact.{keys}
use Rattle.bser_format.specs.Grammar.{IsTemplate}
use Rattle.bser_format.specs.Tree.{Tree, null, boolean, integer, real, bytes, text, array, object, template, Items, no_items, item, Entries, no_entries, entry, Rows, no_rows, row, rows, Fields, no_fields, skip, field}
use Rattle.bser_format.specs.ValueTree.{IsValueTree, ItemsAreValueTrees, EntriesAreValueTrees}
use Rattle.bser_format.proofs.Same.{same_tree_decides}
use Rattle.bser_events.specs.Events.{Event}
use Rattle.bser_document.specs.declared.document.DocumentNode.{DocumentNode}
use Rattle.bser_document.specs.declared.document.DocumentNode.TheVariants.{Null, Bool, Int, Real, Bytes, Text, Key, Array, Object, Template, Rows as RowsOf, Skip, Close}
use Rattle.bser_document.specs.Nodes.{piece, Within}
use Rattle.bser_deserializer.specs.WholeRows.{HasWholeRows, ItemsHaveWholeRows, EntriesHaveWholeRows, RowsHaveWholeRows, FieldsHaveWholeRows}

-- ---- sets

pub Tree-set : IsSet Tree
Tree-set = collapsible→set (λ x y p. (same_tree_decides x y).0 ((same_tree_decides x y).1 p))
    (λ x y p q. ap (same_tree_decides x y).0 (Bool-set _ _ ((same_tree_decides x y).1 p) ((same_tree_decides x y).1 q)))

pub Event-set : IsSet Event
Event-set = hlevel props

pub Option-set : {A : Type 0} → IsSet A → IsSet (Option A)
Option-set a = hlevel (a, props)

-- ---- rows

IsTemplate-prop : (ks : List (List ℕ)) (rs : List (List (Option Tree))) → IsProp (IsTemplate ks rs)
IsTemplate-prop [] rs = List-set (List-set (Option-set Tree-set)) rs []
IsTemplate-prop (k ∷ ks) rs = AllByRecursion-prop _ (λ r. ℕ_set _ _) rs

mutual
  pub HasWholeRows-prop : (t : Tree) → IsProp (HasWholeRows t)
  HasWholeRows-prop null = Unit-prop
  HasWholeRows-prop (boolean v) = Unit-prop
  HasWholeRows-prop (integer v) = Unit-prop
  HasWholeRows-prop (real v) = Unit-prop
  HasWholeRows-prop (bytes s) = Unit-prop
  HasWholeRows-prop (text s) = Unit-prop
  HasWholeRows-prop (array ts) = items_rows-prop ts
  HasWholeRows-prop (object es) = entries_rows-prop es
  HasWholeRows-prop (template ks rs) = ×_prop (IsTemplate-prop ks (rows rs)) (rows_rows-prop rs)

  items_rows-prop : (ts : Items) → IsProp (ItemsHaveWholeRows ts)
  items_rows-prop no_items = Unit-prop
  items_rows-prop (item t ts) = ×_prop (HasWholeRows-prop t) (items_rows-prop ts)

  entries_rows-prop : (es : Entries) → IsProp (EntriesHaveWholeRows es)
  entries_rows-prop no_entries = Unit-prop
  entries_rows-prop (entry k t es) = ×_prop (HasWholeRows-prop t) (entries_rows-prop es)

  rows_rows-prop : (rs : Rows) → IsProp (RowsHaveWholeRows rs)
  rows_rows-prop no_rows = Unit-prop
  rows_rows-prop (row fs rs) = ×_prop (fields_rows-prop fs) (rows_rows-prop rs)

  pub fields_rows-prop : (fs : Fields) → IsProp (FieldsHaveWholeRows fs)
  fields_rows-prop no_fields = Unit-prop
  fields_rows-prop (skip fs) = fields_rows-prop fs
  fields_rows-prop (field t fs) = ×_prop (HasWholeRows-prop t) (fields_rows-prop fs)

-- ---- what is known is had

abbrev pub Had : Type 0 → Type 0
Had P = ∥ P ∥₁ → P

pub once : {P : Type 0} → IsProp P → Had P
once p h = ∥∥₁_elim h p (λ x. x)

nothing : Had (Unit {0})
nothing h = tt

both : {P Q : Type 0} → Had P → Had Q → Had (P × Q)
both p q h = (p (∥∥₁_map h (λ x. x.0)), q (∥∥₁_map h (λ x. x.1)))

all_three : {P Q R : Type 0} → Had P → Had Q → Had R → Had (P × Q × R)
all_three p q r h = (p (∥∥₁_map h (λ x. x.0)), q (∥∥₁_map h (λ x. x.1)), r (∥∥₁_map h (λ x. x.2)))

pub all_had : {X : Type 0} (P : X → Type 0) → ((x : X) → Had (P x)) → (xs : List X) → Had (AllByRecursion P xs)
all_had P each [] = nothing
all_had P each (x ∷ xs) = both (each x) (all_had P each xs)

-- ---- strings

pub Within-had : (s : List ℕ) (n : DocumentNode) → Had (Within s n)
Within-had s Null = nothing
Within-had s (Bool v) = nothing
Within-had s (Int v) = nothing
Within-had s (Real v) = nothing
Within-had s (Bytes len at) = once le_prop
Within-had s (Text len at) = both (once le_prop) (IsUtf8-had (piece s len at))
Within-had s (Key len at) = both (once le_prop) (IsUtf8-had (piece s len at))
Within-had s (Array len end) = nothing
Within-had s (Object len end) = nothing
Within-had s (Template len end) = nothing
Within-had s (RowsOf len) = nothing
Within-had s Skip = nothing
Within-had s Close = nothing

-- ---- values

FitsSigned-prop : (v : ℤ) → IsProp (FitsSigned w64 v)
FitsSigned-prop v = hlevel props

mutual
  pub IsValueTree-had : (t : Tree) → Had (IsValueTree t)
  IsValueTree-had null = nothing
  IsValueTree-had (boolean v) = nothing
  IsValueTree-had (integer v) = once (FitsSigned-prop v)
  IsValueTree-had (real r) = once le_prop
  IsValueTree-had (bytes s) = nothing
  IsValueTree-had (text s) = IsUtf8-had s
  IsValueTree-had (array ts) = items_values ts
  IsValueTree-had (object es) = both (once (IsStrictlySortedBy-prop (slice_cmp nat_cmp) (keys es))) (entries_values es)
  IsValueTree-had (template ks rs) = once (λ x y. absurd x)

  items_values : (ts : Items) → Had (ItemsAreValueTrees ts)
  items_values no_items = nothing
  items_values (item t ts) = both (IsValueTree-had t) (items_values ts)

  entries_values : (es : Entries) → Had (EntriesAreValueTrees es)
  entries_values no_entries = nothing
  entries_values (entry k t es) = all_three (IsUtf8-had k) (IsValueTree-had t) (entries_values es)
