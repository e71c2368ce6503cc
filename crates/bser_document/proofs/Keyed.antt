-- Rows with their keys, one after the other.
use Rattle.std.proofs.Common.{◌≡◌, ◌+◌, ◌-◌, ℕ, length, Option, Some, None, refl, sym, subst, option_map}
use mathlib.Core.Logic.{∥∥₁_map}
use Rattle.bser_format.specs.Tree.{Tree, object, no_items, item, Rows, no_rows, row}
use Rattle.bser_format.specs.Tree as trees
use Rattle.bser_format.specs.Expand.{expand_rows, expand_fields}
use Rattle.bser_format.specs.Normal.{normal, normal_items}
use Rattle.bser_format.proofs.Least.{then_some}
use Rattle.bser_events.specs.Events.{row_events, field_events}
use Rattle.bser_document.specs.declared.document.Document.{Document}
use Rattle.bser_document.specs.declared.item.Keys.{Keys}
use Rattle.bser_document.specs.declared.items.Items.{Items}
use Rattle.bser_document.specs.Spans.{rows_ends, fields_ends, FieldsLie}
use Rattle.bser_document.specs.Holds.{part_ends}
use Rattle.bser_document.specs.Parts.{Part, row_of, PartLies, IsPart, IsRowIfKeyed, Parts, items_of, rows_of, parts_value, parts_count, PartsLie, PartsAreWhole, AreParts, AreRowsIfKeyed}
use Rattle.bser_document.proofs.Lies.{front_lies}
use Rattle.bser_document.proofs.Walks.{Gives, next_part}

first_row : (d : Document) (k : Keys) (at left : ℕ) (us : trees.Items) → (left ≡ 0 → ⊥) → AreParts d (Some k) at left us → (u : Tree) × IsPart d (Some k) at u
first_row d k at left us some h = of_parts h.parts h.lie h.count h.value h.whole
  where
    of_parts : (p : Parts) → PartsLie d (Some k) at p → left ≡ parts_count p → parts_value p ≡ Some us → PartsAreWhole p → (u : Tree) × IsPart d (Some k) at u
    of_parts (items_of ts) l count v w = let e = l.0 in absurd cc
    of_parts (rows_of ks no_rows) l count v w = absurd (some count)
    of_parts (rows_of ks (row fs rs)) l count v w =
        let here : FieldsLie d fs at = front_lies d at (field_events fs) (row_events rs) (fields_ends fs at) (rows_ends rs (at + length (fields_ends fs at))) l.lie in
        then_some (λ u. option_map (item u) (normal_items (expand_rows ks rs))) (normal (object (expand_fields ks fs))) us v λ u first f.
        (u, record { part = row_of ks fs; lies = record { keys_at = l.keys_at; some = l.some; shows = l.shows; count = l.count.0; lie = here }; value = first; whole = w.0; texts = h.texts })

-- the first of some rows is one
pub row_first_of : (s : Items) → (s.left ≡ 0 → ⊥) → ∥ IsRowIfKeyed s.document.now s.keys s.at ∥₁
row_first_of s some = of_keys s.keys s.rows
  where
    of_keys : (keys : Option Keys) → ∥ AreRowsIfKeyed s.document.now keys s.at s.left ∥₁ → ∥ IsRowIfKeyed s.document.now keys s.at ∥₁
    of_keys None h = ∣ tt ∣₁
    of_keys (Some k) h = ∥∥₁_map h (λ r. first_row s.document.now k s.at s.left r.0 some r.1)

-- and so are those behind it
pub rows_behind_first : (s : Items) (at left : ℕ) → left ≡ s.left - 1 → (s.left ≡ 0 → ⊥) → ((p : Part) → PartLies s.document.now s.keys s.at p → at ≡ s.at + length (part_ends p s.at)) → ∥ AreRowsIfKeyed s.document.now s.keys at left ∥₁
rows_behind_first s at left less some step = of_keys s.keys refl
  where
    d : Document
    d = s.document.now

    behind : (k : Keys) → s.keys ≡ Some k → (us : trees.Items) → Gives d s.keys s.at at left us → AreRowsIfKeyed d (Some k) at left
    behind k e no_items g = absurd g
    behind k e (item u us) g = (us, subst (λ x. AreParts d x at left us) e g.1)

    of_keys : (keys : Option Keys) → s.keys ≡ keys → ∥ AreRowsIfKeyed d keys at left ∥₁
    of_keys None e = ∣ tt ∣₁
    of_keys (Some k) e = ∥∥₁_map (subst (λ x. ∥ AreRowsIfKeyed d x s.at s.left ∥₁) e s.rows) (λ r. behind k e r.0 (next_part s at left less some step r.0 (subst (λ x. AreParts d x s.at s.left r.0) (sym e) r.1)))
