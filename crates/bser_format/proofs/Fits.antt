-- A value whose body fits has its counts in range, so its canonical message is a message.
use Rattle.std.proofs.Common.{◌≡◌, ℕ, max, ◌<◌, ◌≤◌, ◌^◌, List, [], ◌∷◌, ◌++◌, length, Some, refl, sym, ap, ◌∙◌, arith}
use Rattle.std.proofs.lemmas.List.{length-append, append_cancel_left}
use Rattle.std.proofs.lemmas.Option.{same_Some}
use Rattle.std.specs.Int.{w32, to_le_bytes}
use Rattle.bser_format.specs.Tree.{Tree, null, boolean, integer, real, bytes, text, array, object, template, Items, no_items, item, Entries, no_entries, entry, items, entries}
use Rattle.bser_format.specs.Grammar.{Bytes}
use Rattle.bser_format.specs.Expand.{expand}
use Rattle.bser_format.specs.Normal.{normal}
use Rattle.bser_format.specs.Canonical.{least_count, canonical_body, canonical_items, canonical_entries, canonical_message, IsWritable, ItemsAreWritable, EntriesAreWritable}
use Rattle.bser_format.specs.Measures.{depth}
use Rattle.bser_format.specs.Message.{Head, IsMessage}
use Rattle.bser_format.specs.ValueTree.{IsValueTree, ItemsAreValueTrees, EntriesAreValueTrees}
use Rattle.bser_format.proofs.Canon.{joined, count_spelled, text_spelled}
use Rattle.bser_format.proofs.Lengths.{length-entry, key_long, items_few, entries_few, length-message}
use Rattle.bser_format.proofs.Fronts.{one_value}
use Rattle.bser_format.proofs.GrammarLaws.{one_message}
use Rattle.bser_format.proofs.OneHead.{one_head}
use Rattle.bser_format.proofs.Back.{canon_message, normal_settled}

-- ---- counts

mutual
  pub writable : (t : Tree) → IsValueTree t → length (canonical_body t) < 2 ^ 63 → IsWritable t
  writable null h l = tt
  writable (boolean v) h l = tt
  writable (integer v) h l = h
  writable (real r) h l = h
  writable (bytes s) h l = omega (arith, length-append (least_count (length s)) s)
  writable (text s) h l = let short : length s < 2 ^ 63 = omega (arith, length-append (least_count (length s)) s) in (h, short)
  writable (array ts) h l =
      let whole = length-append (least_count (length (items ts))) (canonical_items ts) in
      let few : length (items ts) < 2 ^ 63 = omega (arith, whole, items_few ts) in
      let inside : length (canonical_items ts) < 2 ^ 63 = omega (arith, whole) in
      (few, items_writable ts h inside)
  writable (object es) h l =
      let whole = length-append (least_count (length (entries es))) (canonical_entries es) in
      let few : length (entries es) < 2 ^ 63 = omega (arith, whole, entries_few es) in
      let inside : length (canonical_entries es) < 2 ^ 63 = omega (arith, whole) in
      (few, entries_writable es h.1 inside)
  writable (template ks rs) h l = absurd h

  items_writable : (ts : Items) → ItemsAreValueTrees ts → length (canonical_items ts) < 2 ^ 63 → ItemsAreWritable ts
  items_writable no_items h l = tt
  items_writable (item t ts) h l =
      let whole = length-append (canonical_body t) (canonical_items ts) in
      let one : length (canonical_body t) < 2 ^ 63 = omega (arith, whole) in
      let more : length (canonical_items ts) < 2 ^ 63 = omega (arith, whole) in
      (writable t h.0 one, items_writable ts h.1 more)

  entries_writable : (es : Entries) → EntriesAreValueTrees es → length (canonical_entries es) < 2 ^ 63 → EntriesAreWritable es
  entries_writable no_entries h l = tt
  entries_writable (entry k t es) h l =
      let whole = length-entry k t es in
      let name : length k < 2 ^ 63 = omega (arith, whole, key_long k) in
      let one : length (canonical_body t) < 2 ^ 63 = omega (arith, whole) in
      let more : length (canonical_entries es) < 2 ^ 63 = omega (arith, whole) in
      (name, writable t h.1 one, entries_writable es h.2 more)

-- ---- messages

pub body_fits : (t : Tree) → length (canonical_message t) < 2 ^ 63 → length (canonical_body t) < 2 ^ 63
body_fits t short = omega (arith, length-message t)

pub value_message : (n : ℕ) (t : Tree) → IsValueTree t → depth t ≤ n → length (canonical_message t) < 2 ^ 63 → IsMessage n 0 t (canonical_message t)
value_message n t h l short = canon_message n t (writable t h (body_fits t short)) l short

pub value_front : (n c : ℕ) (t u : Tree) (a x y : List ℕ) → IsValueTree t → depth t ≤ n → length (canonical_message t) < 2 ^ 63 → IsMessage n c u a → canonical_message t ++ x ≡ a ++ y
    → (canonical_message t ≡ a) × (0 ≡ c) × (t ≡ u)
value_front n c t u a x y h l short m e = one_message n 0 c (canonical_message t) a x y t u (value_message n t h l short) m e

pub value_reads_as_itself : (t : Tree) → IsValueTree t → normal (expand t) ≡ Some t
value_reads_as_itself t h = ap normal (normal_settled t h).0 ∙ (normal_settled t h).1

pub read_again : (n c : ℕ) (t u v : Tree) (a x y : List ℕ) → IsValueTree t → depth t ≤ n → length (canonical_message t) < 2 ^ 63 → IsMessage n c u a → canonical_message t ++ x ≡ a ++ y → normal (expand u) ≡ Some v
    → canonical_message v ≡ canonical_message t
read_again n c t u v a x y h l short m e made =
    let same = (value_front n c t u a x y h l short m e).2 in
    ap canonical_message (same_value t v (sym (value_reads_as_itself t h) ∙ ap (λ w. normal (expand w)) same ∙ made))
  where
    same_value : (t v : Tree) → Some t ≡ Some v → v ≡ t
    same_value t v e = sym (same_Some t v e)

-- the head of a canonical message
head_of : Tree → List ℕ
head_of t = 0x00 ∷ 0x02 ∷ (to_le_bytes w32 0 ++ least_count (length (canonical_body t)))

head_there : (t : Tree) → length (canonical_body t) < 2 ^ 63 → Head 0 (length (canonical_body t)) (head_of t)
unfolding head_of
head_there t l = (omega arith, joined (Bytes (0x00 ∷ 0x02 ∷ [])) _ (0x00 ∷ 0x02 ∷ []) _ refl (joined (Bytes (to_le_bytes w32 0)) _ (to_le_bytes w32 0) _ refl (count_spelled _ l)))

-- trees that can be written, templates among them, have equal messages only where they are equal
pub equal_trees : (t u : Tree) → IsWritable t → IsWritable u → length (canonical_body t) < 2 ^ 63 → length (canonical_body u) < 2 ^ 63 → canonical_message t ≡ canonical_message u → t ≡ u
unfolding head_of
equal_trees t u h k l m e =
    let n : ℕ = max (depth t) (depth u) in
    let heads = one_head 0 0 (length (canonical_body t)) (length (canonical_body u)) (head_of t) (head_of u) (canonical_body t) (canonical_body u) (head_there t l) (head_there u m) e in
    let bodies : canonical_body t ≡ canonical_body u = append_cancel_left (head_of t) (canonical_body t) (canonical_body u) (e ∙ ap (λ s. s ++ canonical_body u) (sym heads.0)) in
    (one_value n (canonical_body t) (canonical_body u) [] [] t u (text_spelled n t h (omega arith)) (text_spelled n u k (omega arith)) (ap (λ b. b ++ []) bodies)).1

pub equal_values : (t u : Tree) → IsValueTree t → IsValueTree u → length (canonical_body t) < 2 ^ 63 → length (canonical_body u) < 2 ^ 63 → canonical_message t ≡ canonical_message u → t ≡ u
equal_values t u h k l m e = equal_trees t u (writable t h l) (writable u k m) l m e
