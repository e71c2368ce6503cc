-- An entry is put into a hash map as its pair is among the pairs.
use Rattle.std.proofs.Common.{◌≡◌, ℕ, ◌+◌, Bool, true, false, cond, List, [], length, Option, Some, None, nat_cmp, bytes_eq, refl, sym, ap, subst, ◌∙◌}
use Rattle.std.proofs.lemmas.Slice.Eq.{bytes_eq-Decides}
use Rattle.std.specs.Prelude.{if◌then◌else◌, is_some, is_ok, Result, Ok, Err, IfOk, OnOk}
use Rattle.std.specs.Cmp.Lexicographic.{slice_cmp}
use Rattle.std.specs.BTreeMap.{insert_entry}
use Rattle.std.specs.HashMap.{HashMap, Updates, get, hash_map_len}
use Rattle.std.specs.List.Sorted.{IsStrictlySortedBy}
use Rattle.std.specs.Map.{lookup, KeepsOthers, IsKeyTest, AreApart}
use Rattle.bser_format.specs.Content.{Content, byte_list, pair}
use Rattle.bser_format.proofs.Entries.{put_rises, put_value, put_length}
use Rattle.bser_deserializer.specs.HoldsMaps.{HoldsAt, HoldsNames}

-- a map that has no entry holds no pair
pub names_start : {K V : Type 0} (name : K → List ℕ) (holds : V → Content → Type 0) → HoldsNames name holds [] []
unfolding IsStrictlySortedBy
names_start name holds = record { rising = tt; counted = refl; at = λ n. tt }

-- the pair with this name and what the value holds, among the others
abbrev with_name : List (List ℕ × Content) → List ℕ → Content → List (List ℕ × Content)
with_name ps n d = insert_entry (slice_cmp nat_cmp) ps n (pair (byte_list n) d)

both_there : {V : Type 0} (holds : V → Content → Type 0) (n : List ℕ) (v : Option V) (c : Option Content) → HoldsAt holds n v c → is_some v ≡ is_some c
both_there holds n None None h = refl
both_there holds n (Some v) (Some c) h = refl
both_there holds n None (Some c) h = absurd h
both_there holds n (Some v) None h = absurd h

-- whether a key has this name
abbrev is_named : {K : Type 0} → (K → List ℕ) → List ℕ → K → Bool
is_named name n k = bytes_eq n (name k)

other_keys : {K V : Type 0} (eq : K → K → Bool) (test : K → Bool) (old new : List (K × V)) → KeepsOthers eq test old new → (other : K → Bool) → IsKeyTest eq other → AreApart test other → lookup other new ≡ lookup other old
unfolding KeepsOthers
other_keys eq test old new h = h

module _ {K : Type 0} (name : K → List ℕ) (eq : K → K → Bool) (equal : (k l : K) → eq k l ≡ bytes_eq (name k) (name l)) where
  named_alike : (k : K) → eq k ≡ is_named name (name k)
  named_alike k = λ i l. equal k l i

  one_key : (n : List ℕ) → IsKeyTest eq (is_named name n)
  one_key n k l t = subst (λ m. bytes_eq m (name l) ≡ eq k l) (sym ((bytes_eq-Decides n (name k)).0 t)) (sym (equal k l))

  apart : (n : List ℕ) (k : K) → bytes_eq n (name k) ≡ false → AreApart (eq k) (is_named name n)
  apart n k f l t = subst (λ m. bytes_eq n m ≡ false) ((bytes_eq-Decides (name k) (name l)).0 (sym (equal k l) ∙ t)) f

  pub names_insert : {V S : Type 0} (holds : V → Content → Type 0) (m n : HashMap K V S) (e : K × V) (ps : List (List ℕ × Content)) (d : Content) (was : Option V) → holds e.1 d → was ≡ get eq m e.0 → Updates eq m n e.0 (Some e.1)
      → hash_map_len n ≡ hash_map_len m + (if is_some was then 0 else 1) → HoldsNames name holds m.entries ps → HoldsNames name holds n.entries (with_name ps (name e.0) d)
  names_insert holds m n e ps d was value old updates more h = record {
    rising = put_rises (name e.0) (pair (byte_list (name e.0)) d) ps h.rising;
    counted = counted;
    at = λ q. subst (HoldsAt holds q (lookup (is_named name q) n.entries)) (sym (put_value q (name e.0) (pair (byte_list (name e.0)) d) ps)) (here q (bytes_eq q (name e.0)) refl);
  }
    where
      found : lookup (is_named name (name e.0)) m.entries ≡ was
      found = ap (λ t. lookup t m.entries) (sym (named_alike e.0)) ∙ sym old

      counted : length n.entries ≡ length (with_name ps (name e.0) d)
      counted =
          let there : is_some was ≡ is_some (lookup (bytes_eq (name e.0)) ps) = ap is_some (sym found) ∙ both_there holds (name e.0) (lookup (is_named name (name e.0)) m.entries) (lookup (bytes_eq (name e.0)) ps) (h.at (name e.0)) in
          more ∙ ap (λ k. k + (if is_some was then 0 else 1)) h.counted ∙ ap (λ b. length ps + (if b then 0 else 1)) there ∙ sym (put_length (name e.0) (pair (byte_list (name e.0)) d) ps h.rising)

      here : (q : List ℕ) (b : Bool) → bytes_eq q (name e.0) ≡ b → HoldsAt holds q (lookup (is_named name q) n.entries) (cond b (Some (pair (byte_list (name e.0)) d)) (lookup (bytes_eq q) ps))
      here q true t =
          let same : q ≡ name e.0 = (bytes_eq-Decides q (name e.0)).0 t in
          let now : lookup (is_named name q) n.entries ≡ Some e.1 = ap (λ x. lookup (is_named name x) n.entries) same ∙ ap (λ t. lookup t n.entries) (sym (named_alike e.0)) ∙ updates.1 in
          subst (λ o. HoldsAt holds q o (Some (pair (byte_list (name e.0)) d))) (sym now) (record { value = d; pair = ap (λ x. pair (byte_list x) d) (sym same); held = value })
      here q false f =
          let kept : lookup (is_named name q) n.entries ≡ lookup (is_named name q) m.entries = other_keys eq (eq e.0) m.entries n.entries updates.3 (is_named name q) (one_key q) (apart q e.0 f) in
          subst (λ o. HoldsAt holds q o (lookup (bytes_eq q) ps)) (sym kept) (h.at q)

  -- the same of a call that put the entry in
  pub names_put : {V S E : Type 0} (holds : V → Content → Type 0) (m n : HashMap K V S) (e : K × V) (ps : List (List ℕ × Content)) (d : Content) (r : Result (Option V) E) → is_ok r ≡ true → holds e.1 d → IfOk r (λ was. was ≡ get eq m e.0)
      → OnOk r (Updates eq m n e.0 (Some e.1)) → IfOk r (λ was. hash_map_len n ≡ hash_map_len m + (if is_some was then 0 else 1)) → HoldsNames name holds m.entries ps → HoldsNames name holds n.entries (with_name ps (name e.0) d)
  names_put holds m n e ps d (Ok was) ok value old updates more h = names_insert holds m n e ps d was value old updates more h
  names_put holds m n e ps d (Err f) ok value old updates more h = absurd cc
