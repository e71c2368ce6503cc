-- Arrays of a fixed length, which are tuples of equal parts.
use Rattle.std.proofs.Common.{◌≡◌, ℕ, zero, suc, ◌+◌, ◌<◌, ◌||◌, Bool, true, false, List, [], ◌∷◌, ◌++◌, length, map, replicate, None, refl, sym, subst, arith}
use Rattle.std.proofs.lemmas.List.{map-append, length-append}
use Rattle.std.specs.Prelude.{Option}
use Rattle.bser_format.specs.Content.{Content, Meaning}
use Rattle.bser_format.specs.declared.errors.Error.{Error}
use Rattle.bser_deserializer.specs.State.{State}
use Rattle.bser_deserializer.specs.Reading.{Answers, Asking, Refuses, Needs}
use Rattle.bser_deserializer.specs.Required.{RefusesRequired}
use Rattle.bser_deserializer.specs.Access.{OpenItems, OpensItems, RefusesItems, IsNextItem, ClosesItems, LeavesItems}
use Rattle.bser_deserializer.specs.HoldsLists.{HoldsAll, HoldsList, HoldsEach, HoldsTuple}
use Rattle.bser_types.specs.Slots.{any_lent}
use Rattle.bser_types.specs.Tuples.{Plain, tuple_needs}
use Rattle.bser_types.specs.Arrays.{reads_array, equal_parts, asking_array}
use Rattle.bser_types.proofs.Taken.{wider_type}
use Rattle.bser_types.specs.Collected.{list_needs}
use Rattle.bser_types.proofs.Lists.{answers_as}
use Rattle.bser_types.proofs.Tuples.{TupleOf, ReadsParts, RefusesTuple, parts_start, parts_next, parts_end, tuple_refused, parts_refused, parts_many}

-- it is not asked which parts read no object
abbrev pub none_plain : (Ts : List Meaning) → Plain Ts
none_plain [] = tt
none_plain (T ∷ Ts) = (None, none_plain Ts)

-- the parts of an array of n items
abbrev pub equal : ℕ → (T : Meaning) → Option (Asking T) → Needs → TupleOf
equal n T tells needs = record { types = replicate n T; asks = equal_parts n tells; plain = none_plain (replicate n T); needs = replicate n needs }

-- how an array is refused
abbrev pub RefusesArray : ℕ → (T : Meaning) → Option (Asking T) → Needs → Error → State → State → Type 0
RefusesArray n T tells needs e o z = Refuses (reads_array n T) (asking_array n tells) (list_needs needs) e o z

one_lent : (a b : Bool) → (b ≡ true → a ≡ true) → a || b ≡ true → a ≡ true
one_lent true b h e = refl
one_lent false b h e = h e

all_lent : (n : ℕ) (needs : Needs) → any_lent (replicate n needs) ≡ true → needs.lent ≡ true
all_lent zero needs e = absurd cc
all_lent (suc n) needs e = one_lent needs.lent (any_lent (replicate n needs)) (all_lent n needs) e

-- an array takes memory, whatever its items do
with_room : (n : ℕ) (T : Meaning) (tells : Option (Asking T)) (needs : Needs) (e : Error) (o z : State) → RefusesTuple (equal n T tells needs) e o z → RefusesArray n T tells needs e o z
with_room n T tells needs e o z u =
    let P = equal n T tells needs in
    wider_type (reads_array n T) (asking_array n tells) (tuple_needs P.needs P.types P.plain) (list_needs needs) e o z (all_lent n needs) (λ m. refl) (λ t. refl) u

-- these items were read of an array that was opened in the state o
pub record ReadsEqual {A : Type 0} (n : ℕ) (T : Meaning) (tells : Option (Asking T)) (needs : Needs) (holds : A → Content → Type 0) (o : State) (vs : List A) (u : OpenItems) : Type 0 where
  pub left : ℕ
  pub counted : length vs + left ≡ n
  pub read : ReadsParts (equal n T tells needs) (replicate left T) (equal_parts left tells) (replicate left needs) (map holds vs) o u

-- one item more is left than these
record OneLeft {A : Type 0} (n : ℕ) (T : Meaning) (tells : Option (Asking T)) (needs : Needs) (holds : A → Content → Type 0) (o : State) (vs : List A) (u : OpenItems) : Type 0 where
  pub after : ℕ
  pub counted : length vs + suc after ≡ n
  pub read : ReadsParts (equal n T tells needs) (T ∷ replicate after T) (tells, equal_parts after tells) (needs ∷ replicate after needs) (map holds vs) o u

-- what is no array is refused
pub equal_refused : (n : ℕ) (T : Meaning) (tells : Option (Asking T)) (needs : Needs) {e : Error} {o z : State} → RefusesItems e o z → RefusesArray n T tells needs e o z
equal_refused n T tells needs {e = e} {o = o} {z = z} u = with_room n T tells needs e o z (tuple_refused (equal n T tells needs) u)

holds_each : {A : Type 0} (holds : A → Content → Type 0) (vs : List A) (cs : List Content) → HoldsEach (map holds vs) cs → HoldsAll holds vs cs
holds_each holds [] [] h = tt
holds_each holds [] (c ∷ cs) h = absurd h
holds_each holds (v ∷ vs) [] h = absurd h
holds_each holds (v ∷ vs) (c ∷ cs) h = (h.0, holds_each holds vs cs h.1)

module _ {A : Type 0} {n : ℕ} {T : Meaning} {tells : Option (Asking T)} {needs : Needs} {holds : A → Content → Type 0} {o : State} where
  pub equal_start : {u : OpenItems} → OpensItems o u → ReadsEqual n T tells needs holds o [] u
  equal_start opens = record { left = n; counted = omega arith; read = parts_start (equal n T tells needs) opens }

  one_left : {vs : List A} {u : OpenItems} → ReadsEqual n T tells needs holds o vs u → length vs < n → OneLeft n T tells needs holds o vs u
  one_left {vs = vs} {u = u} h some = at h.left h.counted h.read
    where
      at : (left : ℕ) → length vs + left ≡ n → ReadsParts (equal n T tells needs) (replicate left T) (equal_parts left tells) (replicate left needs) (map holds vs) o u → OneLeft n T tells needs holds o vs u
      at zero counted read = absurd (omega (arith, some, counted))
      at (suc k) counted read = record { after = k; counted = counted; read = read }

  pub equal_next : {vs : List A} {u t : OpenItems} {v : A} → ReadsEqual n T tells needs holds o vs u → length vs < n → IsNextItem T holds u t v → ReadsEqual n T tells needs holds o (vs ++ v ∷ []) t
  equal_next {vs = vs} {t = t} {v = v} h some next =
      let p = one_left h some in
      record {
        left = p.after;
        counted = omega (arith, p.counted, length-append vs (v ∷ []));
        read = subst (λ hs. ReadsParts (equal n T tells needs) (replicate p.after T) (equal_parts p.after tells) (replicate p.after needs) hs o t) (sym (map-append holds vs (v ∷ []))) (parts_next p.read next);
      }

  -- an item is refused, or is not there
  pub equal_lacks : {vs : List A} {u : OpenItems} {e : Error} {z : State} → ReadsEqual n T tells needs holds o vs u → length vs < n → RefusesRequired T tells needs e u z → RefusesArray n T tells needs e o z
  equal_lacks {e = e} {z = z} h some lacks = with_room n T tells needs e o z (parts_refused (one_left h some).read lacks)

  all_read : {vs : List A} {u : OpenItems} → ReadsEqual n T tells needs holds o vs u → (length vs < n → ⊥) → ReadsParts (equal n T tells needs) [] tt [] (map holds vs) o u
  all_read {vs = vs} {u = u} h none = at h.left h.counted h.read
    where
      at : (left : ℕ) → length vs + left ≡ n → ReadsParts (equal n T tells needs) (replicate left T) (equal_parts left tells) (replicate left needs) (map holds vs) o u → ReadsParts (equal n T tells needs) [] tt [] (map holds vs) o u
      at zero counted read = read
      at (suc k) counted read = absurd (none (omega (arith, counted)))

  -- more items than n
  pub equal_many : {vs : List A} {u : OpenItems} {e : Error} {z : State} → ReadsEqual n T tells needs holds o vs u → (length vs < n → ⊥) → LeavesItems e u z → RefusesArray n T tells needs e o z
  equal_many {e = e} {z = z} h none leaves = with_room n T tells needs e o z (parts_many (all_read h none) leaves)

  pub equal_end : {vs : List A} {u : OpenItems} {z : State} → ReadsEqual n T tells needs holds o vs u → (length vs < n → ⊥) → ClosesItems u z → Answers (reads_array n T) (HoldsList holds) o z vs
  equal_end {vs = vs} h none closes =
      answers_as (λ (w : List A) c. HoldsTuple (map holds w) c) (λ c e. record { contents = e.contents; list = e.list; items = holds_each holds vs e.contents e.held }) (parts_end (map holds) vs (all_read h none) closes)
