-- Lists that are read item by item.
use Rattle.std.proofs.Common.{◌≡◌, ℕ, zero, suc, ◌-◌, true, List, [], ◌∷◌, ◌++◌, append_assoc, ◌<◌, Option, Some, None, inl, inr, refl, sym, ap, subst, ◌∙◌, arith}
use Rattle.std.proofs.lemmas.List.{append-nil}
use Rattle.std.specs.Prelude.{option_map, option_and_then, Result, Ok, Err, IfOk, OnOk, is_ok}
use Rattle.bser_format.specs.Tree.{Tree, null, boolean, integer, real, bytes, text, array, object, template, Items}
use Rattle.bser_format.specs.Content.{Content, Meaning, each_some}
use Rattle.bser_format.specs.Expected.{Fills, node_due, row_due, WantedItems, nodes, rows_over}
use Rattle.bser_format.specs.ReadsHolders.{list_of, reads_vec}
use Rattle.bser_format.specs.declared.errors.Error.{Error}
use Rattle.bser_format.specs.Named.{Reader, refuses, and_then, give}
use Rattle.bser_format.specs.DueReaders.{asked, items_at, less_one}
use Rattle.bser_format.specs.Asks.{Asks, all, items_asked}
use Rattle.bser_format.proofs.Steps as steps
use Rattle.bser_format.proofs.Steps.{Continues, first_read, part_read}
use Rattle.bser_deserializer.specs.State.{State, awaiting}
use Rattle.bser_deserializer.specs.Reading.{Answers, Asking, Refuses, Needs}
use Rattle.bser_deserializer.specs.Required.{RefusesRequired}
use Rattle.bser_deserializer.specs.Parts.{BeginsItems, items_left, item_due, items_after}
use Rattle.bser_deserializer.specs.Access.{OpenItems, OpensItems, RefusesItems, IsNextItem, ClosesItems, inside_items}
use Rattle.bser_deserializer.specs.HoldsLists.{HoldsAll}
use Rattle.bser_deserializer.proofs.Containers.{items_pass}
use Rattle.bser_types.specs.Askings.{counted, asking_vec}
use Rattle.bser_types.specs.Collected.{CollectsItem, HoldsCollected, list_needs}
use Rattle.bser_types.proofs.Naming.{Asked, StepAsked, HeadAsked, FirstAsked, asked_inside, part_passes}
use Rattle.bser_types.proofs.Arrays.{ReadsArrays, ReadsNext, Inside, inside_start, inside_next, inside_end, inner_levels, inner_opened, array_refused, item_refused}

-- ---- what is made of the items that are left

-- after these contents
abbrev pub more_of : List Content → Option (List Content) → Option Content
more_of cs left = option_map (λ ds. list_of (cs ++ ds)) left

abbrev pub rest_of_list : Meaning → List Content → List Tree → Option Content
rest_of_list T cs ts = more_of cs (each_some T ts)

-- a content, and then those of the rest
abbrev pub before : Option (List Content) → Option Content → Option (List Content)
before left first = option_and_then (λ c. option_map (λ cs. c ∷ cs) left) first

pub one_more_content : (cs : List Content) (c : Content) (left : Option (List Content)) → more_of cs (before left (Some c)) ≡ more_of (cs ++ c ∷ []) left
one_more_content cs c None = refl
one_more_content cs c (Some ds) = ap (λ l. Some (list_of l)) (sym (append_assoc cs (c ∷ []) ds))

pub first_some : (cs : List Content) (first : Option Content) (left : Option (List Content)) (c : Content) → more_of cs (before left first) ≡ Some c → (d : Content) × (first ≡ Some d)
first_some cs None left c e = absurd cc
first_some cs (Some d) left c e = (d, refl)

list_next : (T : Meaning) (cs : List Content) → ReadsNext T (rest_of_list T cs) (λ c. rest_of_list T (cs ++ c ∷ []))
list_next T cs = record {
  next = λ t c ts read. ap (λ o. more_of cs (before (each_some T ts) o)) read ∙ one_more_content cs c (each_some T ts);
  some = λ t ts c e. first_some cs (T t) (each_some T ts) c e;
}

list_only : (T : Meaning) (t : Tree) (c : Content) → reads_vec T t ≡ Some c → (us : Items) × (t ≡ array us)
list_only T null c e = absurd cc
list_only T (boolean v) c e = absurd cc
list_only T (integer v) c e = absurd cc
list_only T (real v) c e = absurd cc
list_only T (bytes v) c e = absurd cc
list_only T (text v) c e = absurd cc
list_only T (array us) c e = (us, refl)
list_only T (object es) c e = absurd cc
list_only T (template ks rs) c e = absurd cc

reads_list : (T : Meaning) → ReadsArrays (reads_vec T) (rest_of_list T [])
reads_list T = record { same = λ us. refl; only = list_only T }

-- ---- what is left to be asked for

-- the items that are left of an array that was opened in the state o, where its items tell what they ask for
abbrev pub list_now : {T : Meaning} → Option (Asking T) → State → WantedItems → Reader Unit
list_now None o w = give tt
list_now (Some a) o w = items_asked (counted a.asks) (suc o.opened) (less_one o.levels) w

-- an item was passed over
item_passed : (A : Asks) (o n : ℕ) (w : WantedItems) (taken : List ℕ) → 0 < items_left w → steps.Passes (A o n (item_due w)) tt taken → Continues (items_asked A o n w) (items_asked A o n (items_after w)) taken
item_passed A o n (nodes zero) taken some is = absurd (omega (arith, some))
item_passed A o n (nodes (suc k)) taken some is =
    let e : k ≡ suc k - 1 = omega arith in
    λ x. part_read (A o n node_due) k taken is x ∙ ap (λ j. all (A o n node_due) j x) e
item_passed A o n (rows_over ks zero) taken some is = absurd (omega (arith, some))
item_passed A o n (rows_over ks (suc k)) taken some is =
    let e : k ≡ suc k - 1 = omega arith in
    λ x. part_read (A o n (row_due ks)) k taken is x ∙ ap (λ j. all (A o n (row_due ks)) j x) e

-- what refuses an item refuses all that are left
item_first : (A : Asks) (o n : ℕ) (w : WantedItems) (x : List ℕ) (e : Error) → 0 < items_left w → A o n (item_due w) x ≡ refuses e → items_asked A o n w x ≡ refuses e
item_first A o n (nodes zero) x e some h = absurd (omega (arith, some))
item_first A o n (nodes (suc k)) x e some h = ap (and_then (λ u. all (A o n node_due) k)) h
item_first A o n (rows_over ks zero) x e some h = absurd (omega (arith, some))
item_first A o n (rows_over ks (suc k)) x e some h = ap (and_then (λ u. all (A o n (row_due ks)) k)) h

list_begins : (T : Meaning) (tells : Option (Asking T)) (o : State) (w : WantedItems) (taken : List ℕ) → BeginsItems o.levels o.due w taken → Asked (option_map asking_vec tells) o (list_now tells o w) taken
list_begins T None o w taken head = tt
list_begins T (Some a) o w taken head =
    first_read (asked (items_at o.levels) o.opened o.due) (items_asked (counted a.asks) (suc o.opened) (less_one o.levels)) w taken (items_pass o.opened o.levels o.due w taken head)

list_head : (T : Meaning) (tells : Option (Asking T)) (o : State) → HeadAsked (option_map asking_vec tells) o (asked (items_at o.levels) o.opened o.due)
list_head T None o = tt
list_head T (Some a) o = λ x e h. ap (and_then (items_asked (counted a.asks) (suc o.opened) (less_one o.levels))) h

list_step : (T : Meaning) (tells : Option (Asking T)) (o i : State) (w v : WantedItems) (t : Tree) (c : Content) (taken : List ℕ) → i ≡ inside_items w o i.source → v ≡ items_after w → 0 < items_left w
    → Fills i.levels (item_due w) t taken → T t ≡ Some c → StepAsked (option_map asking_vec tells) (list_now tells o w) (list_now tells o v) taken
list_step T None o i w v t c taken state after some filled read = tt
list_step T (Some a) o i w v t c taken state after some filled read =
    let A = counted a.asks in
    subst (λ z. Continues (items_asked A (suc o.opened) (less_one o.levels) w) (items_asked A (suc o.opened) (less_one o.levels) z) taken) (sym after)
    (item_passed A (suc o.opened) (less_one o.levels) w taken some (part_passes T a o i (less_one o.levels) (item_due w) t c taken (inner_opened w o i state) (inner_levels w o i state) filled read))

list_first : (T : Meaning) (tells : Option (Asking T)) (o i : State) (w : WantedItems) → i ≡ inside_items w o i.source → 0 < items_left w
    → FirstAsked (option_map asking_vec tells) tells (awaiting (item_due w) i) (list_now tells o w)
list_first T None o i w state some = tt
list_first T (Some a) o i w state some =
    λ x e h. item_first (counted a.asks) (suc o.opened) (less_one o.levels) w x e some (sym (asked_inside a.asks o i (less_one o.levels) (item_due w) x (inner_opened w o i state) (inner_levels w o i state)) ∙ h)

-- ---- a list

holds_last : {A : Type 0} (holds : A → Content → Type 0) (vs : List A) (cs : List Content) (v : A) (c : Content) → HoldsAll holds vs cs → holds v c → HoldsAll holds (vs ++ v ∷ []) (cs ++ c ∷ [])
holds_last holds [] [] v c h k = (k, tt)
holds_last holds [] (d ∷ cs) v c h k = absurd h
holds_last holds (w ∷ vs) [] v c h k = absurd h
holds_last holds (w ∷ vs) (d ∷ cs) v c h k = (h.0, holds_last holds vs cs v c h.1 k)

-- items that were read of an array that was opened in the state o make this collection
pub record ReadsItems {A C : Type 0} (T : Meaning) (tells : Option (Asking T)) (holds : A → Content → Type 0) (collected : List A → C → Type 0) (o : State) (made : C) (u : OpenItems) : Type 0 where
  pub values : List A
  pub make : collected values made
  pub contents : List Content
  pub held : HoldsAll holds values contents
  pub inside : Inside (reads_vec T) (option_map asking_vec tells) o (rest_of_list T contents) (list_now tells o u.wanted) u

-- how a list is refused
abbrev pub RefusesList : (T : Meaning) → Option (Asking T) → Needs → Error → State → State → Type 0
RefusesList T tells needs e o z = Refuses (reads_vec T) (option_map asking_vec tells) (list_needs needs) e o z

pub list_refused : (T : Meaning) (tells : Option (Asking T)) (needs : Needs) {e : Error} {o z : State} → RefusesItems e o z → RefusesList T tells needs e o z
list_refused T tells needs {e = e} {o = o} {z = z} u =
    array_refused (reads_vec T) (option_map asking_vec tells) (rest_of_list T []) (list_needs needs) e o z (reads_list T) (list_head T tells o) refl u

module _ {A C : Type 0} {T : Meaning} {tells : Option (Asking T)} {holds : A → Content → Type 0} {collected : List A → C → Type 0} {o : State} {made : C} {u : OpenItems} where
  pub items_start : collected [] made → OpensItems o u → ReadsItems T tells holds collected o made u
  items_start make opens = record {
    values = [];
    make = make;
    contents = [];
    held = tt;
    inside = inside_start (reads_vec T) (option_map asking_vec tells) (rest_of_list T []) (list_now tells o u.wanted) o u (reads_list T) opens (list_begins T tells o u.wanted opens.text opens.head);
  }

  pub items_next : {more : C} {t : OpenItems} {v : A} → ReadsItems T tells holds collected o made u → IsNextItem T holds u t v → CollectsItem collected made more v → ReadsItems T tells holds collected o more t
  items_next {t = t} {v = v} h next put =
      let a = next.answers in
      let step = list_step T tells o u.state u.wanted t.wanted a.tree a.content a.text h.inside.state (ap (λ (z : OpenItems). z.wanted) next.after) next.counted a.filled a.read in
      record {
        values = h.values ++ v ∷ [];
        make = put h.values h.make;
        contents = h.contents ++ a.content ∷ [];
        held = holds_last holds h.values h.contents v a.content h.held a.held;
        inside = inside_next T holds (reads_vec T) (option_map asking_vec tells) (rest_of_list T h.contents) (λ c. rest_of_list T (h.contents ++ c ∷ [])) (list_now tells o u.wanted) (list_now tells o t.wanted) o u t v
            (list_next T h.contents) h.inside next step;
      }

  pub items_end : {z : State} → ReadsItems T tells holds collected o made u → ClosesItems u z → Answers (reads_vec T) (HoldsCollected collected holds) o z made
  items_end {z = z} h closes =
      inside_end (HoldsCollected collected holds) (reads_vec T) (option_map asking_vec tells) (rest_of_list T h.contents) (list_now tells o u.wanted) o z u (list_of (h.contents ++ [])) made h.inside closes refl
      (record { items = h.values; made = h.make; held = record { contents = h.contents; list = ap list_of (append-nil h.contents); items = h.held } })

  -- an item that was refused, or was not there, though one was left
  pub item_lacks : {needs : Needs} {e : Error} {z : State} → ReadsItems T tells holds collected o made u → 0 < items_left u.wanted → RefusesRequired T tells needs e u z → RefusesList T tells needs e o z
  item_lacks {needs = needs} {e = e} {z = z} h some (inl unread) =
      item_refused T tells needs (reads_vec T) (option_map asking_vec tells) (rest_of_list T h.contents) (λ c. rest_of_list T (h.contents ++ c ∷ [])) (list_now tells o u.wanted) (list_needs needs) e o z u
      (list_next T h.contents) (λ lent. lent) (λ m. refl) (λ t. refl) h.inside (list_first T tells o u.state u.wanted h.inside.state some) unread
  item_lacks h some (inr lacks) = absurd (omega (arith, some, lacks.counted))

-- ---- what is held

-- what stands at `Ok` of a result that is one
pub where_ok : {X E : Type 0} (r : Result X E) {P : Type 0} → is_ok r ≡ true → OnOk r P → P
where_ok (Ok x) ok p = p
where_ok (Err e) ok p = absurd cc

-- a value that was read also holds what is held by another
pub answers_as : {A B : Type 0} {reads : Meaning} (P : A → Content → Type 0) {Q : B → Content → Type 0} {o z : State} {v : A} {w : B} → ((c : Content) → P v c → Q w c) → Answers reads P o z v → Answers reads Q o z w
answers_as P so a = record {
  tree = a.tree;
  content = a.content;
  text = a.text;
  filled = a.filled;
  read = a.read;
  held = so a.content a.held;
  took = a.took;
  state = a.state;
}

-- a collection that was read holds what is held by what its items make
pub read_as : {C E : Type 0} (r : Result C E) (reads : Meaning) (P Q : C → Content → Type 0) (o z : State) → ((v : C) (c : Content) → P v c → Q v c) → IfOk r (Answers reads P o z) → IfOk r (Answers reads Q o z)
read_as (Err e) reads P Q o z so a = a
read_as (Ok v) reads P Q o z so a = answers_as P (so v) a
