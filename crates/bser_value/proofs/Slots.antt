-- A map of places takes the fields that stand there.
use Rattle.std.proofs.Common.{◌≡◌, ◌≢◌, ℕ, zero, suc, pos, ◌+◌, ◌<◌, List, [], ◌∷◌, ◌++◌, map, length, drop, get_or, set, fold, Bool, true, cond, String, Ordering, Less, Equal, Greater, string_bytes, refl, sym, ap, subst, ◌∙◌, arith}
use Rattle.std.proofs.Math.Seq.{drop-cons}
use Rattle.std.proofs.lemmas.Cmp.{nat_list_cmp_total, tied_itself}
use Rattle.std.proofs.lemmas.List.{drop_all, length-drop, length-set, get_or-set_other, length-map}
use Rattle.std.proofs.lemmas.Map.Text.{is_eq-slice_cmp}
use Rattle.std.proofs.lemmas.Slice.Eq.{bytes_eq-Decides}
use Rattle.std.specs.BTreeMap.{insert_entry}
use Rattle.std.specs.List.{AllByRecursion, AllZip, zip}
use Rattle.std.specs.List.Sorted.{IsStrictlySortedBy}
use Rattle.std.specs.Map.{keys_of}
use Rattle.std.specs.Map.Calls.{RetainsPairs}
use Rattle.std.specs.Ordering.{is_eq, match_ordering}
use Rattle.std.specs.declared.alloc.Global.{Global}
use Rattle.bser_format.specs.Tree.{Tree, null, integer}
use Rattle.bser_format.specs.Normal.{last_entries}
use Rattle.bser_format.proofs.Entries.{cmp, keys_rise}
use Rattle.bser_value.specs.declared.value.Value.{Value, Null}
use Rattle.bser_value.specs.Places.{places_from, ArePlaces, TakesPlace, TakesFields}
use Rattle.bser_value.specs.ValueView.{tree_of, entry_trees}
use Rattle.bser_value.proofs.Views.{Entry, tree_of-Null}

-- ---- the entries of mapped values

abbrev pub with_values : {X Y : Type 0} → (X → Y) → List (List ℕ × X) → List (List ℕ × Y)
with_values f es = map (λ e. (e.0, f e.1)) es

with_values-match_ordering : {X Y : Type 0} (f : X → Y) (o : Ordering) (a b c : List (List ℕ × X)) → with_values f (match_ordering o a b c) ≡ match_ordering o (with_values f a) (with_values f b) (with_values f c)
with_values-match_ordering f Less a b c = refl
with_values-match_ordering f Equal a b c = refl
with_values-match_ordering f Greater a b c = refl

with_values-insert : {X Y : Type 0} (f : X → Y) (es : List (List ℕ × X)) (k : List ℕ) (x : X) → with_values f (insert_entry cmp es k x) ≡ insert_entry cmp (with_values f es) k (f x)
with_values-insert f [] k x = refl
with_values-insert f (e ∷ es) k x = with_values-match_ordering f (cmp k e.0) _ _ _ ∙ rw (with_values-insert f es k x)

abbrev put_all : {X : Type 0} → List (List ℕ × X) → List (List ℕ × X) → List (List ℕ × X)
put_all m es = fold (λ n e. insert_entry cmp n e.0 e.1) m es

with_values-put_all : {X Y : Type 0} (f : X → Y) (m es : List (List ℕ × X)) → with_values f (put_all m es) ≡ put_all (with_values f m) (with_values f es)
with_values-put_all f m [] = refl
with_values-put_all f m (e ∷ es) = with_values-put_all f (insert_entry cmp m e.0 e.1) es ∙ ap (λ n. put_all n (with_values f es)) (with_values-insert f m e.0 e.1)

with_values-zip : {X Y : Type 0} (f : X → Y) (ks : List (List ℕ)) (xs : List X) → with_values f (zip ks xs) ≡ zip ks (map f xs)
with_values-zip f [] xs = refl
with_values-zip f (k ∷ ks) [] = refl
with_values-zip f (k ∷ ks) (x ∷ xs) = ap (λ es. (k, f x) ∷ es) (with_values-zip f ks xs)

with_values-last : {X Y : Type 0} (f : X → Y) (ks : List (List ℕ)) (xs : List X) → with_values f (last_entries (zip ks xs)) ≡ last_entries (zip ks (map f xs))
with_values-last f ks xs = with_values-put_all f [] (zip ks xs) ∙ ap last_entries (with_values-zip f ks xs)

-- ---- the places as numbers

abbrev pub numbers : ℕ → List (List ℕ) → List ℕ
numbers n [] = []
numbers n (k ∷ ks) = n ∷ numbers (suc n) ks

places_from-numbers : (n : ℕ) (ks : List (List ℕ)) → map (λ p. integer (pos p)) (numbers n ks) ≡ places_from n ks
places_from-numbers n [] = refl
places_from-numbers n (k ∷ ks) = ap (λ ts. integer (pos n) ∷ ts) (places_from-numbers (suc n) ks)

fields_at : (ts : List Tree) (n : ℕ) (ks : List (List ℕ)) → length ks + n ≡ length ts → map (λ p. get_or ts p null) (numbers n ks) ≡ drop n ts
fields_at ts n [] h = sym (drop_all n ts (omega arith))
fields_at ts n (k ∷ ks) h = ap (λ us. get_or ts n null ∷ us) (fields_at ts (suc n) ks (omega arith)) ∙ sym (drop-cons ts n null (omega arith))

-- ---- each key at its place

abbrev Stands : List (List ℕ) → List ℕ × ℕ → Type 0
Stands ks e = (e.1 < length ks) × (get_or ks e.1 [] ≡ e.0)

all_stand : (ks : List (List ℕ)) (n : ℕ) (rest : List (List ℕ)) → drop n ks ≡ rest → AllByRecursion (Stands ks) (zip rest (numbers n rest))
all_stand ks n [] h = tt
all_stand ks n (k ∷ rest) h =
    let within : n < length ks = omega (arith, ap length h, length-drop n ks) in
    let here : get_or ks n [] ∷ drop (suc n) ks ≡ k ∷ rest = sym (drop-cons ks n [] within) ∙ h in
    ((within, ap (λ l. get_or l 0 []) here), all_stand ks (suc n) rest (ap (drop 1) here))

same_key : (k l : List ℕ) → cmp k l ≡ Equal → k ≡ l
same_key k l e = (bytes_eq-Decides k l).0 (sym (is_eq-slice_cmp k l) ∙ ap is_eq e)

insert_keeps : (P : List ℕ × ℕ → Type 0) (es : List (List ℕ × ℕ)) (k : List ℕ) (n : ℕ) → AllByRecursion P es → P (k, n) → AllByRecursion P (insert_entry cmp es k n)
insert_keeps P [] k n h p = (p, tt)
insert_keeps P (e ∷ es) k n h p = go (cmp k e.0) refl (insert_keeps P es k n h.1 p)
  where
    go : (o : Ordering) → cmp k e.0 ≡ o → AllByRecursion P (insert_entry cmp es k n) → AllByRecursion P (match_ordering o ((k, n) ∷ e ∷ es) ((e.0, n) ∷ es) (e ∷ insert_entry cmp es k n))
    go Less l r = (p, h)
    go Equal l r = (subst (λ q. P (q, n)) (same_key k e.0 l) p, h.1)
    go Greater l r = (h.0, r)

put_all_keeps : (P : List ℕ × ℕ → Type 0) (m es : List (List ℕ × ℕ)) → AllByRecursion P m → AllByRecursion P es → AllByRecursion P (put_all m es)
put_all_keeps P m [] a b = a
put_all_keeps P m (e ∷ es) a b = put_all_keeps P (insert_entry cmp m e.0 e.1) es (insert_keeps P m e.0 e.1 a b.0) b.1

-- no two entries have one place
abbrev Apart : List (List ℕ × ℕ) → Type 0
Apart [] = Unit {0}
Apart (e ∷ es) = AllByRecursion (λ d. d.1 ≢ e.1) es × Apart es

apart_from_above : (ks : List (List ℕ)) (e : List ℕ × ℕ) (es : List (List ℕ × ℕ)) → Stands ks e → AllByRecursion (λ y. cmp e.0 y ≡ Less) (keys_of es) → AllByRecursion (Stands ks) es → AllByRecursion (λ d. d.1 ≢ e.1) es
apart_from_above ks e [] s above h = tt
apart_from_above ks e (d ∷ es) s above h = (
  λ (same : d.1 ≡ e.1).
      let keys : d.0 ≡ e.0 = sym h.0.1 ∙ ap (λ p. get_or ks p []) same ∙ s.1 in
      let less : cmp e.0 e.0 ≡ Less = subst (λ k. cmp e.0 k ≡ Less) keys above.0 in
      let tied : cmp e.0 e.0 ≡ Equal = tied_itself nat_list_cmp_total e.0 in
      cc,
  apart_from_above ks e es s above.1 h.1,
)

apart_from_rise : (ks : List (List ℕ)) (es : List (List ℕ × ℕ)) → IsStrictlySortedBy cmp (keys_of es) → AllByRecursion (Stands ks) es → Apart es
unfolding IsStrictlySortedBy
apart_from_rise ks [] rise h = tt
apart_from_rise ks (e ∷ es) rise h = (apart_from_above ks e es h.0 rise.0 h.1, apart_from_rise ks es rise.1 h.1)

-- ---- the fields of a row

get_or-trees : (row : List Value) (p : ℕ) → tree_of (get_or row p Null) ≡ get_or (map tree_of row) p null
get_or-trees [] p = tree_of-Null
get_or-trees (v ∷ row) zero = refl
get_or-trees (v ∷ row) (suc p) = get_or-trees row p

-- the row has the field of this entry
abbrev HasField : List Tree → List Value → List ℕ × ℕ → Type 0
HasField ts row e = (e.1 < length row) × (tree_of (get_or row e.1 Null) ≡ get_or ts e.1 null)

has_field_from_stands : (ks : List (List ℕ)) (row : List Value) (es : List (List ℕ × ℕ)) → length row ≡ length ks → AllByRecursion (Stands ks) es → AllByRecursion (HasField (map tree_of row) row) es
has_field_from_stands ks row [] l h = tt
has_field_from_stands ks row (e ∷ es) l h = ((omega arith, get_or-trees row e.1), has_field_from_stands ks row es l h.1)

has_field_after : (ts : List Tree) (p : ℕ) (row left : List Value) (es : List (List ℕ × ℕ)) → left ≡ set row p Null → AllByRecursion (λ d. d.1 ≢ p) es → AllByRecursion (HasField ts row) es → AllByRecursion (HasField ts left) es
has_field_after ts p row left [] same other h = tt
has_field_after ts p row left (e ∷ es) same other h = (
  (
    omega (arith, ap length same, length-set row p Null),
    ap (λ l. tree_of (get_or l e.1 Null)) same ∙ ap tree_of (get_or-set_other row p e.1 Null Null other.0) ∙ h.0.1,
  ),
  has_field_after ts p row left es same other.1 h.1,
)

-- ---- the calls of a closure that takes a field at each slot

module _ {F : Type 0} (T : F → String Global → Value → Bool → Value → F → Type 0) (I : F → Type 0) (row_of : F → List Value) where
  retained : ((f : F) (k : String Global) (v : Value) (b : Bool) (w : Value) (g : F) → I f → T f k v b w g → (b ≡ true) × TakesPlace v (row_of f) w (row_of g) × I g)
      → (ts : List Tree) (f : F) (es kept : List Entry) (ns : List (List ℕ × ℕ)) → I f → RetainsPairs T f es kept → entry_trees es ≡ with_values (λ p. integer (pos p)) ns
      → Apart ns → AllByRecursion (HasField ts (row_of f)) ns → entry_trees kept ≡ with_values (λ p. get_or ts p null) ns
  retained told ts f [] kept [] i ran same apart held = ap entry_trees ran
  retained told ts f [] kept (n ∷ ns) i ran same apart held = cc
  retained told ts f (e ∷ es) kept [] i ran same apart held = cc
  retained told ts f (e ∷ es) kept (n ∷ ns) i ran same apart held =
      let first : (string_bytes e.0, tree_of e.1) ≡ (n.0, integer (pos n.1)) = ap (λ l. get_or l 0 ([], null)) same in
      let said = told f e.0 e.1 ran.0 ran.1 ran.2 i ran.4 in
      let took = said.1 n.1 (ap (λ p. p.1) first) held.0.0 in
      let rest = retained told ts ran.2 es ran.3 ns said.2 ran.5 (ap (drop 1) same) apart.1 (has_field_after ts n.1 (row_of f) (row_of ran.2) ns took.1 apart.0 held.1) in
      ap entry_trees (ran.6 ∙ ap (λ b. cond b ((e.0, ran.1) ∷ ran.3) ran.3) said.0)
      ∙ ap (λ k. (k, tree_of ran.1) ∷ entry_trees ran.3) (ap (λ p. p.0) first)
      ∙ ap (λ t. (n.0, t) ∷ entry_trees ran.3) (ap tree_of took.0 ∙ held.0.1)
      ∙ ap (λ l. (n.0, get_or ts n.1 null) ∷ l) rest

  pub takes_fields : ((f : F) (k : String Global) (v : Value) (b : Bool) (w : Value) (g : F) → I f → T f k v b w g → (b ≡ true) × TakesPlace v (row_of f) w (row_of g) × I g)
      → (f : F) (row : List Value) (es kept : List Entry) → I f → row_of f ≡ row → RetainsPairs T f es kept → TakesFields es row kept
  takes_fields told f row es kept i here ran = λ ks len same.
      let ts = map tree_of row in
      let ns = last_entries (zip ks (numbers 0 ks)) in
      let stand : AllByRecursion (Stands ks) ns = put_all_keeps (Stands ks) [] (zip ks (numbers 0 ks)) tt (all_stand ks 0 ks refl) in
      let apart : Apart ns = apart_from_rise ks ns (keys_rise (zip ks (numbers 0 ks))) stand in
      let held : AllByRecursion (HasField ts (row_of f)) ns = subst (λ r. AllByRecursion (HasField ts r) ns) (sym here) (has_field_from_stands ks row ns len stand) in
      let placed : last_entries (zip ks (places_from 0 ks)) ≡ with_values (λ p. integer (pos p)) ns = sym (with_values-last (λ p. integer (pos p)) ks (numbers 0 ks) ∙ ap (λ xs. last_entries (zip ks xs)) (places_from-numbers 0 ks)) in
      retained told ts f es kept ns i ran (same ∙ placed) apart held
      ∙ with_values-last (λ p. get_or ts p null) ks (numbers 0 ks)
      ∙ ap (λ us. last_entries (zip ks us)) (fields_at ts 0 ks (omega (arith, length-map row tree_of)))

-- ---- a clone, and one place more

-- a clone of a map has the same keys and trees
pub entry_trees-clone : (es fs : List Entry) → AllZip (λ p q. (string_bytes q.0 ≡ string_bytes p.0) × (tree_of q.1 ≡ tree_of p.1)) es fs → entry_trees fs ≡ entry_trees es
entry_trees-clone [] [] h = refl
entry_trees-clone [] (f ∷ fs) h = absurd h
entry_trees-clone (e ∷ es) [] h = absurd h
entry_trees-clone (e ∷ es) (f ∷ fs) h = ap (λ k. (k, tree_of f.1) ∷ entry_trees fs) h.0.0 ∙ ap (λ t. (string_bytes e.0, t) ∷ entry_trees fs) h.0.1 ∙ ap (λ l. (string_bytes e.0, tree_of e.1) ∷ l) (entry_trees-clone es fs h.1)

-- an entry more is put in last
pub put_last : {X : Type 0} (m es : List (List ℕ × X)) (k : List ℕ) (x : X) → put_all m (es ++ (k, x) ∷ []) ≡ insert_entry cmp (put_all m es) k x
put_last m [] k x = refl
put_last m (e ∷ es) k x = put_last (insert_entry cmp m e.0 e.1) es k x

zip_place : (n m : ℕ) (ks : List (List ℕ)) (k : List ℕ) → n + length ks ≡ m → zip (ks ++ k ∷ []) (places_from n (ks ++ k ∷ [])) ≡ zip ks (places_from n ks) ++ (k, integer (pos m)) ∷ []
zip_place n m [] k h = ap (λ p. (k, integer (pos p)) ∷ []) (let e : n ≡ m = omega arith in e)
zip_place n m (l ∷ ks) k h = ap (λ es. (l, integer (pos n)) ∷ es) (zip_place (suc n) m ks k (omega arith))

-- a key more stands at the next place
pub place_more : (ks : List (List ℕ)) (k : List ℕ) (es fs : List Entry) → ArePlaces ks es → entry_trees fs ≡ insert_entry cmp (entry_trees es) k (integer (pos (length ks))) → ArePlaces (ks ++ k ∷ []) fs
place_more ks k es fs h put =
    put ∙ ap (λ m. insert_entry cmp m k (integer (pos (length ks)))) h ∙ sym (put_last [] (zip ks (places_from 0 ks)) k (integer (pos (length ks))))
    ∙ ap last_entries (sym (zip_place 0 (length ks) ks k (omega arith)))

-- ---- a row, field by field

zip_none : {X : Type 0} (ks : List (List ℕ)) → zip {X = X} ks [] ≡ []
zip_none [] = refl
zip_none (k ∷ ks) = refl

zip_one : {X : Type 0} (ks : List (List ℕ)) (xs : List X) (k : List ℕ) (ls : List (List ℕ)) (x : X) → drop (length xs) ks ≡ k ∷ ls → zip ks (xs ++ x ∷ []) ≡ zip ks xs ++ (k, x) ∷ []
zip_one [] [] k ls x h = absurd cc
zip_one [] (y ∷ xs) k ls x h = absurd cc
zip_one (j ∷ ks) [] k ls x h = ap (λ es. (j, x) ∷ es) (zip_none ks) ∙ ap (λ l. (l, x) ∷ []) (let e : j ≡ k = ap (λ l. get_or l 0 []) h in e)
zip_one (j ∷ ks) (y ∷ xs) k ls x h = ap (λ es. (j, y) ∷ es) (zip_one ks xs k ls x h)

-- the entries with one field more
pub entries_more : {X : Type 0} (ks : List (List ℕ)) (xs : List X) (k : List ℕ) (ls : List (List ℕ)) (x : X) → drop (length xs) ks ≡ k ∷ ls
    → last_entries (zip ks (xs ++ x ∷ [])) ≡ insert_entry cmp (last_entries (zip ks xs)) k x
entries_more ks xs k ls x h = ap last_entries (zip_one ks xs k ls x h) ∙ put_last [] (zip ks xs) k x

-- before the first field
pub entries_none : {X : Type 0} (ks : List (List ℕ)) → last_entries {X = X} (zip ks []) ≡ []
entries_none ks = ap last_entries (zip_none ks)
