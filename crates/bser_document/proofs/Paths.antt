-- Walking along a path, one token after the other.
use Rattle.std.proofs.Common.{◌≡◌, ◌<◌, ◌^◌, ◌+◌, ℕ, zero, suc, Bool, true, false, cond, List, [], ◌∷◌, length, Option, Some, None, option_map, option_and_then, slice_get, refl, sym, ap, subst, ◌∙◌, arith}
use Rattle.std.specs.Cmp.Lexicographic.{bytes_decides}
use Rattle.std.specs.Fmt.{decimal}
use Rattle.std.proofs.lemmas.Fmt.{decimal_injective}
use Rattle.bser_format.specs.SameTree.{same_bytes}
use Rattle.bser_format.specs.Tree.{Tree, null, boolean, integer, real, bytes, text, array, object, template, no_items, item, items}
use Rattle.bser_format.specs.Tree as trees
use Rattle.bser_value.specs.Contents.{as_array, as_object, get}
use Rattle.bser_document.specs.declared.item.Item.{Item}
use Rattle.bser_document.specs.declared.items.Items.{Items}
use Rattle.bser_document.specs.declared.entries.Entries.{Entries}
use Rattle.bser_document.specs.Holds.{HoldsItem}
use Rattle.bser_document.specs.Walks.{HoldsItems, FindsItems, GivesItem, length_of}
use Rattle.bser_document.specs.Pairs.{FindsEntries, FindsItem}
use Rattle.bser_document.specs.Pointer.{token_text, item_written, item_there, child, descendant, between_slashes}

-- ---- the item at a place

-- these items are left, and the one that is looked for is at this place among them
pub record Passed (u : Tree) (index : ℕ) (rest : Items) (n : ℕ) : Type 0 where
  pub left : trees.Items
  pub holds : HoldsItems rest left
  pub same : slice_get (items left) n ≡ item_there index u

pub none_passed : (u : Tree) (index : ℕ) (rest : Items) (n : ℕ) → n ≡ index → FindsItems (as_array u) (Some rest) → Passed u index rest n
none_passed (array us) index rest n e h = record { left = us; holds = h; same = ap (slice_get (items us)) e }
none_passed _ index rest n e h = absurd h

pub one_passed : (u : Tree) (index : ℕ) (rest next : Items) (i : Item) (n k : ℕ) → n ≡ suc k → ((us : trees.Items) → HoldsItems rest us → GivesItem us (Some i) next) → Passed u index rest n → Passed u index next k
one_passed u index rest next i n k e gives h = of_left h.left h.holds (ap (slice_get (items h.left)) (sym e) ∙ h.same)
  where
    of_left : (us : trees.Items) → HoldsItems rest us → slice_get (items us) (suc k) ≡ item_there index u → Passed u index next k
    of_left no_items holds same = absurd (gives no_items holds)
    of_left (item t ts) holds same = record { left = ts; holds = (gives (item t ts) holds).1; same = same }

pub none_left : (u : Tree) (index : ℕ) (rest next : Items) (n : ℕ) → ((us : trees.Items) → HoldsItems rest us → GivesItem us None next) → Passed u index rest n → FindsItem (item_there index u) None
none_left u index rest next n gives h = of_left h.left h.holds h.same
  where
    of_left : (us : trees.Items) → HoldsItems rest us → slice_get (items us) n ≡ item_there index u → FindsItem (item_there index u) None
    of_left no_items holds same = subst (λ o. FindsItem o None) same tt
    of_left (item t ts) holds same = absurd (gives (item t ts) holds)

pub one_left : (u : Tree) (index : ℕ) (rest next : Items) (o : Option Item) (n : ℕ) → n ≡ 0 → ((us : trees.Items) → HoldsItems rest us → GivesItem us o next) → Passed u index rest n → FindsItem (item_there index u) o
one_left u index rest next o n e gives h = subst (λ f. FindsItem f o) (ap (slice_get (items h.left)) (sym e) ∙ h.same) (of_left h.left o (gives h.left h.holds))
  where
    of_left : (us : trees.Items) (o : Option Item) → GivesItem us o next → FindsItem (slice_get (items us) 0) o
    of_left no_items None g = tt
    of_left no_items (Some i) g = absurd g
    of_left (item t ts) None g = absurd g
    of_left (item t ts) (Some i) g = g.0

pub no_array_there : (u : Tree) (index : ℕ) → FindsItems (as_array u) None → FindsItem (item_there index u) None
no_array_there (array us) index h = absurd h
no_array_there _ index h = tt

-- ---- the item whose index is written

same_true : (s t : List ℕ) → s ≡ t → same_bytes s t ≡ true
same_true s t e = (bytes_decides s t).1 e

same_false : (s t : List ℕ) → (s ≡ t → ⊥) → same_bytes s t ≡ false
same_false s t never = of_test (same_bytes s t) (λ e. never ((bytes_decides s t).0 e))
  where
    of_test : (b : Bool) → (b ≡ true → ⊥) → b ≡ false
    of_test true h = absurd (h refl)
    of_test false h = refl

-- no item's index is written so
none_written : (s : List ℕ) (n : ℕ) (ts : trees.Items) → ((k : ℕ) → k < n + length (items ts) → s ≡ decimal k → ⊥) → item_written s n ts ≡ None
none_written s n no_items never = refl
none_written s n (item t ts) never =
    ap (λ b. cond b (Some t) (item_written s (n + 1) ts)) (same_false s (decimal n) (never n (omega arith)))
    ∙ none_written s (n + 1) ts (λ k less. never k (omega (arith, less)))

-- the item at place n of items that begin at index m
one_written : (m n : ℕ) (ts : trees.Items) → m + n < 2 ^ 64 → item_written (decimal (m + n)) m ts ≡ slice_get (items ts) n
one_written m n no_items small = refl
one_written m zero (item t ts) small =
    let here : m + 0 ≡ m = omega arith in
    ap (λ b. cond b (Some t) (item_written (decimal (m + 0)) (m + 1) ts)) (same_true (decimal (m + 0)) (decimal m) (ap decimal here))
one_written m (suc n) (item t ts) small =
    let other : decimal (m + suc n) ≡ decimal m → ⊥ = λ e. let same = decimal_injective (m + suc n) m small (omega (arith, small)) e in omega (arith, same) in
    let on : m + suc n ≡ m + 1 + n = omega arith in
    ap (λ b. cond b (Some t) (item_written (decimal (m + suc n)) (m + 1) ts)) (same_false (decimal (m + suc n)) (decimal m) other)
    ∙ ap (λ k. item_written (decimal k) (m + 1) ts) on ∙ one_written (m + 1) n ts (omega (arith, small))

-- ---- what a token leads to

pub entry_led : (s : List ℕ) (u : Tree) (entries : Entries) (o : Option Item) → FindsEntries (as_object u) (Some entries) → FindsItem (get (token_text s) u) o → FindsItem (child s u) o
entry_led s (object es) entries o h found = found
entry_led s _ entries o h found = absurd h

pub item_led : (s : List ℕ) (u : Tree) (n : ℕ) (o : Option Item) → n < 2 ^ 64 → s ≡ decimal n → FindsEntries (as_object u) None → FindsItem (item_there n u) o → FindsItem (child s u) o
item_led s (array ts) n o small is h found =
    let begun : n ≡ 0 + n = omega arith in
    subst (λ f. FindsItem f o) (sym (ap (λ w. item_written w 0 ts) (is ∙ ap decimal begun) ∙ one_written 0 n ts (omega (arith, small)))) found
item_led s (object es) n o small is h found = absurd h
item_led s _ n o small is h found = found

pub no_item_led : (s : List ℕ) (u : Tree) (len : ℕ) → Some len ≡ option_map length_of (as_array u) → ((n : ℕ) → n < len → s ≡ decimal n → ⊥) → FindsItem (child s u) None
no_item_led s (array ts) len count never =
    let all : len ≡ length (items ts) = cc in
    subst (λ f. FindsItem f None) (sym (none_written s 0 ts (λ k less. never k (omega (arith, less, all))))) tt
no_item_led s _ len count never = cc

pub no_array_led : (s : List ℕ) (u : Tree) → None ≡ option_map length_of (as_array u) → FindsEntries (as_object u) None → FindsItem (child s u) None
no_array_led s (array ts) count h = cc
no_array_led s (object es) count h = absurd h
no_array_led s _ count h = tt

-- ---- what tokens lead to

-- from this item the tokens that are left lead to where all do
pub record Led (u : Tree) (path rest : List ℕ) (i : Item) : Type 0 where
  pub here : Tree
  pub holds : HoldsItem i here
  pub same : descendant (between_slashes rest) here ≡ descendant (between_slashes path) u

pub one_led : (u : Tree) (path rest s behind : List ℕ) (i next : Item) → between_slashes rest ≡ s ∷ between_slashes behind → ((v : Tree) → HoldsItem i v → FindsItem (child s v) (Some next)) → Led u path rest i → Led u path behind next
one_led u path rest s behind i next cut found h = of_child (child s h.here) (found h.here h.holds) (ap (λ ss. descendant ss h.here) (sym cut) ∙ h.same)
  where
    of_child : (o : Option Tree) → FindsItem o (Some next) → option_and_then (descendant (between_slashes behind)) o ≡ descendant (between_slashes path) u → Led u path behind next
    of_child None f same = absurd f
    of_child (Some v) f same = record { here = v; holds = f; same = same }

pub led_nowhere : (u : Tree) (path rest s behind : List ℕ) (i : Item) → between_slashes rest ≡ s ∷ between_slashes behind → ((v : Tree) → HoldsItem i v → FindsItem (child s v) None) → Led u path rest i → FindsItem (descendant (between_slashes path) u) None
led_nowhere u path rest s behind i cut found h = of_child (child s h.here) (found h.here h.holds) (ap (λ ss. descendant ss h.here) (sym cut) ∙ h.same)
  where
    of_child : (o : Option Tree) → FindsItem o None → option_and_then (descendant (between_slashes behind)) o ≡ descendant (between_slashes path) u → FindsItem (descendant (between_slashes path) u) None
    of_child None f same = subst (λ o. FindsItem o None) same tt
    of_child (Some v) f same = absurd f

pub last_led : (u : Tree) (path rest : List ℕ) (i : Item) (o : Option Item) → between_slashes rest ≡ rest ∷ [] → ((v : Tree) → HoldsItem i v → FindsItem (child rest v) o) → Led u path rest i → FindsItem (descendant (between_slashes path) u) o
last_led u path rest i o cut found h =
    subst (λ f. FindsItem f o) (sym (alone (child rest h.here)) ∙ ap (λ ss. descendant ss h.here) (sym cut) ∙ h.same) (found h.here h.holds)
  where
    alone : (o : Option Tree) → option_and_then (descendant []) o ≡ o
    alone None = refl
    alone (Some v) = refl
