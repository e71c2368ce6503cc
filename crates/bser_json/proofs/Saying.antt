-- Tokens that are put one after the other.
use Rattle.std.proofs.Common.{◌≡◌, ℕ, List, [], ◌∷◌, ◌++◌, Option, Some, None, Result, Ok, Err, OnOk, refl, sym, ap, subst, append_assoc, append-nil, Bor}
use Rattle.json.specs.Token as tokens
use Rattle.bser_format.specs.Normal.{last_entries}
use Rattle.bser_format.specs.Tree.{Tree, null, boolean, integer, real, bytes, text, array, object, template, no_items, item, no_entries, entry, entries, entries_of}
use Rattle.bser_format.specs.Tree as trees
use Rattle.bser_value.specs.Contents.{as_array, as_object}
use Rattle.bser_document.specs.declared.entries.Entries.{Entries}
use Rattle.bser_document.specs.declared.entries.Entry.{Entry}
use Rattle.bser_document.specs.declared.item.Item.{Item}
use Rattle.bser_document.specs.declared.items.Items.{Items}
use Rattle.bser_document.specs.Holds.{HoldsItem}
use Rattle.bser_document.specs.Pairs.{HoldsEntries, FindsEntries, StepsOverEntries}
use Rattle.bser_document.specs.Sorted.{Lists}
use Rattle.bser_document.specs.Walks.{HoldsItems, FindsItems, GivesItem}
use Rattle.bser_json.specs.Printed.{Prints, Puts}
use Rattle.bser_json.specs.Said.{Says, SaysItems, SaysEntries, SaysKey, PutsSaid, said_key}
use Rattle.bser_json.specs.declared.printing.Printing.{Printing}

-- ---- tokens

pub puts_then : {W : Type 0} (contents : W → Option (List ℕ)) (a b : List tokens.Token) (x y z : Printing W) → Puts contents a x y → Puts contents b y z → Puts contents (a ++ b) x z
puts_then contents a b x y z p q start layout ts h = subst (λ l. Prints contents start layout l z) (append_assoc ts a b) (q start layout (ts ++ a) (p start layout ts h))

pub puts_last : {W E : Type 0} (contents : W → Option (List ℕ)) (r : Result (Unit {0}) E) (a b : List tokens.Token) (x y z : Printing W) → Puts contents a x y → OnOk r (Puts contents b y z) → OnOk r (Puts contents (a ++ b) x z)
puts_last contents (Ok v) a b x y z p q = puts_then contents a b x y z p q
puts_last contents (Err e) a b x y z p q = tt

-- ---- what a call says where it succeeds

pub one_said : {W E : Type 0} (contents : W → Option (List ℕ)) (r : Result (Unit {0}) E) (said : List tokens.Token → Type 0) (ts : List tokens.Token) (x y : Printing W) → said ts → OnOk r (Puts contents ts x y) → OnOk r (PutsSaid contents said x y)
one_said contents (Ok v) said ts x y s p = (ts, s, p)
one_said contents (Err e) said ts x y s p = tt

pub more_said : {W E : Type 0} (contents : W → Option (List ℕ)) (r : Result (Unit {0}) E) (said other : List tokens.Token → Type 0) (x y : Printing W) → ((ts : List tokens.Token) → said ts → other ts) → OnOk r (PutsSaid contents said x y) → OnOk r (PutsSaid contents other x y)
more_said contents (Ok v) said other x y f p = (p.0, f p.0 p.1, p.2)
more_said contents (Err e) said other x y f p = tt

-- of a value that is another
pub same_said : {W E : Type 0} (contents : W → Option (List ℕ)) (r : Result (Unit {0}) E) (u v : Tree) (x y : Printing W) → u ≡ v → OnOk r (PutsSaid contents (Says v) x y) → OnOk r (PutsSaid contents (Says u) x y)
same_said contents r u v x y e p = subst (λ t. OnOk r (PutsSaid contents (Says t) x y)) (sym e) p

-- ---- containers

entries_back : (m : List (List ℕ × Tree)) → entries (entries_of m) ≡ m
entries_back [] = refl
entries_back (p ∷ m) = ap (λ l. p ∷ l) (entries_back m)

pub array_said : {W E : Type 0} (contents : W → Option (List ℕ)) (s : Items) (r : Result (Unit {0}) E) (x y : Printing W) (u : Tree) → FindsItems (as_array u) (Some s) → ((us : trees.Items) → HoldsItems s us → OnOk r (PutsSaid contents (Says (array us)) x y)) → OnOk r (PutsSaid contents (Says u) x y)
array_said contents s r x y null h said = absurd h
array_said contents s r x y (boolean v) h said = absurd h
array_said contents s r x y (integer v) h said = absurd h
array_said contents s r x y (real v) h said = absurd h
array_said contents s r x y (bytes l) h said = absurd h
array_said contents s r x y (text l) h said = absurd h
array_said contents s r x y (array us) h said = said us h
array_said contents s r x y (object es) h said = absurd h
array_said contents s r x y (template ks rs) h said = absurd h

pub object_said : {W E : Type 0} (contents : W → Option (List ℕ)) (s : Entries) (r : Result (Unit {0}) E) (x y : Printing W) (u : Tree) → FindsEntries (as_object u) (Some s) → ((m : List (List ℕ × Tree)) → HoldsEntries s m → OnOk r (PutsSaid contents (Says (object (entries_of (last_entries m)))) x y))
    → OnOk r (PutsSaid contents (Says u) x y)
object_said contents s r x y null h said = absurd h
object_said contents s r x y (boolean v) h said = absurd h
object_said contents s r x y (integer v) h said = absurd h
object_said contents s r x y (real v) h said = absurd h
object_said contents s r x y (bytes l) h said = absurd h
object_said contents s r x y (text l) h said = absurd h
object_said contents s r x y (array us) h said = absurd h
object_said contents s r x y (object es) h said = subst (λ l. OnOk r (PutsSaid contents (Says (object l)) x y)) (sym h.same) (said h.spelled h.holds)
object_said contents s r x y (template ks rs) h said = absurd h

-- entries in order are those of the object
pub sorted_said : {W E : Type 0} (contents : W → Option (List ℕ)) (all : List (Bor (List ℕ) × Item)) (r : Result (Unit {0}) E) (x y : Printing W) (m : List (List ℕ × Tree)) → Lists (last_entries m) all → ((es : trees.Entries) → Lists (entries es) all → OnOk r (PutsSaid contents (Says (object es)) x y))
    → OnOk r (PutsSaid contents (Says (object (entries_of (last_entries m)))) x y)
sorted_said contents all r x y m lists said = said (entries_of (last_entries m)) (subst (λ l. Lists l all) (sym (entries_back (last_entries m))) lists)

-- ---- the items of an array

-- the items before these are put
pub record SayingItems {W : Type 0} (contents : W → Option (List ℕ)) (us : trees.Items) (rest : Items) (x y : Printing W) : Type 0 where
  pub left : trees.Items
  pub holds : HoldsItems rest left
  pub done : List tokens.Token
  pub said : (more : List tokens.Token) → SaysItems left more → SaysItems us (done ++ more)
  pub puts : Puts contents (tokens.begin_array ∷ done) x y

pub items_begun : {W : Type 0} (contents : W → Option (List ℕ)) (us : trees.Items) (s rest : Items) (x y : Printing W) → HoldsItems s us → rest ≡ s → Puts contents (tokens.begin_array ∷ []) x y → SayingItems contents us rest x y
items_begun contents us s rest x y h same puts = record { left = us; holds = subst (λ s. HoldsItems s us) (sym same) h; done = []; said = λ more k. k; puts = puts }

pub item_more : {W : Type 0} (contents : W → Option (List ℕ)) (us : trees.Items) (rest next : Items) (i : Item) (x y z : Printing W) → ((us : trees.Items) → HoldsItems rest us → GivesItem us (Some i) next) → ((u : Tree) → HoldsItem i u → PutsSaid contents (Says u) y z) → SayingItems contents us rest x y → SayingItems contents us next x z
item_more contents us rest next i x y z gives put s = of_left s.left s.holds s.said
  where
    of_left : (l : trees.Items) → HoldsItems rest l → ((more : List tokens.Token) → SaysItems l more → SaysItems us (s.done ++ more)) → SayingItems contents us next x z
    of_left no_items holds said = absurd (gives no_items holds)
    of_left (item u l) holds said =
        let g = gives (item u l) holds in
        let p = put u g.0 in
        record {
          left = l;
          holds = g.1;
          done = s.done ++ p.0;
          said = λ more k. subst (SaysItems us) (sym (append_assoc s.done p.0 more)) (said (p.0 ++ more) (p.0, more, p.1, k, refl));
          puts = puts_then contents (tokens.begin_array ∷ s.done) p.0 x y z s.puts p.2;
        }

items_whole : {W : Type 0} (contents : W → Option (List ℕ)) (us : trees.Items) (rest next : Items) (x y z : Printing W) → ((us : trees.Items) → HoldsItems rest us → GivesItem us None next) → Puts contents (tokens.end_array ∷ []) y z → SayingItems contents us rest x y → PutsSaid contents (Says (array us)) x z
items_whole contents us rest next x y z gives last s = of_left s.left s.holds s.said
  where
    of_left : (l : trees.Items) → HoldsItems rest l → ((more : List tokens.Token) → SaysItems l more → SaysItems us (s.done ++ more)) → PutsSaid contents (Says (array us)) x z
    of_left no_items holds said =
        (tokens.begin_array ∷ (s.done ++ tokens.end_array ∷ []), (s.done, subst (SaysItems us) (append-nil s.done) (said [] refl), refl), puts_then contents (tokens.begin_array ∷ s.done) (tokens.end_array ∷ []) x y z s.puts last)
    of_left (item u l) holds said = absurd (gives (item u l) holds)

pub items_said : {W E : Type 0} (contents : W → Option (List ℕ)) (us : trees.Items) (rest next : Items) (x y z : Printing W) (r : Result (Unit {0}) E) → ((us : trees.Items) → HoldsItems rest us → GivesItem us None next) → OnOk r (Puts contents (tokens.end_array ∷ []) y z) → SayingItems contents us rest x y
    → OnOk r (PutsSaid contents (Says (array us)) x z)
items_said contents us rest next x y z (Ok v) gives last s = items_whole contents us rest next x y z gives last s
items_said contents us rest next x y z (Err e) gives last s = tt

-- ---- the entries of an object

-- the first of these entries has this key and this value, and the others are left
abbrev pub Begins : List ℕ → Item → (trees.Entries → Type 0) → trees.Entries → Type 0
Begins key i next no_entries = ⊥
Begins key i next (entry k u l) = (key ≡ k) × HoldsItem i u × next l

-- the entries before those that are left are put
pub record SayingEntries {W : Type 0} (contents : W → Option (List ℕ)) (es : trees.Entries) (rest : trees.Entries → Type 0) (x y : Printing W) : Type 0 where
  pub left : trees.Entries
  pub holds : rest left
  pub done : List tokens.Token
  pub said : (more : List tokens.Token) → SaysEntries left more → SaysEntries es (done ++ more)
  pub puts : Puts contents (tokens.begin_object ∷ done) x y

pub entries_begun : {W : Type 0} (contents : W → Option (List ℕ)) (es : trees.Entries) (rest : trees.Entries → Type 0) (x y : Printing W) → rest es → Puts contents (tokens.begin_object ∷ []) x y → SayingEntries contents es rest x y
entries_begun contents es rest x y h puts = record { left = es; holds = h; done = []; said = λ more k. k; puts = puts }

pub entry_more : {W : Type 0} (contents : W → Option (List ℕ)) (es : trees.Entries) (rest next : trees.Entries → Type 0) (key : List ℕ) (i : Item) (x y z w : Printing W) → ((l : trees.Entries) → rest l → Begins key i next l) → PutsSaid contents (SaysKey key) y z → ((u : Tree) → HoldsItem i u → PutsSaid contents (Says u) z w) → SayingEntries contents es rest x y → SayingEntries contents es next x w
entry_more contents es rest next key i x y z w comes name put s = of_left s.left (comes s.left s.holds) s.said
  where
    of_left : (l : trees.Entries) → Begins key i next l → ((more : List tokens.Token) → SaysEntries l more → SaysEntries es (s.done ++ more)) → SayingEntries contents es next x w
    of_left no_entries h said = absurd h
    of_left (entry k u l) h said =
        let p = put u h.1 in
        let n : Puts contents (said_key k ∷ []) y z = subst (λ k. Puts contents (said_key k ∷ []) y z) h.0 (subst (λ ts. Puts contents ts y z) name.1 name.2) in
        record {
          left = l;
          holds = h.2;
          done = s.done ++ said_key k ∷ p.0;
          said = λ more h. subst (SaysEntries es) (sym (append_assoc s.done (said_key k ∷ p.0) more)) (said (said_key k ∷ (p.0 ++ more)) (p.0, more, p.1, h, refl));
          puts = puts_then contents (tokens.begin_object ∷ s.done) (said_key k ∷ p.0) x y w s.puts (puts_then contents (said_key k ∷ []) p.0 y z w n p.2);
        }

pub entries_said : {W E : Type 0} (contents : W → Option (List ℕ)) (es : trees.Entries) (rest : trees.Entries → Type 0) (x y z : Printing W) (r : Result (Unit {0}) E) → ((l : trees.Entries) → rest l → l ≡ no_entries) → OnOk r (Puts contents (tokens.end_object ∷ []) y z) → SayingEntries contents es rest x y → OnOk r (PutsSaid contents (Says (object es)) x z)
entries_said contents es rest x y z (Ok v) none last s =
    let said = subst (λ l. (more : List tokens.Token) → SaysEntries l more → SaysEntries es (s.done ++ more)) (none s.left s.holds) s.said in
    (tokens.begin_object ∷ (s.done ++ tokens.end_object ∷ []), (s.done, subst (SaysEntries es) (append-nil s.done) (said [] refl), refl), puts_then contents (tokens.begin_object ∷ s.done) (tokens.end_object ∷ []) x y z s.puts last)
entries_said contents es rest x y z (Err e) none last s = tt

-- of entries in order
pub listed_comes : (rest next : List (Bor (List ℕ) × Item)) (e : Bor (List ℕ) × Item) → rest ≡ e ∷ next → (l : trees.Entries) → Lists (entries l) rest → Begins e.0.now e.1 (λ l. Lists (entries l) next) l
listed_comes rest next e steps no_entries h = absurd (subst (Lists []) steps h)
listed_comes rest next e steps (entry k u l) h =
    let s = subst (Lists (entries (entry k u l))) steps h in
    (s.0.0, s.0.1, s.1)

pub listed_back : (es : trees.Entries) (all rest : List (Bor (List ℕ) × Item)) → rest ≡ all → Lists (entries es) all → Lists (entries es) rest
listed_back es all rest same h = subst (Lists (entries es)) (sym same) h

pub listed_end : (rest : List (Bor (List ℕ) × Item)) → rest ≡ [] → (l : trees.Entries) → Lists (entries l) rest → l ≡ no_entries
listed_end rest none no_entries h = refl
listed_end rest none (entry k u l) h = absurd (subst (Lists (entries (entry k u l))) none h)

-- of entries as they are spelled
pub spelled_comes : (rest next : Entries) (e : Entry) → StepsOverEntries rest (Some e) next → (l : trees.Entries) → HoldsEntries rest (entries l) → Begins e.key.now e.value (λ l. HoldsEntries next (entries l)) l
spelled_comes rest next e gives no_entries h = absurd (gives [] h)
spelled_comes rest next e gives (entry k u l) h = gives (entries (entry k u l)) h

pub spelled_end : (rest next : Entries) → StepsOverEntries rest None next → (l : trees.Entries) → HoldsEntries rest (entries l) → l ≡ no_entries
spelled_end rest next gives no_entries h = refl
spelled_end rest next gives (entry k u l) h = absurd (gives (entries (entry k u l)) h)

pub spelled_back : (m : List (List ℕ × Tree)) (s rest : Entries) → rest ≡ s → HoldsEntries s m → HoldsEntries rest (entries (entries_of m))
spelled_back m s rest same h = subst (λ s. HoldsEntries s (entries (entries_of m))) (sym same) (subst (HoldsEntries s) (sym (entries_back m)) h)

pub risen_said : {W E : Type 0} (contents : W → Option (List ℕ)) (r : Result (Unit {0}) E) (x y : Printing W) (m : List (List ℕ × Tree)) → last_entries m ≡ m → OnOk r (PutsSaid contents (Says (object (entries_of m))) x y) → OnOk r (PutsSaid contents (Says (object (entries_of (last_entries m)))) x y)
risen_said contents r x y m same p = subst (λ m. OnOk r (PutsSaid contents (Says (object (entries_of m))) x y)) (sym same) p
