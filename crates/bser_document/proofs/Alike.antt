-- Whether two items are read as the same value, part by part.
use Rattle.std.proofs.Common.{◌≡◌, ◌<◌, ◌-◌, ◌&&◌, not, ℕ, Bool, true, false, List, [], ◌∷◌, Option, Some, None, option_map, is_some, Result, Ok, Err, IfOk, MatchOption, BTreeMap, refl, sym, ap, subst, ◌∙◌, arith, Bor, nat_eq}
use Rattle.std.specs.Bool.{beq, Decides}
use Rattle.std.specs.Option.{option_eq}
use Rattle.std.specs.Ordering.{int_eq}
use Rattle.std.specs.declared.alloc.AllocError.{AllocError}
use Rattle.bser_format.specs.Expand.{expand, expand_fields}
use Rattle.bser_format.specs.Measures.{depth, items_depth, entries_depth}
use Rattle.bser_format.specs.Normal.{normal, normal_items, normal_entries, last_entries}
use Rattle.bser_format.specs.SameTree.{same_bytes, same_tree, same_items, same_entries}
use Rattle.bser_format.specs.Tree.{Tree, null, boolean, integer, real, bytes, text, array, object, template, no_items, item, no_entries, entry, entries, entries_of}
use Rattle.bser_format.specs.Tree as trees
use Rattle.bser_format.proofs.Least.{map_some}
use Rattle.bser_format.proofs.Same.{same_tree_decides}
use Rattle.bser_value.specs.Contents.{as_array, as_object, as_bool, as_i64, as_bytes, as_str}
use Rattle.bser_document.specs.declared.item.Item.{Item}
use Rattle.bser_document.specs.declared.item.ItemKind.TheVariants as kinds
use Rattle.bser_document.specs.declared.items.Items.{Items}
use Rattle.bser_document.specs.Holds.{HoldsItem, Part, tree, skipped, row_of, part_value, kind_of, is_null, as_real_bits}
use Rattle.bser_document.specs.Walks.{HoldsItems, FindsItems, GivesItem}
use Rattle.bser_document.specs.Put.{IsPlain}
use Rattle.bser_document.specs.Sorted.{Lists, FindsSorted}

-- ---- no value that is read is a template

no_template : (t : Tree) (ks : List (List ℕ)) (rs : trees.Rows) → normal t ≡ Some (template ks rs) → ⊥
no_template null ks rs e = cc
no_template (boolean v) ks rs e = cc
no_template (integer v) ks rs e = cc
no_template (real v) ks rs e = cc
no_template (bytes s) ks rs e = cc
no_template (text s) ks rs e = cc
no_template (array ts) ks rs e = map_some array (normal_items ts) (template ks rs) e λ us some same. cc
no_template (object es) ks rs e = map_some (λ m. object (entries_of (last_entries m))) (normal_entries es) (template ks rs) e λ m some same. cc
no_template (template ls qs) ks rs e = cc

pub plain_there : (i : Item) (u : Tree) → HoldsItem i u → FindsItems (as_array u) None → FindsSorted (as_object u) None → IsPlain u
plain_there i null h a o = tt
plain_there i (boolean v) h a o = tt
plain_there i (integer v) h a o = tt
plain_there i (real v) h a o = tt
plain_there i (bytes s) h a o = tt
plain_there i (text s) h a o = tt
plain_there i (array ts) h a o = absurd a
plain_there i (object es) h a o = absurd o
plain_there i (template ks rs) h a o = of_part h.part h.value
  where
    of_part : (p : Part) → part_value p ≡ Some (template ks rs) → ⊥
    of_part (tree t) e = no_template (expand t) ks rs e
    of_part skipped e = cc
    of_part (row_of ls fs) e = no_template (object (expand_fields ls fs)) ks rs e

-- ---- values that are no containers

pub bools_same : (u v : Tree) (r : Bool) → kind_of u ≡ kinds.Bool → r ≡ option_eq beq (as_bool u) (as_bool v) → r ≡ same_tree u v
bools_same (boolean b) (boolean c) r k e = e
bools_same (boolean b) _ r k e = e
bools_same _ v r k e = cc

pub integers_same : (u v : Tree) (r : Bool) → kind_of u ≡ kinds.Integer → r ≡ option_eq int_eq (as_i64 u) (as_i64 v) → r ≡ same_tree u v
integers_same (integer n) (integer m) r k e = e
integers_same (integer n) _ r k e = e
integers_same _ v r k e = cc

pub reals_same : (u v : Tree) (r : Bool) → kind_of u ≡ kinds.Real → r ≡ option_eq nat_eq (as_real_bits u) (as_real_bits v) → r ≡ same_tree u v
reals_same (real n) (real m) r k e = e
reals_same (real n) _ r k e = e
reals_same _ v r k e = cc

-- a text and a byte string both have bytes
pub texts_same : (u v : Tree) (r : Bool) → kind_of u ≡ kinds.Text → is_some (as_str v) ≡ true → r ≡ option_eq same_bytes (as_bytes u) (as_bytes v) → r ≡ same_tree u v
texts_same (text s) (text b) r k some e = e
texts_same (text s) _ r k some e = cc
texts_same _ v r k some e = cc

pub texts_differ : (u v : Tree) → kind_of u ≡ kinds.Text → is_some (as_str v) ≡ false → false ≡ same_tree u v
texts_differ (text s) (text b) k none = cc
texts_differ (text s) _ k none = refl
texts_differ _ v k none = cc

pub bytes_differ : (u v : Tree) → kind_of u ≡ kinds.Bytes → is_some (as_str v) ≡ true → false ≡ same_tree u v
bytes_differ (bytes s) (text b) k some = refl
bytes_differ (bytes s) _ k some = cc
bytes_differ _ v k some = cc

pub bytes_same : (u v : Tree) (r : Bool) → kind_of u ≡ kinds.Bytes → is_some (as_str v) ≡ false → r ≡ option_eq same_bytes (as_bytes u) (as_bytes v) → r ≡ same_tree u v
bytes_same (bytes s) (bytes b) r k none e = e
bytes_same (bytes s) (text b) r k none e = cc
bytes_same (bytes s) _ r k none e = e
bytes_same _ v r k none e = cc

pub same_options : (a b : Option (Bor (List ℕ))) → option_eq (λ x y. same_bytes x.now y.now) a b ≡ option_eq same_bytes (option_map (λ x. x.now) a) (option_map (λ x. x.now) b)
same_options None None = refl
same_options None (Some y) = refl
same_options (Some x) None = refl
same_options (Some x) (Some y) = refl

pub some_as : (a : Option (Bor (List ℕ))) (s : Option (List ℕ)) → option_map (λ x. x.now) a ≡ s → is_some a ≡ is_some s
some_as None s e = ap is_some e
some_as (Some x) s e = ap is_some e

pub nulls_same : (u v : Tree) (r : Bool) → kind_of u ≡ kinds.Null → r ≡ is_null v → r ≡ same_tree u v
nulls_same null null r k e = e
nulls_same null _ r k e = e
nulls_same _ v r k e = cc

pub no_container : (u v : Tree) → IsPlain u → kind_of u ≡ kinds.Array → false ≡ same_tree u v
no_container (array us) v plain k = absurd plain
no_container (template ks rs) v plain k = absurd plain
no_container _ v plain k = cc

pub no_object : (u v : Tree) → IsPlain u → kind_of u ≡ kinds.Object → false ≡ same_tree u v
no_object (object es) v plain k = absurd plain
no_object _ v plain k = cc

-- ---- tests

pub not_true : (r b : Bool) → r ≡ not b → r ≡ true → false ≡ b
not_true r true e t = cc
not_true r false e t = refl

pub not_false : (r b : Bool) → r ≡ not b → r ≡ false → true ≡ b
not_false r true e t = refl
not_false r false e t = cc

-- ---- containers

pub arrays_same : (u v : Tree) (ss os : Items) (room : ℕ) (r : Result Bool AllocError) → FindsItems (as_array u) (Some ss) → FindsItems (as_array v) (Some os) → depth u < room
    → ((us vs : trees.Items) → HoldsItems ss us → HoldsItems os vs → items_depth us < room - 1 → IfOk r (λ same. same ≡ same_items us vs)) → IfOk r (λ same. same ≡ same_tree u v)
arrays_same (array us) (array vs) ss os room r h k less same = same us vs h k (omega (arith, less))
arrays_same (array us) _ ss os room r h k less same = absurd k
arrays_same _ v ss os room r h k less same = absurd h

pub array_alone : (u v : Tree) (ss : Items) → FindsItems (as_array u) (Some ss) → FindsItems (as_array v) None → false ≡ same_tree u v
array_alone (array us) (array vs) ss h k = absurd k
array_alone (array us) _ ss h k = refl
array_alone _ v ss h k = absurd h

pub objects_same : (u v : Tree) (ss os : BTreeMap (Bor (List ℕ)) Item) (room : ℕ) (r : Result Bool AllocError) → FindsSorted (as_object u) (Some ss) → FindsSorted (as_object v) (Some os) → depth u < room
    → ((es fs : trees.Entries) → Lists (entries es) ss.entries → Lists (entries fs) os.entries → entries_depth es < room - 1 → IfOk r (λ same. same ≡ same_entries es fs)) → IfOk r (λ same. same ≡ same_tree u v)
objects_same (object es) (object fs) ss os room r h k less same = same es fs h k (omega (arith, less))
objects_same (object es) _ ss os room r h k less same = absurd k
objects_same _ v ss os room r h k less same = absurd h

pub object_alone : (u v : Tree) (ss : BTreeMap (Bor (List ℕ)) Item) → FindsSorted (as_object u) (Some ss) → FindsSorted (as_object v) None → false ≡ same_tree u v
object_alone (object es) (object fs) ss h k = absurd k
object_alone (object es) _ ss h k = refl
object_alone _ v ss h k = absurd h

-- ---- items, one after the other

-- these items are left on both sides, and they are the same where all are
pub record SameItems (us vs : trees.Items) (left right : Items) (room : ℕ) : Type 0 where
  pub ones : trees.Items
  pub others : trees.Items
  pub holds : HoldsItems left ones
  pub holds_others : HoldsItems right others
  pub deep : items_depth ones < room
  pub same : same_items ones others ≡ same_items us vs

pub items_more : (us vs : trees.Items) (left left' right right' : Items) (room : ℕ) (i o : Item)
    → ((ts : trees.Items) → HoldsItems left ts → GivesItem ts (Some i) left') → ((ts : trees.Items) → HoldsItems right ts → GivesItem ts (Some o) right')
    → ((u v : Tree) → HoldsItem i u → HoldsItem o v → depth u < room → true ≡ same_tree u v) → SameItems us vs left right room → SameItems us vs left' right' room
items_more us vs left left' right right' room i o gives gives' same h = of_both h.ones h.others h.holds h.holds_others h.deep h.same
  where
    of_both : (ts ws : trees.Items) → HoldsItems left ts → HoldsItems right ws → items_depth ts < room → same_items ts ws ≡ same_items us vs → SameItems us vs left' right' room
    of_both no_items ws h k less e = absurd (gives no_items h)
    of_both (item t ts) no_items h k less e = absurd (gives' no_items k)
    of_both (item t ts) (item w ws) h k less e =
        let g = gives (item t ts) h in
        let g' = gives' (item w ws) k in
        record { ones = ts; others = ws; holds = g.1; holds_others = g'.1; deep = omega (arith, less); same = ap (λ b. b && same_items ts ws) (same t w g.0 g'.0 (omega (arith, less))) ∙ e }

pub items_differ : (us vs : trees.Items) (left left' right right' : Items) (room : ℕ) (i o : Item)
    → ((ts : trees.Items) → HoldsItems left ts → GivesItem ts (Some i) left') → ((ts : trees.Items) → HoldsItems right ts → GivesItem ts (Some o) right')
    → ((u v : Tree) → HoldsItem i u → HoldsItem o v → depth u < room → false ≡ same_tree u v) → SameItems us vs left right room → false ≡ same_items us vs
items_differ us vs left left' right right' room i o gives gives' same h = of_both h.ones h.others h.holds h.holds_others h.deep h.same
  where
    of_both : (ts ws : trees.Items) → HoldsItems left ts → HoldsItems right ws → items_depth ts < room → same_items ts ws ≡ same_items us vs → false ≡ same_items us vs
    of_both no_items ws h k less e = absurd (gives no_items h)
    of_both (item t ts) no_items h k less e = absurd (gives' no_items k)
    of_both (item t ts) (item w ws) h k less e =
        ap (λ b. b && same_items ts ws) (same t w (gives (item t ts) h).0 (gives' (item w ws) k).0 (omega (arith, less))) ∙ e

pub items_longer : (us vs : trees.Items) (left left' right right' : Items) (room : ℕ) (i : Item)
    → ((ts : trees.Items) → HoldsItems left ts → GivesItem ts (Some i) left') → ((ts : trees.Items) → HoldsItems right ts → GivesItem ts None right') → SameItems us vs left right room → false ≡ same_items us vs
items_longer us vs left left' right right' room i gives gives' h = of_both h.ones h.others h.holds h.holds_others h.same
  where
    of_both : (ts ws : trees.Items) → HoldsItems left ts → HoldsItems right ws → same_items ts ws ≡ same_items us vs → false ≡ same_items us vs
    of_both no_items ws h k e = absurd (gives no_items h)
    of_both (item t ts) no_items h k e = e
    of_both (item t ts) (item w ws) h k e = absurd (gives' (item w ws) k)

pub items_end : (us vs : trees.Items) (left left' right right' : Items) (room : ℕ) (o : Option Item) (r : Bool)
    → ((ts : trees.Items) → HoldsItems left ts → GivesItem ts None left') → ((ts : trees.Items) → HoldsItems right ts → GivesItem ts o right') → is_some o ≡ not r → SameItems us vs left right room → r ≡ same_items us vs
items_end us vs left left' right right' room o r gives gives' none h = of_both h.ones h.others o r h.holds (gives' h.others h.holds_others) none h.same
  where
    of_both : (ts ws : trees.Items) (o : Option Item) (r : Bool) → HoldsItems left ts → GivesItem ws o right' → is_some o ≡ not r → same_items ts ws ≡ same_items us vs → r ≡ same_items us vs
    of_both (item t ts) ws o r h g none e = absurd (gives (item t ts) h)
    of_both no_items no_items None r h g none e = of_test r none ∙ e
      where
        of_test : (r : Bool) → false ≡ not r → r ≡ true
        of_test true e = refl
        of_test false e = e
    of_both no_items no_items (Some i) r h g none e = absurd g
    of_both no_items (item w ws) None r h g none e = absurd g
    of_both no_items (item w ws) (Some i) r h g none e = of_test r none ∙ e
      where
        of_test : (r : Bool) → true ≡ not r → r ≡ false
        of_test true e = e
        of_test false e = refl

-- ---- entries, one after the other

-- these entries are left on both sides, and they are the same where all are
pub record SameEntries (es fs : trees.Entries) (left right : List (Bor (List ℕ) × Item)) (room : ℕ) : Type 0 where
  pub ones : trees.Entries
  pub others : trees.Entries
  pub lists : Lists (entries ones) left
  pub lists_others : Lists (entries others) right
  pub deep : entries_depth ones < room
  pub same : same_entries ones others ≡ same_entries es fs

pub entries_more : (es fs : trees.Entries) (e o : Bor (List ℕ) × Item) (left right : List (Bor (List ℕ) × Item)) (room : ℕ) → true ≡ same_bytes e.0.now o.0.now
    → ((u v : Tree) → HoldsItem e.1 u → HoldsItem o.1 v → depth u < room → true ≡ same_tree u v) → SameEntries es fs (e ∷ left) (o ∷ right) room → SameEntries es fs left right room
entries_more es fs e o left right room key same h = of_both h.ones h.others h.lists h.lists_others h.deep h.same
  where
    of_both : (ts ws : trees.Entries) → Lists (entries ts) (e ∷ left) → Lists (entries ws) (o ∷ right) → entries_depth ts < room → same_entries ts ws ≡ same_entries es fs → SameEntries es fs left right room
    of_both no_entries ws h k less e' = absurd h
    of_both (entry n t ts) no_entries h k less e' = absurd k
    of_both (entry n t ts) (entry m w ws) h k less e' =
        let keys : true ≡ same_bytes n m = key ∙ ap (λ a. same_bytes a o.0.now) h.0.0 ∙ ap (same_bytes n) k.0.0 in
        let values : true ≡ same_tree t w = same t w h.0.1 k.0.1 (omega (arith, less)) in
        record { ones = ts; others = ws; lists = h.1; lists_others = k.1; deep = omega (arith, less); same = ap (λ b. b && same_entries ts ws) values ∙ ap (λ b. (b && same_tree t w) && same_entries ts ws) keys ∙ e' }

pub keys_differ : (es fs : trees.Entries) (e o : Bor (List ℕ) × Item) (left right : List (Bor (List ℕ) × Item)) (room : ℕ) → false ≡ same_bytes e.0.now o.0.now → SameEntries es fs (e ∷ left) (o ∷ right) room → false ≡ same_entries es fs
keys_differ es fs e o left right room key h = of_both h.ones h.others h.lists h.lists_others h.same
  where
    of_both : (ts ws : trees.Entries) → Lists (entries ts) (e ∷ left) → Lists (entries ws) (o ∷ right) → same_entries ts ws ≡ same_entries es fs → false ≡ same_entries es fs
    of_both no_entries ws h k e' = absurd h
    of_both (entry n t ts) no_entries h k e' = absurd k
    of_both (entry n t ts) (entry m w ws) h k e' =
        let keys : false ≡ same_bytes n m = key ∙ ap (λ a. same_bytes a o.0.now) h.0.0 ∙ ap (same_bytes n) k.0.0 in
        ap (λ b. (b && same_tree t w) && same_entries ts ws) keys ∙ e'

pub values_differ : (es fs : trees.Entries) (e o : Bor (List ℕ) × Item) (left right : List (Bor (List ℕ) × Item)) (room : ℕ) → true ≡ same_bytes e.0.now o.0.now
    → ((u v : Tree) → HoldsItem e.1 u → HoldsItem o.1 v → depth u < room → false ≡ same_tree u v) → SameEntries es fs (e ∷ left) (o ∷ right) room → false ≡ same_entries es fs
values_differ es fs e o left right room key same h = of_both h.ones h.others h.lists h.lists_others h.deep h.same
  where
    of_both : (ts ws : trees.Entries) → Lists (entries ts) (e ∷ left) → Lists (entries ws) (o ∷ right) → entries_depth ts < room → same_entries ts ws ≡ same_entries es fs → false ≡ same_entries es fs
    of_both no_entries ws h k less e' = absurd h
    of_both (entry n t ts) no_entries h k less e' = absurd k
    of_both (entry n t ts) (entry m w ws) h k less e' =
        let keys : true ≡ same_bytes n m = key ∙ ap (λ a. same_bytes a o.0.now) h.0.0 ∙ ap (same_bytes n) k.0.0 in
        let values : false ≡ same_tree t w = same t w h.0.1 k.0.1 (omega (arith, less)) in
        ap (λ b. b && same_entries ts ws) values ∙ ap (λ b. (b && same_tree t w) && same_entries ts ws) keys ∙ e'

pub entries_longer : (es fs : trees.Entries) (e : Bor (List ℕ) × Item) (left right : List (Bor (List ℕ) × Item)) (room : ℕ) → right ≡ [] → SameEntries es fs (e ∷ left) right room → false ≡ same_entries es fs
entries_longer es fs e left right room none h = of_both h.ones h.others h.lists (subst (Lists (entries h.others)) none h.lists_others) h.same
  where
    of_both : (ts ws : trees.Entries) → Lists (entries ts) (e ∷ left) → Lists (entries ws) [] → same_entries ts ws ≡ same_entries es fs → false ≡ same_entries es fs
    of_both no_entries ws h k e' = absurd h
    of_both (entry n t ts) no_entries h k e' = e'
    of_both (entry n t ts) (entry m w ws) h k e' = absurd k

pub entries_end : (es fs : trees.Entries) (left right : List (Bor (List ℕ) × Item)) (room : ℕ) → left ≡ [] → right ≡ [] → SameEntries es fs left right room → true ≡ same_entries es fs
entries_end es fs left right room none none' h = of_both h.ones h.others (subst (Lists (entries h.ones)) none h.lists) (subst (Lists (entries h.others)) none' h.lists_others) h.same
  where
    of_both : (ts ws : trees.Entries) → Lists (entries ts) [] → Lists (entries ws) [] → same_entries ts ws ≡ same_entries es fs → true ≡ same_entries es fs
    of_both no_entries no_entries h k e' = e'
    of_both no_entries (entry m w ws) h k e' = absurd k
    of_both (entry n t ts) ws h k e' = absurd h

pub entries_shorter : (es fs : trees.Entries) (o : Bor (List ℕ) × Item) (left right : List (Bor (List ℕ) × Item)) (room : ℕ) → left ≡ [] → SameEntries es fs left (o ∷ right) room → false ≡ same_entries es fs
entries_shorter es fs o left right room none h = of_both h.ones h.others (subst (Lists (entries h.ones)) none h.lists) h.lists_others h.same
  where
    of_both : (ts ws : trees.Entries) → Lists (entries ts) [] → Lists (entries ws) (o ∷ right) → same_entries ts ws ≡ same_entries es fs → false ≡ same_entries es fs
    of_both no_entries no_entries h k e' = absurd k
    of_both no_entries (entry m w ws) h k e' = e'
    of_both (entry n t ts) ws h k e' = absurd h

-- the same of equal lists
pub entries_at : (es fs : trees.Entries) (left left' right right' : List (Bor (List ℕ) × Item)) (room : ℕ) → left ≡ left' → right ≡ right' → SameEntries es fs left right room → SameEntries es fs left' right' room
entries_at es fs left left' right right' room e e' h = subst (λ r. SameEntries es fs left' r room) e' (subst (λ l. SameEntries es fs l right room) e h)

-- nothing is left of the first, and the other gave its next entry, if it has one
pub last_same : (es fs : trees.Entries) (left right right' : List (Bor (List ℕ) × Item)) (room : ℕ) (o : Option (Bor (Bor (List ℕ)) × Bor Item)) (r : Bool) → left ≡ []
    → MatchOption o ((right ≡ []) × (right' ≡ [])) (λ x. right ≡ (x.0.now, x.1.now) ∷ right') → is_some o ≡ not r → SameEntries es fs left right room → r ≡ same_entries es fs
last_same es fs left right right' room None true none steps is h = entries_end es fs left right room none steps.0 h
last_same es fs left right right' room None false none steps is h = cc
last_same es fs left right right' room (Some x) true none steps is h = cc
last_same es fs left right right' room (Some x) false none steps is h =
    entries_shorter es fs (x.0.now, x.1.now) left right' room none (entries_at es fs left left right ((x.0.now, x.1.now) ∷ right') room refl steps h)

-- ---- what is decided

pub same_decides : (u v : Tree) (r : Result Bool AllocError) → IfOk r (λ same. same ≡ same_tree u v) → IfOk r (λ same. Decides same (u ≡ v))
same_decides u v (Ok b) e = let d = same_tree_decides u v in ((λ t. d.0 (sym e ∙ t)), (λ s. e ∙ d.1 s))
same_decides u v (Err x) e = tt
