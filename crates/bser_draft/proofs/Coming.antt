-- What came and what is to come make what was to come.
use Rattle.std.proofs.Common.{◌≡◌, ◌≢◌, ℕ, suc, ◌-◌, ◌<◌, ◌≤◌, ◌^◌, List, [], ◌∷◌, ◌++◌, length, refl, sym, ap, subst, ◌∙◌, arith, append_assoc, append-nil}
use Rattle.bser_format.specs.Tree as trees
use Rattle.bser_format.specs.Tree.{Items, Entries, items, entries}
use Rattle.bser_format.specs.Canonical.{canonical_body, canonical_items, canonical_entries, canonical_key, least_count, ItemsAreWritable}
use Rattle.bser_format.specs.Expand.{ItemsAreTemplateFree}
use Rattle.bser_format.specs.Measures.{items_depth}
use Rattle.bser_format.specs.Pieces.{array_head, object_head, key_piece}
use Rattle.bser_draft.specs.declared.container.Container.{Container}
use Rattle.bser_draft.specs.ToCome.{IsLeast, AreItems, AreEntries, Comes, ComesOfAll}
use Rattle.bser_draft.specs.Steps.{holding, less_value, less_key}

-- ---- values and entries

no_items : (n : ℕ) → AreItems n 0 []
no_items n = record { trees = trees.no_items; count = refl; writable = tt; plain = tt; deep = omega arith; least = refl }

no_entries : (n : ℕ) → AreEntries n 0 []
no_entries n = record { trees = trees.no_entries; count = refl; writable = tt; plain = tt; deep = omega arith; least = refl }

item_more : (n k : ℕ) (p b : List ℕ) → IsLeast n p → AreItems n k b → AreItems n (suc k) (p ++ b)
item_more n k p b h l =
    let deep = h.deep in
    let others = l.deep in record {
      trees = trees.item h.tree l.trees;
      count = ap suc l.count;
      writable = (h.writable, l.writable);
      plain = (h.plain, l.plain);
      deep = omega (arith, deep, others);
      least = ap (λ x. x ++ b) h.least ∙ ap (λ x. canonical_body h.tree ++ x) l.least;
    }

entry_more : (n k : ℕ) (key p b : List ℕ) → length key < 2 ^ 63 → IsLeast n p → AreEntries n k b → AreEntries n (suc k) (key_piece key ++ (p ++ b))
entry_more n k key p b short h l =
    let deep = h.deep in
    let others = l.deep in record {
      trees = trees.entry key h.tree l.trees;
      count = ap suc l.count;
      writable = (short, h.writable, l.writable);
      plain = (h.plain, l.plain);
      deep = omega (arith, deep, others);
      least = sym (append_assoc (canonical_key key) p b) ∙ ap (λ x. (canonical_key key ++ x) ++ b) h.least ∙ ap (λ x. (canonical_key key ++ canonical_body h.tree) ++ x) l.least;
    }

-- one item is a value
one_item : (n : ℕ) (b : List ℕ) → AreItems n 1 b → IsLeast n b
one_item n b l = of l.trees l.count l.writable l.plain l.deep l.least
  where
    of : (ts : Items) → length (items ts) ≡ 1 → ItemsAreWritable ts → ItemsAreTemplateFree ts → items_depth ts ≤ n → b ≡ canonical_items ts → IsLeast n b
    of trees.no_items one w p d e = absurd (omega (arith, one))
    of (trees.item t trees.no_items) one w p d e = record { tree = t; writable = w.0; plain = p.0; deep = omega (arith, d); least = e ∙ append-nil (canonical_body t) }
    of (trees.item t (trees.item u ts)) one w p d e = absurd (omega (arith, one))

-- no item and no entry are no bytes
no_item : (n : ℕ) (b : List ℕ) → AreItems n 0 b → b ≡ []
no_item n b l = of l.trees l.count l.least
  where
    of : (ts : Items) → length (items ts) ≡ 0 → b ≡ canonical_items ts → b ≡ []
    of trees.no_items none e = e
    of (trees.item t ts) none e = absurd (omega (arith, none))

no_entry : (n : ℕ) (b : List ℕ) → AreEntries n 0 b → b ≡ []
no_entry n b l = of l.trees l.count l.least
  where
    of : (es : Entries) → length (entries es) ≡ 0 → b ≡ canonical_entries es → b ≡ []
    of trees.no_entries none e = e
    of (trees.entry k t es) none e = absurd (omega (arith, none))

-- ---- containers

array_least : (n k : ℕ) (b : List ℕ) → k < 2 ^ 63 → AreItems n k b → IsLeast (suc n) (array_head k ++ b)
array_least n k b short l =
    let deep = l.deep in record {
      tree = trees.array l.trees;
      writable = (subst (λ j. j < 2 ^ 63) (sym l.count) short, l.writable);
      plain = l.plain;
      deep = omega (arith, deep);
      least = ap (λ j. 0x00 ∷ (least_count j ++ b)) (sym l.count) ∙ ap (λ x. 0x00 ∷ (least_count (length (items l.trees)) ++ x)) l.least;
    }

object_least : (n k : ℕ) (b : List ℕ) → k < 2 ^ 63 → AreEntries n k b → IsLeast (suc n) (object_head k ++ b)
object_least n k b short l =
    let deep = l.deep in record {
      tree = trees.object l.trees;
      writable = (subst (λ j. j < 2 ^ 63) (sym l.count) short, l.writable);
      plain = l.plain;
      deep = omega (arith, deep);
      least = ap (λ j. 0x01 ∷ (least_count j ++ b)) (sym l.count) ∙ ap (λ x. 0x01 ∷ (least_count (length (entries l.trees)) ++ x)) l.least;
    }

-- what comes of an array that was opened makes a value with its head
pub array_comes : (n k : ℕ) (b : List ℕ) → n ≢ 0 → k < 2 ^ 63 → Comes (holding k 0 (n - 1)) b → IsLeast n (array_head k ++ b)
array_comes n k b deep short c =
    let bare : c.behind ≡ [] = no_entry (n - 1) c.behind c.are_entries in
    let all : AreItems (n - 1) k b = subst (AreItems (n - 1) k) (sym (c.whole ∙ ap (λ x. c.next ++ x) bare ∙ append-nil c.next)) c.are_values in
    let above : suc (n - 1) ≡ n = omega (arith, deep) in
    subst (λ m. IsLeast m (array_head k ++ b)) above (array_least (n - 1) k b short all)

-- what comes of an object that was opened makes a value with its head
pub object_comes : (n k : ℕ) (b : List ℕ) → n ≢ 0 → k < 2 ^ 63 → Comes (holding 0 k (n - 1)) b → IsLeast n (object_head k ++ b)
object_comes n k b deep short c =
    let bare : c.next ≡ [] = no_item (n - 1) c.next c.are_values in
    let all : AreEntries (n - 1) k b = subst (AreEntries (n - 1) k) (sym (c.whole ∙ ap (λ x. x ++ c.behind) bare)) c.are_entries in
    let above : suc (n - 1) ≡ n = omega (arith, deep) in
    subst (λ m. IsLeast m (object_head k ++ b)) above (object_least (n - 1) k b short all)

-- ---- what is to come of one container

-- nothing, where nothing is left
pub nothing_comes : (o : Container) → o.values ≡ 0 → o.entries ≡ 0 → Comes o []
nothing_comes o values entries = record {
  next = [];
  behind = [];
  whole = refl;
  are_values = subst (λ j. AreItems o.levels j []) (sym values) (no_items o.levels);
  are_entries = subst (λ j. AreEntries o.levels j []) (sym entries) (no_entries o.levels);
}

-- a value, and what is to come behind it
pub value_comes : (o : Container) (p b : List ℕ) → o.values ≢ 0 → IsLeast o.levels p → Comes (less_value o) b → Comes o (p ++ b)
value_comes o p b due h c =
    let one : suc (o.values - 1) ≡ o.values = omega (arith, due) in record {
      next = p ++ c.next;
      behind = c.behind;
      whole = ap (λ x. p ++ x) c.whole ∙ sym (append_assoc p c.next c.behind);
      are_values = subst (λ j. AreItems o.levels j (p ++ c.next)) one (item_more o.levels (o.values - 1) p c.next h c.are_values);
      are_entries = c.are_entries;
    }

-- a key, and what is to come behind it
pub key_comes : (o : Container) (key b : List ℕ) → length key < 2 ^ 63 → o.values ≡ 0 → o.entries ≢ 0 → Comes (less_key o) b → Comes o (key_piece key ++ b)
key_comes o key b short none due c =
    let one : suc (o.entries - 1) ≡ o.entries = omega (arith, due) in record {
      next = [];
      behind = key_piece key ++ (c.next ++ c.behind);
      whole = ap (λ x. key_piece key ++ x) c.whole;
      are_values = subst (λ j. AreItems o.levels j []) (sym none) (no_items o.levels);
      are_entries = subst (λ j. AreEntries o.levels j (key_piece key ++ (c.next ++ c.behind))) one (entry_more o.levels (o.entries - 1) key c.next c.behind short (one_item o.levels c.next c.are_values) c.are_entries);
    }

-- ---- what is to come of all

-- of one more inside
pub comes_inside : (os : List Container) (o : Container) (x y : List ℕ) → Comes o x → ComesOfAll os y → ComesOfAll (os ++ o ∷ []) (x ++ y)
comes_inside [] o x y h none = ([], x ++ y, refl, refl, subst (Comes o) (sym (ap (λ k. x ++ k) none ∙ append-nil x)) h)
comes_inside (p ∷ os) o x y h c = (
  x ++ c.0,
  c.1,
  ap (λ k. x ++ k) c.2 ∙ sym (append_assoc x c.0 c.1),
  comes_inside os o x c.0 h c.3,
  c.4,
)

-- first of the innermost one, and then of those around it
pub record ComesInside (os : List Container) (o : Container) (b : List ℕ) : Type 0 where
  pub inner : List ℕ
  pub outer : List ℕ
  pub whole : b ≡ inner ++ outer
  pub of_inner : Comes o inner
  pub of_outer : ComesOfAll os outer

pub innermost_comes : (os : List Container) (o : Container) (b : List ℕ) → ComesOfAll (os ++ o ∷ []) b → ComesInside os o b
innermost_comes [] o b c = record {
  inner = b;
  outer = [];
  whole = sym (append-nil b);
  of_inner = subst (Comes o) (sym (c.2 ∙ ap (λ x. x ++ c.1) c.3)) c.4;
  of_outer = refl;
}
innermost_comes (p ∷ os) o b c =
    let i = innermost_comes os o c.0 c.3 in record {
      inner = i.inner;
      outer = i.outer ++ c.1;
      whole = c.2 ∙ ap (λ x. x ++ c.1) i.whole ∙ append_assoc i.inner i.outer c.1;
      of_inner = i.of_inner;
      of_outer = (i.outer, c.1, refl, i.of_outer, c.4);
    }

-- the one value that is to come
pub first_comes : (n : ℕ) (b : List ℕ) → Comes (holding 1 0 n) b → IsLeast n b
first_comes n b c =
    let bare : c.behind ≡ [] = no_entry n c.behind c.are_entries in
    subst (IsLeast n) (sym (c.whole ∙ ap (λ x. c.next ++ x) bare ∙ append-nil c.next)) (one_item n c.next c.are_values)
