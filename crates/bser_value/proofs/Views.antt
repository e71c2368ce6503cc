-- Lemmas on the trees of the parts of a value.
use Rattle.std.proofs.Common.{◌≡◌, Bool, ℕ, suc, ◌+◌, ◌<◌, drop, get_or, add-one, List, [], ◌∷◌, ◌++◌, map, length, String, Vec, BTreeMap, Ordering, Less, Equal, Greater, nat_cmp, string_bytes, refl, sym, ap, ◌∙◌, rules}
use Rattle.std.proofs.Math.Seq.{drop-cons}
use Rattle.std.proofs.lemmas.Cmp.{nat_list_cmp_total}
use Rattle.std.specs.declared.alloc.Global.{Global}
use Rattle.std.specs.Cmp.Lexicographic.{slice_cmp}
use Rattle.std.specs.List.{AllByRecursion}
use Rattle.std.specs.List.Sorted.{IsStrictlySortedBy}
use Rattle.std.specs.Ordering.{match_ordering, ordering_reverse}
use Rattle.std.specs.BTreeMap.{insert_entry}
use Rattle.std.specs.Map.{keys_of}
use Rattle.std.specs.String.{string_cmp}
use Rattle.bser_format.specs.Tree.{Tree, null, boolean, real, bytes, integer, text, array, object, items, entry, entries, entries_of, items_of}
use Rattle.bser_format.specs.Compact.{keys}
use Rattle.bser_format.specs.declared.bytestring.ByteString.{ByteString}
use Rattle.std.specs.Prelude.{ℤ, Ok}
use Rattle.bser_format.specs.Written.{map_ok, item_before, entry_before, written_items, written_entries, array_tree, object_tree}
use Rattle.bser_value.specs.declared.value.Value as value
use Rattle.bser_value.specs.declared.value.Value.{Value, Array, Object, Integer, Null, Utf8String, the_lemmas}
use Rattle.bser_value.specs.ValueView.{tree_of, items_view, entries_view}

-- a list from the place of an item on
pub drop-item : {A : Type 0} (xs : List A) (i : ℕ) (x : A) → i < length xs → x ≡ get_or xs i x → drop i xs ≡ x ∷ drop (i + 1) xs
drop-item xs i x h e = rw add-one (drop-cons xs i x h ∙ ap (λ y. y ∷ drop (suc i) xs) (sym e))

-- an entry of an object's map
abbrev pub Entry : Type 0
Entry = String Global × Value

-- one level of the tree of an array and of an object
pub tree_of-Array : (v : Vec Value Global) → tree_of (Array v) ≡ array (items_view v.items)
tree_of-Array v = search (rules, the_lemmas)

pub tree_of-Object : (m : BTreeMap (String Global) Value) → tree_of (Object m) ≡ object (entries_view m.entries)
tree_of-Object m = search (rules, the_lemmas)

pub tree_of-Null : tree_of Null ≡ null
tree_of-Null = search (rules, the_lemmas)

pub tree_of-ByteString : (b : ByteString) → tree_of (value.ByteString b) ≡ bytes b
tree_of-ByteString b = search (rules, the_lemmas)

pub tree_of-Integer : (v : ℤ) → tree_of (Integer v) ≡ integer v
tree_of-Integer v = search (rules, the_lemmas)

pub tree_of-Bool : (v : Bool) → tree_of (value.Bool v) ≡ boolean v
tree_of-Bool v = search (rules, the_lemmas)

pub tree_of-Real : (r : ℕ) → tree_of (value.Real r) ≡ real r
tree_of-Real r = search (rules, the_lemmas)

pub tree_of-Utf8String : (t : String Global) → tree_of (Utf8String t) ≡ text (string_bytes t)
tree_of-Utf8String t = search (rules, the_lemmas)

pub length-items : (vs : List Value) → length (items (items_view vs)) ≡ length vs
length-items [] = refl
length-items (v ∷ vs) = ap suc (length-items vs)

pub length-entries : (es : List Entry) → length (entries (entries_view es)) ≡ length es
length-entries [] = refl
length-entries (e ∷ es) = ap suc (length-entries es)

pub map_one : (vs : List Value) (v : Value) → map tree_of (vs ++ v ∷ []) ≡ map tree_of vs ++ tree_of v ∷ []
map_one [] v = refl
map_one (w ∷ vs) v = ap (λ ts. tree_of w ∷ ts) (map_one vs v)

-- a map's keys rise as byte lists
above : (k : String Global) (es : List Entry) → AllByRecursion (λ y. string_cmp k y ≡ Less) (keys_of es) → AllByRecursion (λ y. slice_cmp nat_cmp (string_bytes k) y ≡ Less) (keys (entries_view es))
above k [] h = tt
above k (e ∷ es) h = (h.0, above k es h.1)

pub keys_rise : (es : List Entry) → IsStrictlySortedBy string_cmp (keys_of es) → IsStrictlySortedBy (slice_cmp nat_cmp) (keys (entries_view es))
unfolding IsStrictlySortedBy
keys_rise [] h = tt
keys_rise (e ∷ es) h = (above e.0 es h.0, keys_rise es h.1)

-- the entries as pairs of a key's bytes and a tree
abbrev pub pair : Entry → List ℕ × Tree
pair e = (string_bytes e.0, tree_of e.1)

abbrev pub pairs : List Entry → List (List ℕ × Tree)
pairs = map pair

pub entries_view-pairs : (es : List Entry) → entries_view es ≡ entries_of (pairs es)
entries_view-pairs [] = refl
entries_view-pairs (e ∷ es) = ap (entry (string_bytes e.0) (tree_of e.1)) (entries_view-pairs es)

pub entries-entries_view : (es : List Entry) → entries (entries_view es) ≡ pairs es
entries-entries_view [] = refl
entries-entries_view (e ∷ es) = ap (λ ps. pair e ∷ ps) (entries-entries_view es)

pairs-match_ordering : (o : Ordering) (a b c : List Entry) → pairs (match_ordering o a b c) ≡ match_ordering o (pairs a) (pairs b) (pairs c)
pairs-match_ordering Less a b c = refl
pairs-match_ordering Equal a b c = refl
pairs-match_ordering Greater a b c = refl

-- an insertion into a map is one into its pairs
pub pairs-insert_entry : (es : List Entry) (k : String Global) (v : Value) → pairs (insert_entry string_cmp es k v) ≡ insert_entry (slice_cmp nat_cmp) (pairs es) (string_bytes k) (tree_of v)
pairs-insert_entry [] k v = refl
pairs-insert_entry (e ∷ es) k v = pairs-match_ordering (string_cmp k e.0) _ _ _ ∙ rw (pairs-insert_entry es k v)

below_middle : (first : Entry) (es : List Entry) (e : Entry) (more : List Entry) → AllByRecursion (λ y. string_cmp first.0 y ≡ Less) (keys_of (es ++ e ∷ more)) → string_cmp first.0 e.0 ≡ Less
below_middle first [] e more h = h.0
below_middle first (x ∷ es) e more h = below_middle first es e more h.1

-- a key that is above those before it goes last
insert_last : (done : List Entry) (e : Entry) (more : List Entry) → IsStrictlySortedBy string_cmp (keys_of (done ++ e ∷ more))
    → insert_entry (slice_cmp nat_cmp) (pairs done) (string_bytes e.0) (tree_of e.1) ≡ pairs (done ++ e ∷ [])
unfolding IsStrictlySortedBy
insert_last [] e more h = refl
insert_last (first ∷ done) e more h =
    let is_above : slice_cmp nat_cmp (string_bytes e.0) (string_bytes first.0) ≡ Greater =
    nat_list_cmp_total.antisymm (string_bytes e.0) (string_bytes first.0) ∙ ap ordering_reverse (below_middle first done e more h.0) in
    rw is_above (ap (λ ps. pair first ∷ ps) (insert_last done e more h.1))

-- a copy of the next entry goes last
pub entries_view-insert_last : (made done : List Entry) (e : Entry) (more : List Entry) (k : String Global) (v : Value) → IsStrictlySortedBy string_cmp (keys_of (done ++ e ∷ more))
    → entries_view made ≡ entries_view done → string_bytes k ≡ string_bytes e.0 → tree_of v ≡ tree_of e.1
    → entries_view (insert_entry string_cmp made k v) ≡ entries_view (done ++ e ∷ [])
entries_view-insert_last made done e more k v rise same named told =
    let same_pairs = sym (entries-entries_view made) ∙ ap entries same ∙ entries-entries_view done in
    let last = pairs-insert_entry made k v ∙ rw (named, told, same_pairs) (insert_last done e more rise) in
    entries_view-pairs (insert_entry string_cmp made k v) ∙ ap entries_of last ∙ sym (entries_view-pairs (done ++ e ∷ []))

-- ---- writing

written_items-map : {A : Type 0} (f : A → Tree) (xs : List A) → Ok (items_of (map f xs)) ≡ written_items (λ x. Ok (f x)) xs
written_items-map f [] = refl
written_items-map f (x ∷ xs) = ap (item_before (Ok (f x))) (written_items-map f xs)

written_entries-map : (es : List Entry) → Ok (entries_view es) ≡ written_entries string_bytes (λ v. Ok (tree_of v)) es
written_entries-map [] = refl
written_entries-map (e ∷ es) = ap (entry_before (string_bytes e.0) (Ok (tree_of e.1))) (written_entries-map es)

-- an array is written as its items are, and an object as its entries
pub written-Array : (v : Vec Value Global) → Ok (tree_of (Array v)) ≡ array_tree (λ w. Ok (tree_of w)) v.items
written-Array v = ap Ok (tree_of-Array v) ∙ ap (map_ok array) (written_items-map tree_of v.items)

pub written-Object : (m : BTreeMap (String Global) Value) → Ok (tree_of (Object m)) ≡ object_tree string_bytes (λ w. Ok (tree_of w)) m.entries
written-Object m = ap Ok (tree_of-Object m) ∙ ap (map_ok object) (written_entries-map m.entries)
