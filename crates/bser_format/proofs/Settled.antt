-- What a spelled tree reads as is the tree of a value.
use Rattle.std.proofs.Common.{◌≡◌, ℕ, zero, suc, ℤ, Bool, true, false, cond, List, [], ◌∷◌, Option, Some, None, option_map, option_and_then, IsUtf8, FitsSigned, refl, sym, ap, subst, ◌∙◌, inl, inr, Ordering, Less, Equal, Greater, nat_cmp}
use Rattle.std.proofs.lemmas.Option.{same_Some}
use Rattle.std.proofs.lemmas.Str.{IsUtf8-from_is_utf8}
use Rattle.std.proofs.Math.Facts.{sfits_widen}
use Rattle.std.specs.Int.{w64}
use Rattle.std.specs.Ordering.{match_ordering}
use Rattle.std.specs.Cmp.Lexicographic.{slice_cmp}
use Rattle.std.specs.List.{AllByRecursion}
use Rattle.std.specs.List.Sorted.{IsStrictlySortedBy}
use Rattle.std.specs.Map.{keys_of}
use Rattle.std.specs.Str.{is_utf8}
use Rattle.bser_format.specs.Tree.{Tree, null, boolean, integer, real, bytes, text, array, object, template, Items, no_items, item, Entries, no_entries, entry, Rows, no_rows, row, Fields, no_fields, skip, field, items, entries, fields, rows, entries_of}
use Rattle.bser_format.specs.Grammar.{Format, Each, SpellsInteger, SpellsEntry, SpellsField, Spells, IntSize, int8, int16, int32, int64, width_of}
use Rattle.bser_format.specs.Message.{IsMessage}
use Rattle.bser_format.specs.Expand.{expand, expand_items, expand_entries, expand_rows, expand_fields, key_tree}
use Rattle.bser_format.specs.Expected.{Due, nothing_due, node_due, key_due, field_due, name_due, row_due, FillsNode, Fills}
use Rattle.bser_format.specs.Normal.{last_entries, normal, normal_items, normal_entries}
use Rattle.bser_format.specs.Compact.{keys}
use Rattle.bser_format.specs.ValueTree.{IsValueTree, ItemsAreValueTrees, EntriesAreValueTrees}
use Rattle.bser_format.proofs.Entries.{cmp, keys_rise}
use Rattle.bser_format.proofs.Least.{map_some, then_some, guard_some, put, put_all}

pub integer_fits : (v : ℤ) (b : List ℕ) → SpellsInteger v b → FitsSigned w64 v
integer_fits v b h = at h.size h.fits
  where
    at : (s : IntSize) → FitsSigned (width_of s) v → FitsSigned w64 v
    at int8 f = sfits_widen tt f
    at int16 f = sfits_widen tt f
    at int32 f = sfits_widen tt f
    at int64 f = f

-- ---- entries

-- the keys are UTF-8 and the values are values
abbrev AreSettled : List (List ℕ × Tree) → Type 0
AreSettled es = AllByRecursion (λ e. IsUtf8 e.0 × IsValueTree e.1) es

put_settled : (es : List (List ℕ × Tree)) (k : List ℕ) (t : Tree) → AreSettled es → IsUtf8 k → IsValueTree t → AreSettled (put es k t)
put_settled [] k t h u v = ((u, v), tt)
put_settled (e ∷ es) k t h u v = go (slice_cmp nat_cmp k e.0) (put_settled es k t h.1 u v)
  where
    go : (o : Ordering) → AreSettled (put es k t) → AreSettled (match_ordering o ((k, t) ∷ e ∷ es) ((e.0, t) ∷ es) (e ∷ put es k t))
    go Less r = ((u, v), h)
    go Equal r = ((h.0.0, v), h.1)
    go Greater r = (h.0, r)

puts_settled : (m es : List (List ℕ × Tree)) → AreSettled m → AreSettled es → AreSettled (put_all m es)
puts_settled m [] g h = g
puts_settled m (e ∷ es) g h = puts_settled (put m e.0 e.1) es (put_settled m e.0 e.1 g h.0.0 h.0.1) h.1

entries_settled : (es : List (List ℕ × Tree)) → AreSettled es → EntriesAreValueTrees (entries_of es)
entries_settled [] h = tt
entries_settled (e ∷ es) h = (h.0.0, h.0.1, entries_settled es h.1)

keys_same : (es : List (List ℕ × Tree)) → keys (entries_of es) ≡ keys_of es
keys_same [] = refl
keys_same (e ∷ es) = ap (λ ks. e.0 ∷ ks) (keys_same es)

object_settled : (m : List (List ℕ × Tree)) → AreSettled m → IsValueTree (object (entries_of (last_entries m)))
object_settled m h = (subst (IsStrictlySortedBy cmp) (sym (keys_same (last_entries m))) (keys_rise m), entries_settled (last_entries m) (puts_settled [] m tt h))

guard_true : {A : Type 0} (b : Bool) (o : Option A) (y : A) → cond b o None ≡ Some y → b ≡ true
guard_true true o y e = refl
guard_true false o y e = cc

-- ---- values

-- what these trees read as is the tree of a value
abbrev Settles : (Tree → Format) → Type 0
Settles F = (t : Tree) (b : List ℕ) (v : Tree) → F t b → normal (expand t) ≡ Some v → IsValueTree v

-- an entry, and those after it
one_entry : (k : List ℕ) (t : Tree) (o : Option (List (List ℕ × Tree))) (m : List (List ℕ × Tree)) → cond (is_utf8 k) (option_and_then (λ u. option_map (λ vs. (k, u) ∷ vs) o) (normal t)) None ≡ Some m
    → ((u : Tree) → normal t ≡ Some u → IsValueTree u) → ((vs : List (List ℕ × Tree)) → o ≡ Some vs → AreSettled vs) → AreSettled m
one_entry k t o m e here more =
    let key : IsUtf8 k = IsUtf8-from_is_utf8 k (guard_true (is_utf8 k) _ m e) in
    then_some _ (normal t) m (guard_some (is_utf8 k) _ m e) λ u first next. map_some (λ vs. (k, u) ∷ vs) o m next λ vs rest same.
    subst AreSettled same ((key, here u first), more vs rest)

items_settle : (F : Tree → Format) → Settles F → (ts : Items) (b : List ℕ) (us : Items) → Each F (items ts) b → normal_items (expand_items ts) ≡ Some us → ItemsAreValueTrees us
items_settle F one no_items b us h e = subst ItemsAreValueTrees (same_Some no_items us e) tt
items_settle F one (item t ts) b us h e =
    then_some _ (normal (expand t)) us e λ u first next. map_some (item u) (normal_items (expand_items ts)) us next λ vs rest same.
    subst ItemsAreValueTrees same (one t h.front u h.first first, items_settle F one ts h.rest vs h.second rest)

entries_settle : (F : Tree → Format) → Settles F → (es : Entries) (b : List ℕ) (m : List (List ℕ × Tree)) → Each (SpellsEntry F) (entries es) b → normal_entries (expand_entries es) ≡ Some m → AreSettled m
entries_settle F one no_entries b m h e = subst AreSettled (same_Some [] m e) tt
entries_settle F one (entry k t es) b m h e =
    one_entry k (expand t) (normal_entries (expand_entries es)) m e (λ u first. one t h.first.rest u h.first.second first) (λ vs rest. entries_settle F one es h.rest vs h.second rest)

fields_settle : (F : Tree → Format) → Settles F → (ks : List (List ℕ)) (fs : Fields) (b : List ℕ) (m : List (List ℕ × Tree)) → Each (SpellsField F) (fields fs) b → normal_entries (expand_fields ks fs) ≡ Some m → AreSettled m
fields_settle F one [] fs b m h e = subst AreSettled (same_Some [] m e) tt
fields_settle F one (k ∷ ks) no_fields b m h e = subst AreSettled (same_Some [] m e) tt
fields_settle F one (k ∷ ks) (skip fs) b m h e =
    one_entry k null (normal_entries (expand_fields ks fs)) m e (λ u first. subst IsValueTree (same_Some null u first) tt) (λ vs rest. fields_settle F one ks fs h.rest vs h.second rest)
fields_settle F one (k ∷ ks) (field t fs) b m h e =
    one_entry k (expand t) (normal_entries (expand_fields ks fs)) m e (λ u first. one t h.front u h.first first) (λ vs rest. fields_settle F one ks fs h.rest vs h.second rest)

rows_settle : (F : Tree → Format) → Settles F → (ks : List (List ℕ)) (rs : Rows) (b : List ℕ) (us : Items) → Each (Each (SpellsField F)) (rows rs) b → normal_items (expand_rows ks rs) ≡ Some us → ItemsAreValueTrees us
rows_settle F one ks no_rows b us h e = subst ItemsAreValueTrees (same_Some no_items us e) tt
rows_settle F one ks (row fs rs) b us h e =
    then_some _ (normal (object (expand_fields ks fs))) us e λ u first next. map_some (item u) (normal_items (expand_rows ks rs)) us next λ vs rest same.
    map_some (λ m. object (entries_of (last_entries m))) (normal_entries (expand_fields ks fs)) u first λ m some made.
    let here : IsValueTree u = subst IsValueTree made (object_settled m (fields_settle F one ks fs h.front m h.first some)) in
    subst ItemsAreValueTrees same (here, rows_settle F one ks rs h.rest vs h.second rest)

pub settles : (n : ℕ) → Settles (Spells n)
settles n null b v h e = subst IsValueTree (same_Some null v e) tt
settles n (boolean x) b v h e = subst IsValueTree (same_Some (boolean x) v e) tt
settles n (integer x) b v h e = subst IsValueTree (same_Some (integer x) v e) (integer_fits x b h)
settles n (real r) b v h e = subst IsValueTree (same_Some (real r) v e) h.0
settles n (bytes s) b v h e = subst IsValueTree (same_Some (bytes s) v e) tt
settles n (text s) b v h e = subst IsValueTree (same_Some (text s) v e) h.second.second.0
settles zero (array ts) b v h e = absurd h
settles (suc n) (array ts) b v h e = map_some array (normal_items (expand_items ts)) v e λ us some same.
    subst IsValueTree same (items_settle (Spells n) (settles n) ts h.second.rest us h.second.second some)
settles (suc n) (object es) b v h e = map_some (λ m. object (entries_of (last_entries m))) (normal_entries (expand_entries es)) v e λ m some same.
    subst IsValueTree same (object_settled m (entries_settle (Spells n) (settles n) es h.second.rest m h.second.second some))
settles (suc zero) (template ks rs) b v h e = absurd h
settles (suc (suc n)) (template ks rs) b v h e =
    let last = h.1.second.second.second.second in
    map_some array (normal_items (expand_rows ks rs)) v e λ us some same.
    subst IsValueTree same (rows_settle (Spells (suc n)) (settles (suc n)) ks rs last.rest us last.second some)
settles zero other b v h e = absurd h

pub message_settles : (n c : ℕ) (t v : Tree) (b : List ℕ) → IsMessage n c t b → normal (expand t) ≡ Some v → IsValueTree v
message_settles n c t v b m e = settles n t m.body v m.value e

-- ---- what is due

-- a key
key_settles : (k : List ℕ) (v : Tree) → normal (key_tree k) ≡ Some v → IsValueTree v
key_settles k v e = go (is_utf8 k) refl e
  where
    go : (u : Bool) → is_utf8 k ≡ u → normal (cond u (text k) (bytes k)) ≡ Some v → IsValueTree v
    go true u e = subst IsValueTree (same_Some (text k) v e) (IsUtf8-from_is_utf8 k u)
    go false u e = subst IsValueTree (same_Some (bytes k) v e) tt

-- a value
node_settles : (n : ℕ) (t v : Tree) (b : List ℕ) → FillsNode n t b → normal t ≡ Some v → IsValueTree v
node_settles n t v b h e = settles n h.tree b v h.spelled (sym (ap normal h.stands) ∙ e)

pub filled_settles : (n : ℕ) (d : Due) (t v : Tree) (b : List ℕ) → Fills n d t b → normal t ≡ Some v → IsValueTree v
filled_settles n nothing_due t v b h e = absurd h
filled_settles n node_due t v b h e = node_settles n t v b h e
filled_settles n key_due t v b h e = key_settles h.key v (sym (ap normal h.stands) ∙ e)
filled_settles n field_due t v b (inl h) e = subst IsValueTree (same_Some null v (sym (ap normal h.0) ∙ e)) tt
filled_settles n field_due t v b (inr h) e = node_settles n t v b h e
filled_settles n (name_due k) t v b h e = key_settles k v (sym (ap normal h.0) ∙ e)
filled_settles n (row_due ks) t v b h e =
    map_some (λ m. object (entries_of (last_entries m))) (normal_entries (expand_fields ks h.row)) v (sym (ap normal h.stands) ∙ e) λ m some same.
    subst IsValueTree same (object_settled m (fields_settle (Spells n) (settles n) ks h.row b m h.spelled some))
