-- Walking over the entries of an object, and finding one of them.
use Rattle.std.proofs.Common.{◌≡◌, ◌≤◌, ◌+◌, ◌-◌, ℕ, suc, Bool, true, false, cond, List, [], ◌∷◌, ◌++◌, length, fold, Option, Some, None, option_map, option_and_then, refl, sym, ap, subst, ◌∙◌, arith, nat_cmp, bytes_eq, Bor}
use Rattle.std.specs.Cmp.Lexicographic.{slice_cmp}
use Rattle.std.specs.BTreeMap.{insert_entry}
use Rattle.std.specs.Map.{lookup}
use Rattle.std.specs.Str.{is_utf8}
use Rattle.std.proofs.lemmas.Option.{same_Some}
use Rattle.bser_format.specs.Tree.{Tree, null, boolean, integer, real, bytes, text, array, object, template, items, no_entries, entry, entries, entries_of, Fields, no_fields, skip, field, fields}
use Rattle.bser_format.specs.Tree as trees
use Rattle.bser_format.specs.Expand.{expand, expand_entries, expand_fields}
use Rattle.bser_format.specs.Normal.{normal, normal_entries, last_entries}
use Rattle.bser_format.specs.SameTree.{same_bytes}
use Rattle.bser_format.proofs.Least.{map_some, then_some, guard_some}
use Rattle.bser_format.proofs.Entries.{put_value}
use Rattle.bser_deserializer.specs.WholeRows.{HasWholeRows}
use Rattle.bser_value.specs.Contents.{as_object, get, entry_under}
use Rattle.bser_events.specs.Events as told
use Rattle.bser_events.specs.Events.{Event, events, entry_events, key_events, field_events}
use Rattle.bser_document.specs.declared.document.Document.{Document}
use Rattle.bser_document.specs.declared.document.DocumentNode.{DocumentNode}
use Rattle.bser_document.specs.declared.document.DocumentNode.TheVariants as nodes
use Rattle.bser_document.specs.declared.item.Item.{Item}
use Rattle.bser_document.specs.declared.item.Keys.{Keys}
use Rattle.bser_document.specs.declared.entries.Entries.{Entries}
use Rattle.bser_document.specs.declared.entries.Entry.{Entry}
use Rattle.bser_document.specs.DocumentView.{IsText, Within, piece, event_of}
use Rattle.bser_document.specs.Spans.{tree_ends, entries_ends, keys_ends, Lies, TreeLies, EntriesLie, KeysLie, FieldsLie, FieldLies}
use Rattle.bser_document.specs.Holds.{Part, tree, skipped, row_of, PartLies, PartIsWhole, part_value, part_event, HoldsItem, IsNodeAt, IsPartNode, first_event, field_ends}
use Rattle.bser_document.specs.Pairs.{Pairs, pairs_of, fields_under, pairs_value, pairs_count, PairsLie, PairsAreWhole, HoldsEntries, FindsEntries, GivesEntry, FindsItem, last_from, picked, IsKeyAt}
use Rattle.bser_document.proofs.Ends.{tree_adds, entries_add}
use Rattle.bser_document.proofs.Lies.{adds_length, front_lies, rest_lies, inner_lies, lies_within}
use Rattle.bser_document.proofs.Walks.{skip_lies, field_lies}

-- ---- keys

same_key : (a b : List ℕ) → told.key a ≡ told.key b → a ≡ b
same_key a b e = cc

no_key : (s : List ℕ) (n : DocumentNode) (k : List ℕ) → ((l a : ℕ) → n ≡ nodes.Key l a → ⊥) → event_of s n ≡ told.key k → ⊥
no_key s nodes.Null k h e = cc
no_key s (nodes.Bool v) k h e = cc
no_key s (nodes.Int v) k h e = cc
no_key s (nodes.Real v) k h e = cc
no_key s (nodes.Bytes l a) k h e = cc
no_key s (nodes.Text l a) k h e = cc
no_key s (nodes.Key l a) k h e = h l a refl
no_key s (nodes.Array l a) k h e = cc
no_key s (nodes.Object l a) k h e = cc
no_key s (nodes.Template l a) k h e = cc
no_key s (nodes.Rows l) k h e = cc
no_key s nodes.Skip k h e = cc
no_key s nodes.Close k h e = cc

pub key_there : (d : Document) (at : ℕ) (n : DocumentNode) (l a : ℕ) (r : List ℕ) → n ≡ nodes.Key l a → IsNodeAt d at n → (IsText d.strings.items l a → r ≡ piece d.strings.items l a) → IsKeyAt d at r
key_there d at n l a r is there found texts k es xs h =
    let s : List ℕ = d.strings.items in
    let w : IsText s l a = subst (Within s) is (there.1 texts) in
    found w ∙ same_key (piece s l a) k (ap (event_of s) (sym is) ∙ there.0 (told.key k) es xs h)

pub no_key_there : (d : Document) (at : ℕ) (n : DocumentNode) → ((l a : ℕ) → n ≡ nodes.Key l a → ⊥) → IsNodeAt d at n → IsKeyAt d at []
no_key_there d at n never there texts k es xs h = absurd (no_key d.strings.items n k never (there.0 (told.key k) es xs h))

-- ---- the next entry

-- an entry that is read, and those after it
pub next_read : {P : Type 0} (k : List ℕ) (o : Option Tree) (rest : Option (List (List ℕ × Tree))) (m : List (List ℕ × Tree)) → cond (is_utf8 k) (option_and_then (λ u. option_map (λ l. (k, u) ∷ l) rest) o) None ≡ Some m
    → ((u : Tree) (l : List (List ℕ × Tree)) → o ≡ Some u → rest ≡ Some l → (k, u) ∷ l ≡ m → P) → P
next_read k o rest m e then' =
    then_some (λ u. option_map (λ l. (k, u) ∷ l) rest) o m (guard_some (is_utf8 k) _ m e) λ u first f. map_some (λ l. (k, u) ∷ l) rest m f λ l later same. then' u l first later same

pub pairs_left : (s : Entries) (m : List (List ℕ × Tree)) → HoldsEntries s m → s.left ≡ length m
pairs_left s m h = h.count ∙ of_pairs h.pairs (lies h.pairs h.lie) h.value
  where
    AreFull : Pairs → Type 0
    AreFull (pairs_of es) = Unit {0}
    AreFull (fields_under ks fs) = length (fields fs) ≡ length ks

    lies : (p : Pairs) → PairsLie s.document.now s.key s.at p → AreFull p
    lies (pairs_of es) l = tt
    lies (fields_under ks fs) l = l.count

    of_entries : (es : trees.Entries) (m : List (List ℕ × Tree)) → normal_entries (expand_entries es) ≡ Some m → length (entries es) ≡ length m
    of_entries no_entries m e = ap length (same_Some [] m e)
    of_entries (entry k t es) m e = next_read k (normal (expand t)) (normal_entries (expand_entries es)) m e λ u l first later same. ap suc (of_entries es l later) ∙ ap length same

    of_fields : (ks : List (List ℕ)) (fs : Fields) (m : List (List ℕ × Tree)) → length (fields fs) ≡ length ks → normal_entries (expand_fields ks fs) ≡ Some m → length ks ≡ length m
    of_fields [] fs m full e = ap length (same_Some [] m e)
    of_fields (k ∷ ks) no_fields m full e = absurd (omega (arith, full))
    of_fields (k ∷ ks) (skip fs) m full e = next_read k (Some null) (normal_entries (expand_fields ks fs)) m e λ u l first later same. ap suc (of_fields ks fs l (omega (arith, full)) later) ∙ ap length same
    of_fields (k ∷ ks) (field t fs) m full e = next_read k (normal (expand t)) (normal_entries (expand_fields ks fs)) m e λ u l first later same. ap suc (of_fields ks fs l (omega (arith, full)) later) ∙ ap length same

    of_pairs : (p : Pairs) → AreFull p → pairs_value p ≡ Some m → pairs_count p ≡ length m
    of_pairs (pairs_of es) full e = of_entries es m e
    of_pairs (fields_under ks fs) full e = of_fields ks fs m full e

-- an object's key, its value, and the entries behind it
pub entry_lies : (d : Document) (at : ℕ) (k : List ℕ) (t : Tree) (es : trees.Entries) → EntriesLie d (entry k t es) at → (b : List Event) × Lies d at (told.key k ∷ b) (None ∷ tree_ends t (at + 1)) × TreeLies d t (at + 1) × EntriesLie d es (at + 1 + length (tree_ends t (at + 1)))
entry_lies d at k t es h =
    let xs : List (Option ℕ) = tree_ends t (at + 1) in
    let n : ℕ = at + length (None ∷ xs) in
    let long : length xs ≡ length (events t) = adds_length (events t) (tree_ends t) (tree_adds t) (at + 1) in
    let both : Lies d at (told.key k ∷ events t) (None ∷ xs) = front_lies d at (told.key k ∷ events t) (entry_events es) (None ∷ xs) (entries_ends es n) h in
    let rest : EntriesLie d es n = rest_lies d at (told.key k ∷ events t) (entry_events es) (None ∷ xs) (entries_ends es n) (ap suc long) h in
    let value : TreeLies d t (at + 1) = rest_lies d at (told.key k ∷ []) (events t) (None ∷ []) xs refl both in
    let same : n ≡ at + 1 + length xs = omega arith in
    (events t, both, value, subst (EntriesLie d es) same rest)

pub next_entry : (s : Entries) (name : Bor (List ℕ)) (at next left : ℕ) (keyed : ∥ Unit {0} ∥₁) → s.key ≡ None → left ≡ s.left - 1 → (s.left ≡ 0 → ⊥) → IsKeyAt s.document.now s.at name.now → (s.at + 1 ≤ length s.document.now.nodes.items → at ≡ s.at + 1)
    → ((p : Option Tree) → FieldLies s.document.now p at → next ≡ at + length (field_ends p at)) → (m : List (List ℕ × Tree)) → HoldsEntries s m
    → GivesEntry m (Some (record { key = name; value = record { document = s.document; at = at; keys = None; row = keyed } })) (record { document = s.document; at = next; left = left; key = s.key })
next_entry s name at next left keyed none less some key place step m h = of_pairs h.pairs h.lie h.count h.value h.whole
  where
    d : Document
    d = s.document.now

    of_pairs : (p : Pairs) → PairsLie d s.key s.at p → s.left ≡ pairs_count p → pairs_value p ≡ Some m → PairsAreWhole p → GivesEntry m (Some (record { key = name; value = record { document = s.document; at = at; keys = None; row = keyed } })) (record { document = s.document; at = next; left = left; key = s.key })
    of_pairs (pairs_of no_entries) l count v w = absurd (some count)
    of_pairs (pairs_of (entry k t es)) l count v w =
        let e = entry_lies d s.at k t es l.1 in
        let within = lies_within d s.at (told.key k) e.0 (None ∷ tree_ends t (s.at + 1)) e.1 in
        let to : at ≡ s.at + 1 = place (omega (arith, within)) in
        let value : TreeLies d t at = subst (TreeLies d t) (sym to) e.2 in
        let behind : next ≡ s.at + 1 + length (tree_ends t (s.at + 1)) = step (Some t) value ∙ ap (λ n. n + length (tree_ends t n)) to in
        next_read k (normal (expand t)) (normal_entries (expand_entries es)) m v λ u rest first later same.
        subst (λ m. GivesEntry m (Some (record { key = name; value = record { document = s.document; at = at; keys = None; row = keyed } })) (record { document = s.document; at = next; left = left; key = s.key })) same (
          key h.texts k e.0 (None ∷ tree_ends t (s.at + 1)) e.1,
          record { part = tree t; lies = (refl, value); value = first; whole = w.0; texts = h.texts },
          record { pairs = pairs_of es; lie = (l.0, subst (EntriesLie d es) (sym behind) e.3); count = omega (arith, less, count); value = later; whole = w.1; texts = h.texts },
        )
    of_pairs (fields_under ks fs) l count v w = let e : None ≡ Some l.key_at = sym none ∙ l.some in absurd cc

pub next_field : (s : Entries) (place : ℕ) (name : Bor (List ℕ)) (key next left : ℕ) (keyed : ∥ Unit {0} ∥₁) → s.key ≡ Some place → left ≡ s.left - 1 → (s.left ≡ 0 → ⊥) → IsKeyAt s.document.now place name.now → (place + 1 ≤ length s.document.now.nodes.items → key ≡ place + 1)
    → ((p : Option Tree) → FieldLies s.document.now p s.at → next ≡ s.at + length (field_ends p s.at)) → (m : List (List ℕ × Tree)) → HoldsEntries s m
    → GivesEntry m (Some (record { key = name; value = record { document = s.document; at = s.at; keys = None; row = keyed } })) (record { document = s.document; at = next; left = left; key = Some key })
next_field s place name key next left keyed there less some named to step m h = of_pairs h.pairs h.lie h.count h.value h.whole
  where
    d : Document
    d = s.document.now

    of_fields : (k : List ℕ) (ks : List (List ℕ)) (p : Option Tree) (fs : Fields) (o : Option Tree) (part : Part) → KeysLie d (k ∷ ks) place → PartLies d None s.at part → FieldLies d p s.at → FieldsLie d fs (s.at + length (field_ends p s.at)) → s.left ≡ suc (length ks) → length (fields fs) ≡ length ks
        → part_value part ≡ o → cond (is_utf8 k) (option_and_then (λ u. option_map (λ l. (k, u) ∷ l) (normal_entries (expand_fields ks fs))) o) None ≡ Some m → PartIsWhole part → PairsAreWhole (fields_under ks fs)
        → GivesEntry m (Some (record { key = name; value = record { document = s.document; at = s.at; keys = None; row = keyed } })) (record { document = s.document; at = next; left = left; key = Some key })
    of_fields k ks p fs o part keys here field' rest count full value v whole later' =
        let first : Lies d place (told.key k ∷ []) (None ∷ []) = front_lies d place (told.key k ∷ []) (key_events ks) (None ∷ []) (keys_ends ks (place + 1)) keys in
        let behind : KeysLie d ks (place + 1) = rest_lies d place (told.key k ∷ []) (key_events ks) (None ∷ []) (keys_ends ks (place + 1)) refl keys in
        let within = lies_within d place (told.key k) [] (None ∷ []) first in
        let on : key ≡ place + 1 = to (omega (arith, within)) in
        let after : next ≡ s.at + length (field_ends p s.at) = step p field' in
        next_read k o (normal_entries (expand_fields ks fs)) m v λ u l there' later same.
        subst (λ m. GivesEntry m (Some (record { key = name; value = record { document = s.document; at = s.at; keys = None; row = keyed } })) (record { document = s.document; at = next; left = left; key = Some key })) same (
          named h.texts k [] (None ∷ []) first,
          record { part = part; lies = here; value = value ∙ there'; whole = whole; texts = h.texts },
          record {
            pairs = fields_under ks fs;
            lie = record { key_at = key; some = refl; keys = subst (KeysLie d ks) (sym on) behind; count = full; lie = subst (FieldsLie d fs) (sym after) rest };
            count = omega (arith, less, count);
            value = later;
            whole = later';
            texts = h.texts;
          },
        )

    of_pairs : (p : Pairs) → PairsLie d s.key s.at p → s.left ≡ pairs_count p → pairs_value p ≡ Some m → PairsAreWhole p → GivesEntry m (Some (record { key = name; value = record { document = s.document; at = s.at; keys = None; row = keyed } })) (record { document = s.document; at = next; left = left; key = Some key })
    of_pairs (pairs_of es) l count v w = let e : None ≡ Some place = sym l.0 ∙ there in absurd cc
    of_pairs (fields_under [] fs) l count v w = absurd (some count)
    of_pairs (fields_under (k ∷ ks) no_fields) l count v w = let full = l.count in absurd (omega (arith, full))
    of_pairs (fields_under (k ∷ ks) (skip fs)) l count v w =
        let same : l.key_at ≡ place = same_Some l.key_at place (sym l.some ∙ there) in
        let q = skip_lies d s.at fs l.lie in
        let full = l.count in
        of_fields k ks None fs (Some null) skipped (subst (KeysLie d (k ∷ ks)) same l.keys) (refl, q.0) q.0 q.1 count (omega (arith, full)) refl v tt w
    of_pairs (fields_under (k ∷ ks) (field t fs)) l count v w =
        let same : l.key_at ≡ place = same_Some l.key_at place (sym l.some ∙ there) in
        let q = field_lies d s.at t fs l.lie in
        let full = l.count in
        of_fields k ks (Some t) fs (normal (expand t)) (tree t) (subst (KeysLie d (k ∷ ks)) same l.keys) (refl, q.0) q.0 q.1 count (omega (arith, full)) refl v w.0 w.1

-- ---- the entries of an object

is_object : (t : Tree) (n : ℕ) → told.open_object n ≡ first_event t → (es : trees.Entries) × (t ≡ object es) × (n ≡ length (entries es))
is_object null n e = absurd cc
is_object (boolean v) n e = absurd cc
is_object (integer v) n e = absurd cc
is_object (real v) n e = absurd cc
is_object (bytes s) n e = absurd cc
is_object (text s) n e = absurd cc
is_object (array ts) n e = absurd cc
is_object (object es) n e = (es, refl, cc)
is_object (template ks rs) n e = absurd cc

-- what is read of an object
object_read : (es : trees.Entries) (s : Entries) (u : Tree) → normal (object es) ≡ Some u → ((m : List (List ℕ × Tree)) → normal_entries es ≡ Some m → HoldsEntries s m) → FindsEntries (as_object u) (Some s)
object_read es s u v holds =
    map_some (λ m. object (entries_of (last_entries m))) (normal_entries es) u v λ m made same.
    subst (λ u. FindsEntries (as_object u) (Some s)) same (record { spelled = m; same = refl; holds = holds m made })

pub object_entries : (i : Item) (n : DocumentNode) (len end at : ℕ) → i.keys ≡ None → n ≡ nodes.Object len end → IsPartNode i n → (i.at + 1 ≤ length i.document.now.nodes.items → at ≡ i.at + 1)
    → (u : Tree) → HoldsItem i u → FindsEntries (as_object u) (Some (record { document = i.document; at = at; left = len; key = None }))
object_entries i n len end at none is first place u h = of_part h.part h.lies h.value h.whole
  where
    d : Document
    d = i.document.now

    begins : (p : Part) → PartLies d i.keys i.at p → told.open_object len ≡ part_event p
    begins p l = ap (event_of d.strings.items) (sym is) ∙ first p l

    of_part : (p : Part) → PartLies d i.keys i.at p → part_value p ≡ Some u → PartIsWhole p → FindsEntries (as_object u) (Some (record { document = i.document; at = at; left = len; key = None }))
    of_part (tree t) l v w =
        let a = is_object t len (begins (tree t) l) in
        let es : trees.Entries = a.0 in
        let here : TreeLies d (object es) i.at = subst (λ t. TreeLies d t i.at) a.1 l.1 in
        let within = lies_within d i.at (told.open_object (length (entries es))) (entry_events es ++ told.close ∷ []) (tree_ends (object es) i.at) here in
        let to : at ≡ i.at + 1 = place (omega (arith, within)) in
        let inner : EntriesLie d es (i.at + 1) = inner_lies d i.at (told.open_object (length (entries es))) (entry_events es) (entries_ends es) (adds_length (entry_events es) (entries_ends es) (entries_add es) (i.at + 1)) here in
        let whole : PairsAreWhole (pairs_of es) = subst HasWholeRows a.1 w in
        object_read (expand_entries es) (record { document = i.document; at = at; left = len; key = None }) u (ap (λ t. normal (expand t)) (sym a.1) ∙ v)
        λ m made. record { pairs = pairs_of es; lie = (refl, subst (EntriesLie d es) (sym to) inner); count = a.2; value = made; whole = whole; texts = h.texts }
    of_part skipped l v w = let e = begins skipped l in absurd cc
    of_part (row_of ks fs) l v w = let e : None ≡ Some l.keys_at = sym none ∙ l.some in absurd cc

pub row_entries : (i : Item) (k : Keys) (n : DocumentNode) (len end : ℕ) → i.keys ≡ Some k → n ≡ nodes.Object len end → IsPartNode i n
    → (u : Tree) → HoldsItem i u → FindsEntries (as_object u) (Some (record { document = i.document; at = i.at; left = len; key = Some k.at }))
row_entries i k n len end some is first u h = of_part h.part h.lies h.value h.whole
  where
    d : Document
    d = i.document.now

    of_part : (p : Part) → PartLies d i.keys i.at p → part_value p ≡ Some u → PartIsWhole p → FindsEntries (as_object u) (Some (record { document = i.document; at = i.at; left = len; key = Some k.at }))
    of_part (tree t) l v w = let e : None ≡ Some k = sym l.0 ∙ some in absurd cc
    of_part skipped l v w = let e : None ≡ Some k = sym l.0 ∙ some in absurd cc
    of_part (row_of ks fs) l v w =
        let e : told.open_object len ≡ told.open_object (length ks) = ap (event_of d.strings.items) (sym is) ∙ first (row_of ks fs) l in
        let count : len ≡ length ks = cc in
        let same : l.keys_at ≡ k = same_Some l.keys_at k (sym l.some ∙ some) in
        object_read (expand_fields ks fs) (record { document = i.document; at = i.at; left = len; key = Some k.at }) u v
        λ m made. record { pairs = fields_under ks fs; lie = record { key_at = k.at; some = refl; keys = subst (λ k. KeysLie d ks k.at) same l.shows.lie; count = l.count; lie = l.lie }; count = count; value = made; whole = w; texts = h.texts }

-- ---- the last of equal keys

picked_finds : (key : List ℕ) (f : Option Tree) (found : Option Item) (e : Entry) (k : List ℕ) (u : Tree) → FindsItem f found → e.key.now ≡ k → HoldsItem e.value u → FindsItem (cond (same_bytes key k) (Some u) f) (picked key found e)
picked_finds key f found e k u h same holds =
    subst (λ k. FindsItem (cond (same_bytes key k) (Some u) f) (picked key found e)) same (of_test (same_bytes key e.key.now))
  where
    of_test : (b : Bool) → FindsItem (cond b (Some u) f) (cond b (Some e.value) found)
    of_test true = holds
    of_test false = h

-- so many entries are left, and this was found before them
pub record Looked (key : List ℕ) (m : List (List ℕ × Tree)) (rest : Entries) (found : Option Item) (n : ℕ) : Type 0 where
  pub left : List (List ℕ × Tree)
  pub holds : HoldsEntries rest left
  pub count : length left ≡ n
  pub before : Option Tree
  pub finds : FindsItem before found
  pub same : last_from before key left ≡ last_from None key m

pub none_looked : (key : List ℕ) (s : Entries) (n : ℕ) → n ≡ s.left → (m : List (List ℕ × Tree)) → HoldsEntries s m → Looked key m s None n
none_looked key s n all m h = record { left = m; holds = h; count = sym (pairs_left s m h) ∙ sym all; before = None; finds = tt; same = refl }

pub one_looked : (key : List ℕ) (m : List (List ℕ × Tree)) (rest next : Entries) (found : Option Item) (e : Entry) (n k : ℕ) → n ≡ suc k → ((m : List (List ℕ × Tree)) → HoldsEntries rest m → GivesEntry m (Some e) next) → Looked key m rest found n → Looked key m next (picked key found e) k
one_looked key m rest next found e n k less gives h = of_left h.left h.holds h.count h.same
  where
    of_left : (l : List (List ℕ × Tree)) → HoldsEntries rest l → length l ≡ n → last_from h.before key l ≡ last_from None key m → Looked key m next (picked key found e) k
    of_left [] holds count same = absurd (omega (arith, count, less))
    of_left (p ∷ l) holds count same =
        let g = gives (p ∷ l) holds in
        record { left = l; holds = g.2; count = omega (arith, count, less); before = cond (same_bytes key p.0) (Some p.1) h.before; finds = picked_finds key h.before found e p.0 p.1 h.finds g.0 g.1; same = same }

pub all_looked : (key : List ℕ) (m : List (List ℕ × Tree)) (rest : Entries) (found : Option Item) (n : ℕ) → n ≡ 0 → Looked key m rest found n → FindsItem (last_from None key m) found
all_looked key m rest found n none h = of_left h.left h.count h.same
  where
    of_left : (l : List (List ℕ × Tree)) → length l ≡ n → last_from h.before key l ≡ last_from None key m → FindsItem (last_from None key m) found
    of_left [] count same = subst (λ f. FindsItem f found) same h.finds
    of_left (p ∷ l) count same = absurd (omega (arith, count, none))

pub none_left_to_look : (key : List ℕ) (m : List (List ℕ × Tree)) (rest next : Entries) (found : Option Item) (n : ℕ) → ((m : List (List ℕ × Tree)) → HoldsEntries rest m → GivesEntry m None next) → Looked key m rest found n → FindsItem (last_from None key m) found
none_left_to_look key m rest next found n gives h = of_left h.left h.holds h.same
  where
    of_left : (l : List (List ℕ × Tree)) → HoldsEntries rest l → last_from h.before key l ≡ last_from None key m → FindsItem (last_from None key m) found
    of_left [] holds same = subst (λ f. FindsItem f found) same h.finds
    of_left (p ∷ l) holds same = absurd (gives (p ∷ l) holds)

-- the last of equal keys is the one that is read
entry_found : (key : List ℕ) (m : List (List ℕ × Tree)) → entry_under key (entries_of m) ≡ lookup (bytes_eq key) m
entry_found key [] = refl
entry_found key (p ∷ m) = ap (cond (bytes_eq key p.0) (Some p.1)) (entry_found key m)

lasts_found : (key : List ℕ) (m es : List (List ℕ × Tree)) → lookup (bytes_eq key) (fold (λ n e. insert_entry (slice_cmp nat_cmp) n e.0 e.1) m es) ≡ last_from (lookup (bytes_eq key) m) key es
lasts_found key m [] = refl
lasts_found key m (e ∷ es) = lasts_found key (insert_entry (slice_cmp nat_cmp) m e.0 e.1) es ∙ ap (λ f. last_from f key es) (put_value key e.0 e.1 m)

-- the value at a key of an object that is read of these entries
pub object_found : (key : List ℕ) (m : List (List ℕ × Tree)) → get key (object (entries_of (last_entries m))) ≡ last_from None key m
object_found key m = entry_found key (last_entries m) ∙ lasts_found key [] m

pub found_in : (key : List ℕ) (u : Tree) (s : Entries) (r : Option Item) → FindsEntries (as_object u) (Some s) → ((m : List (List ℕ × Tree)) → HoldsEntries s m → FindsItem (last_from None key m) r) → FindsItem (get key u) r
found_in key null s r h last = absurd h
found_in key (boolean v) s r h last = absurd h
found_in key (integer v) s r h last = absurd h
found_in key (real v) s r h last = absurd h
found_in key (bytes b) s r h last = absurd h
found_in key (text b) s r h last = absurd h
found_in key (array ts) s r h last = absurd h
found_in key (object es) s r h last = subst (λ f. FindsItem f r) (sym (ap (entry_under key) h.same ∙ entry_found key (last_entries h.spelled) ∙ lasts_found key [] h.spelled)) (last h.spelled h.holds)
found_in key (template ks rs) s r h last = absurd h

pub found_nowhere : (key : List ℕ) (u : Tree) → FindsEntries (as_object u) None → FindsItem (get key u) None
found_nowhere key null h = tt
found_nowhere key (boolean v) h = tt
found_nowhere key (integer v) h = tt
found_nowhere key (real v) h = tt
found_nowhere key (bytes s) h = tt
found_nowhere key (text s) h = tt
found_nowhere key (array ts) h = tt
found_nowhere key (object es) h = absurd h
found_nowhere key (template ks rs) h = tt
