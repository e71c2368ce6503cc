-- The parts of a container that is open, and the container of all its parts.
use Rattle.std.proofs.Common.{◌≡◌, ℕ, ◌+◌, ◌≤◌, List, [], ◌∷◌, ◌++◌, length, IsUtf8, refl, sym, ap, subst, ◌∙◌, arith, append_assoc, append-nil, Ordering, Less, Equal, Greater, nat_cmp, Bor}
use Rattle.std.proofs.lemmas.List.{length-append}
use Rattle.std.specs.BTreeMap.{insert_entry}
use Rattle.std.specs.Cmp.Lexicographic.{slice_cmp}
use Rattle.std.specs.List.Sorted.{IsStrictlySortedBy}
use Rattle.std.specs.Map.{keys_of}
use Rattle.std.specs.Ordering.{match_ordering}
use Rattle.bser_format.specs.Tree.{Tree, array, object, items, items_of, entries_of}
use Rattle.bser_format.specs.Canonical.{canonical_body, canonical_items, canonical_key}
use Rattle.bser_format.specs.Compact.{keys}
use Rattle.bser_format.specs.Pieces.{array_head}
use Rattle.bser_format.specs.ValueTree.{EntriesAreValueTrees, IsValueTree, ItemsAreValueTrees}
use Rattle.bser_format.proofs.Entries.{put_rises}
use Rattle.bser_format.proofs.Lengths.{items_few}
use Rattle.bser_from_json.specs.Bodies.{EntriesStand, Follows, Places}
use Rattle.bser_from_json.specs.declared.body.EntrySpan.{EntrySpan}
use Rattle.bser_from_json.proofs.Entries.{last_stands, stand_more, stand_on}

-- ---- items

-- the bodies of these items were put, and counted
pub record ItemsPut (parts : List ℕ) (count : ℕ) (us : List Tree) : Type 0 where
  pub bodies : parts ≡ canonical_items (items_of us)
  pub counted : count ≡ length us
  pub values : ItemsAreValueTrees (items_of us)

pub no_items_put : (parts : List ℕ) → parts ≡ [] → ItemsPut parts 0 []
no_items_put parts none = record { bodies = none; counted = refl; values = tt }

one_more : (us : List Tree) (t : Tree) → canonical_items (items_of (us ++ t ∷ [])) ≡ canonical_items (items_of us) ++ canonical_body t
one_more [] t = append-nil (canonical_body t)
one_more (u ∷ us) t = ap (λ xs. canonical_body u ++ xs) (one_more us t) ∙ sym (append_assoc (canonical_body u) _ _)

more_values : (us : List Tree) (t : Tree) → ItemsAreValueTrees (items_of us) → IsValueTree t → ItemsAreValueTrees (items_of (us ++ t ∷ []))
more_values [] t h v = (v, tt)
more_values (u ∷ us) t h v = (h.0, more_values us t h.1 v)

pub item_put : (parts new : List ℕ) (count : ℕ) (us : List Tree) (t : Tree) → Follows parts new t → ItemsPut parts count us → ItemsPut new (count + 1) (us ++ t ∷ [])
item_put parts new count us t put h = record {
  bodies = put.body ∙ ap (λ xs. xs ++ canonical_body t) h.bodies ∙ sym (one_more us t);
  counted = omega (arith, h.counted, length-append us (t ∷ []));
  values = more_values us t h.values put.value;
}

items_back : (us : List Tree) → items (items_of us) ≡ us
items_back [] = refl
items_back (u ∷ us) = ap (λ l. u ∷ l) (items_back us)

-- no more items than bytes
pub items_within : (parts : List ℕ) (count : ℕ) (us : List Tree) → ItemsPut parts count us → count ≤ length parts
items_within parts count us h = omega (arith, h.counted, ap length (items_back us), items_few (items_of us), ap length h.bodies)

pub items_follow : (bytes all parts : List ℕ) (count : ℕ) (us : List Tree) → all ≡ bytes ++ (array_head count ++ parts) → ItemsPut parts count us → Follows bytes all (array (items_of us))
items_follow bytes all parts count us whole h = record {
  body = whole ∙ ap (λ xs. bytes ++ (array_head count ++ xs)) h.bodies ∙ ap (λ n. bytes ++ (array_head n ++ canonical_items (items_of us))) (h.counted ∙ ap length (sym (items_back us)));
  value = h.values;
}

-- ---- entries

abbrev cmp : List ℕ → List ℕ → Ordering
cmp = slice_cmp nat_cmp

-- the entries were put, and stand there
pub record EntriesPut (parts : List ℕ) (ps : Places) (es : List (List ℕ × Tree)) : Type 0 where
  pub stand : EntriesStand parts ps es
  pub rise : IsStrictlySortedBy cmp (keys_of es)
  pub values : EntriesAreValueTrees (entries_of es)

pub no_entries_put : (parts : List ℕ) (ps : Places) → ps ≡ [] → EntriesPut parts ps []
unfolding IsStrictlySortedBy
no_entries_put parts ps none = record { stand = subst (λ qs. EntriesStand parts qs []) (sym none) tt; rise = tt; values = tt }

values_more : (k : List ℕ) (t : Tree) (es : List (List ℕ × Tree)) → IsUtf8 k → IsValueTree t → EntriesAreValueTrees (entries_of es) → EntriesAreValueTrees (entries_of (insert_entry cmp es k t))
values_more k t [] u v h = (u, v, tt)
values_more k t (e ∷ es) u v h = go (cmp k e.0) (values_more k t es u v h.2)
  where
    go : (o : Ordering) → EntriesAreValueTrees (entries_of (insert_entry cmp es k t)) → EntriesAreValueTrees (entries_of (match_ordering o ((k, t) ∷ e ∷ es) ((e.0, t) ∷ es) (e ∷ insert_entry cmp es k t)))
    go Less r = (u, v, h)
    go Equal r = (h.0, v, h.2)
    go Greater r = (h.0, h.1, r)

pub entry_put : (parts keyed new : List ℕ) (ps qs : Places) (es : List (List ℕ × Tree)) (k : Bor (List ℕ)) (s : EntrySpan) (t : Tree) → keyed ≡ parts ++ canonical_key k.now → IsUtf8 k.now → Follows keyed new t → s.start ≡ length parts → s.end ≡ length new
    → qs ≡ insert_entry (λ a b. cmp a.now b.now) ps k s → EntriesPut parts ps es → EntriesPut new qs (insert_entry cmp es k.now t)
entry_put parts keyed new ps qs es k s t named utf8 put start end map h =
    let piece : List ℕ = canonical_key k.now ++ canonical_body t in
    let whole : new ≡ parts ++ piece = put.body ∙ ap (λ xs. xs ++ canonical_body t) named ∙ append_assoc parts (canonical_key k.now) (canonical_body t) in
    let old : EntriesStand new ps es = subst (λ xs. EntriesStand xs ps es) (sym whole) (stand_on parts piece ps es h.stand) in
    record {
      stand = subst (λ ps. EntriesStand new ps (insert_entry cmp es k.now t)) (sym map) (stand_more new ps es k s t (last_stands parts piece new s whole start end) old);
      rise = put_rises k.now t es h.rise;
      values = values_more k.now t es utf8 put.value h.values;
    }

keys_same : (es : List (List ℕ × Tree)) → keys (entries_of es) ≡ keys_of es
keys_same [] = refl
keys_same (e ∷ es) = ap (λ ks. e.0 ∷ ks) (keys_same es)

pub entries_follow : (bytes all parts : List ℕ) (ps : Places) (es : List (List ℕ × Tree)) → all ≡ bytes ++ canonical_body (object (entries_of es)) → EntriesPut parts ps es → Follows bytes all (object (entries_of es))
entries_follow bytes all parts ps es whole h = record { body = whole; value = (subst (IsStrictlySortedBy cmp) (sym (keys_same es)) h.rise, h.values) }
