-- What one container shows after a step.
use Rattle.std.proofs.Common.{◌≡◌, ◌≢◌, inl, inr, ℕ, zero, suc, pos, ◌+◌, ◌<◌, ◌≤◌, List, [], ◌∷◌, ◌++◌, length, map, take, drop, Option, Some, None, String, BTreeMap, refl, sym, ap, subst, ◌∙◌, arith}
use Rattle.std.proofs.lemmas.Option.{same_Some}
use Rattle.std.proofs.lemmas.List.{length-append, length-map, length-drop, length-take}
use Rattle.std.specs.declared.alloc.Global.{Global}
use Rattle.std.specs.BTreeMap.{insert_entry}
use Rattle.std.specs.List.{zip}
use Rattle.bser_format.specs.Tree.{Tree, integer, array, object, items_of, entries_of}
use Rattle.bser_format.specs.Normal.{last_entries}
use Rattle.bser_format.proofs.Entries.{cmp}
use Rattle.bser_value.specs.Gathered.{all_items}
use Rattle.bser_value.specs.Made.{whole, in_array, in_object, in_keys, in_rows, put, named, with_entry}
use Rattle.bser_value.specs.Places.{TakesFields}
use Rattle.bser_value.specs.Shows.{HasKeys, row_tree, ShowsTable, Turns, PutsField, PutsRow, Builds, BuildsRows}
use Rattle.bser_value.specs.ValueView.{tree_of, entry_trees}
use Rattle.bser_value.specs.declared.value.Value as value
use Rattle.bser_value.specs.declared.value.Value.{Value}
use Rattle.bser_value.specs.declared.gathered.Gathered.{Gathered}
use Rattle.bser_value.specs.declared.table.Table.{Table}
use Rattle.bser_value.specs.declared.building.Building.TheVariants.{Object}
use Rattle.bser_value.proofs.Views.{Entry, tree_of-Object, entries_view-pairs, map_one}
use Rattle.bser_value.proofs.Slots.{place_more, entries_more, entries_none}

-- the tree of an object, by its entries
pub object_tree : (m : BTreeMap (String Global) Value) (es : List (List ℕ × Tree)) → entry_trees m.entries ≡ es → tree_of (value.Object m) ≡ object (entries_of es)
object_tree m es h = tree_of-Object m ∙ ap object (entries_view-pairs m.entries) ∙ ap (λ l. object (entries_of l)) h

-- ---- keys

same_keys : (old new : Table) (ks : List (List ℕ)) → new.places ≡ old.places → new.count ≡ old.count → HasKeys old ks → HasKeys new ks
same_keys old new ks places count h = record { places = ap (λ (m : BTreeMap (String Global) Value). entry_trees m.entries) places ∙ h.places; count = count ∙ h.count }

-- a template has a key more
pub keys_turn : (k : List ℕ) (old new : Table) → entry_trees new.places.entries ≡ insert_entry cmp (entry_trees old.places.entries) k (integer (pos old.count)) → new.count ≡ old.count + 1
    → new.rows ≡ old.rows → new.place ≡ old.place → Turns ShowsTable (named k) old new
keys_turn k old new placed count rows place (in_keys ks) b h e = subst (ShowsTable new) (same_Some (in_keys (ks ++ k ∷ [])) b e) (record {
  keys = record {
    places = place_more ks k old.places.entries new.places.entries h.keys.places (placed ∙ ap (λ n. insert_entry cmp (entry_trees old.places.entries) k (integer (pos n))) h.keys.count);
    count = omega (arith, count, h.keys.count, length-append ks (k ∷ []));
  };
  rows = ap all_items rows ∙ h.rows;
  place = place ∙ h.place;
})
keys_turn k old new placed count rows place (in_rows ks ts es ls) b h e = absurd cc
keys_turn k old new placed count rows place (whole u) b h e = absurd h
keys_turn k old new placed count rows place (in_array ts) b h e = absurd h
keys_turn k old new placed count rows place (in_object es l) b h e = absurd h

-- ---- fields

left_some : (n : ℕ) (ks : List (List ℕ)) (k : List ℕ) (ls : List (List ℕ)) → k ∷ ls ≡ drop n ks → n + 1 + length ls ≡ length ks
left_some n ks k ls h = omega (arith, ap length h, length-drop n ks)

drop_next : (n : ℕ) (ks : List (List ℕ)) (k : List ℕ) (ls : List (List ℕ)) → k ∷ ls ≡ drop n ks → ls ≡ drop (suc n) ks
drop_next n [] k ls h = absurd (omega (arith, ap length h, length-drop {A = List ℕ} n []))
drop_next zero (j ∷ ks) k ls h = ap (drop 1) h
drop_next (suc n) (j ∷ ks) k ls h = drop_next n ks k ls h

-- the trees of the fields before the next place
abbrev fields_before : Table → List Tree
fields_before t = map tree_of (take t.place t.fields.items)

count_before : (t : Table) → t.place ≤ length t.fields.items → length (fields_before t) ≡ t.place
count_before t within = omega (arith, length-map (take t.place t.fields.items) tree_of, length-take t.place t.fields.items)

one_after : (v : Value) (old new : Table) → PutsField v old new → old.place ≤ length old.fields.items → fields_before new ≡ fields_before old ++ tree_of v ∷ []
one_after v old new p within = ap (map tree_of) (p.fields within) ∙ map_one (take old.place old.fields.items) v

-- a field more of a row that has not all of them: the row goes on, or it is the last that was read
pub field_turns : (v : Value) (old new : Table) → PutsField v old new → old.place ≢ old.count → Turns ShowsTable (put (tree_of v)) old new
field_turns v old new p other (in_rows ks ts es []) b h e = absurd cc
field_turns v old new p other (in_rows ks ts es (k ∷ ls)) b (inr h) e = absurd (other h.place)
field_turns v old new p other (in_rows ks ts es (k ∷ [])) b (inl h) e =
    let here : drop (length (fields_before old)) ks ≡ k ∷ [] = ap (λ m. drop m ks) (count_before old h.within) ∙ sym h.left in
    let last : new.place ≡ new.count = omega (arith, left_some old.place ks k [] h.left, p.count, h.keys.count, p.place h.within) in
    let made : row_tree ks new ≡ object (entries_of (with_entry es k (tree_of v))) =
    ap (λ n. object (entries_of (last_entries (zip ks (map tree_of (take n new.fields.items)))))) (sym last)
    ∙ ap (λ xs. object (entries_of (last_entries (zip ks xs)))) (one_after v old new p h.within)
    ∙ ap (λ m. object (entries_of m)) (entries_more ks (fields_before old) k [] (tree_of v) here ∙ ap (λ m. with_entry m k (tree_of v)) (sym h.entries)) in
    subst (ShowsTable new) (same_Some (in_rows ks (ts ++ object (entries_of (with_entry es k (tree_of v))) ∷ []) [] ks) b e) (inr (record {
      keys = same_keys old new ks p.places p.count h.keys;
      rows = ap (λ l. l ++ row_tree ks new ∷ []) (ap (λ (g : Gathered). map tree_of (all_items g)) p.rows ∙ h.rows) ∙ ap (λ t. ts ++ t ∷ []) made;
      some = omega (arith, p.place h.within);
      place = last;
      within = p.within;
      entries = refl;
      left = refl;
    }))
field_turns v old new p other (in_rows ks ts es (k ∷ l ∷ ls)) b (inl h) e =
    let here : drop (length (fields_before old)) ks ≡ k ∷ l ∷ ls = ap (λ m. drop m ks) (count_before old h.within) ∙ sym h.left in
    subst (ShowsTable new) (same_Some (in_rows ks ts (with_entry es k (tree_of v)) (l ∷ ls)) b e) (inl (record {
      keys = same_keys old new ks p.places p.count h.keys;
      rows = ap (λ (g : Gathered). map tree_of (all_items g)) p.rows ∙ h.rows;
      within = p.within;
      part = λ _. omega (arith, left_some old.place ks k (l ∷ ls) h.left, p.count, h.keys.count, p.place h.within);
      entries = ap (λ m. with_entry m k (tree_of v)) h.entries ∙ sym (entries_more ks (fields_before old) k (l ∷ ls) (tree_of v) here)
          ∙ ap (λ xs. last_entries (zip ks xs)) (sym (one_after v old new p h.within));
      left = drop_next old.place ks k (l ∷ ls) h.left ∙ ap (λ m. drop m ks) (let m : suc old.place ≡ new.place = omega (arith, p.place h.within) in m);
    }))
field_turns v old new p other (in_keys ks) b h e = absurd cc
field_turns v old new p other (whole u) b h e = absurd h
field_turns v old new p other (in_array ts) b h e = absurd h
field_turns v old new p other (in_object es l) b h e = absurd h

-- where all fields of a row are there, the row becomes an object before the next field
pub row_turns : (v : Value) (old mid new : Table) → PutsRow old mid → old.place ≡ old.count → PutsField v mid new → Turns ShowsTable (put (tree_of v)) old new
row_turns v old mid new r full p (in_rows ks ts es []) b h e = absurd cc
row_turns v old mid new r full p (in_rows ks ts es (k ∷ ls)) b (inl h) e = absurd (omega (arith, left_some old.place ks k ls h.left, full, h.keys.count))
row_turns v old mid new r full p (in_rows ks ts es (k ∷ ls)) b (inr h) e =
    let keys = same_keys old mid ks r.places r.count h.keys in
    field_turns v mid new p (λ same. omega (arith, same, r.place, r.count, h.some, full)) (in_rows ks ts es (k ∷ ls)) b (inl (record {
      keys = keys;
      rows = ap (map tree_of) r.rows ∙ map_one (all_items old.rows) r.row ∙ ap (λ t. map tree_of (all_items old.rows) ++ t ∷ []) (r.tree ks h.keys (omega (arith, full, h.within))) ∙ h.rows;
      within = omega (arith, r.place);
      part = λ some. absurd (omega (arith, some, r.place));
      entries = h.entries ∙ sym (ap (λ n. last_entries (zip ks (map tree_of (take n mid.fields.items)))) r.place ∙ entries_none ks);
      left = h.left ∙ ap (λ n. drop n ks) (sym r.place);
    })) e
row_turns v old mid new r full p (in_keys ks) b h e = absurd cc
row_turns v old mid new r full p (whole u) b h e = absurd h
row_turns v old mid new r full p (in_array ts) b h e = absurd h
row_turns v old mid new r full p (in_object es l) b h e = absurd h

-- the object of a row, of which each key's place gave way to its field
pub row_made : (t : Table) (ks : List (List ℕ)) (before : List Entry) (after : BTreeMap (String Global) Value) (fields : List Value) → HasKeys t ks → t.count ≤ length t.fields.items
    → fields ≡ take t.count t.fields.items → entry_trees before ≡ entry_trees t.places.entries → TakesFields before fields after.entries → tree_of (value.Object after) ≡ row_tree ks t
row_made t ks before after fields keys there cut same took =
    let all : length fields ≡ length ks = omega (arith, ap length cut, length-take t.count t.fields.items, keys.count, there) in
    object_tree after (last_entries (zip ks (map tree_of (take t.count t.fields.items))))
    (took ks all (same ∙ keys.places) ∙ ap (λ vs. last_entries (zip ks (map tree_of vs))) cut)

-- ---- values of containers

-- the rows that were put in, and the last
pub builds_last : (t : Table) (vs : List Value) (row : Value) → 0 < t.place → t.count ≤ t.place → vs ≡ all_items t.rows ++ row ∷ []
    → ((ks : List (List ℕ)) → HasKeys t ks → t.count ≤ length t.fields.items → tree_of row ≡ row_tree ks t) → BuildsRows t vs
builds_last t vs row some full same made (in_rows ks ts [] ls) u (inl h) e = absurd (omega (arith, h.part some, full))
builds_last t vs row some full same made (in_rows ks ts [] ls) u (inr h) e =
    ap (λ l. array (items_of l)) (ap (map tree_of) same ∙ map_one (all_items t.rows) row ∙ ap (λ x. map tree_of (all_items t.rows) ++ x ∷ []) (made ks h.keys (omega (arith, h.place, h.within))) ∙ h.rows)
    ∙ same_Some (array (items_of ts)) u e
builds_last t vs row some full same made (in_rows ks ts (f ∷ es) ls) u h e = absurd cc
builds_last t vs row some full same made (in_keys ks) u h e = absurd cc
builds_last t vs row some full same made (whole v) u h e = absurd h
builds_last t vs row some full same made (in_array ts) u h e = absurd h
builds_last t vs row some full same made (in_object es l) u h e = absurd h

pub builds_object : (m : BTreeMap (String Global) Value) (k : Option (String Global)) → Builds (Object m k) (Some (value.Object m))
builds_object m k (in_object es None) t h e = ap Some (object_tree m es h.0) ∙ e
builds_object m k (in_object es (Some l)) t h e = absurd cc
builds_object m k (whole u) t h e = absurd h
builds_object m k (in_array ts) t h e = absurd h
builds_object m k (in_keys ks) t h e = absurd h
builds_object m k (in_rows ks ts es ls) t h e = absurd h
