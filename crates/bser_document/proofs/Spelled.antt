-- The events of a tree tell that tree.
use Rattle.std.proofs.Common.{◌≡◌, ℕ, List, [], ◌∷◌, ◌++◌, length, drop, refl, ap, subst, ◌∙◌}
use Rattle.std.specs.List.{AllByRecursion}
use Rattle.bser_format.specs.Tree.{Tree, null, boolean, integer, real, bytes, text, array, object, template, Items, no_items, item, items, Entries, no_entries, entry, entries, Rows, no_rows, row, rows, Fields, no_fields, skip, field, fields}
use Rattle.bser_events.specs.Events as told
use Rattle.bser_events.specs.Events.{Event, events, item_events, entry_events, key_events, row_events, field_events}
use Rattle.bser_deserializer.specs.WholeRows.{HasWholeRows, ItemsHaveWholeRows, EntriesHaveWholeRows, RowsHaveWholeRows, FieldsHaveWholeRows}
use Rattle.bser_document.specs.Spelled.{Member, a_value, a_key, a_skip, a_count, Frames, items_among, entries_among, keys_among, fields_from, rows_from, rows_among, before, tell, tell_back, untold, first_value, tree_told}
use Rattle.bser_document.proofs.Walks.{all_rows}

-- ---- the members of a container

abbrev item_members : Items → List Member → List Member
item_members no_items ms = ms
item_members (item t ts) ms = a_value t ∷ item_members ts ms

abbrev entry_members : Entries → List Member → List Member
entry_members no_entries ms = ms
entry_members (entry k t es) ms = a_key k ∷ a_value t ∷ entry_members es ms

abbrev pub key_members : List (List ℕ) → List Member → List Member
key_members [] ms = ms
key_members (k ∷ ks) ms = a_key k ∷ key_members ks ms

abbrev pub field_members : Fields → List Member → List Member
field_members no_fields ms = ms
field_members (skip fs) ms = a_skip ∷ field_members fs ms
field_members (field t fs) ms = a_value t ∷ field_members fs ms

abbrev row_members : Rows → List Member → List Member
row_members no_rows ms = ms
row_members (row fs rs) ms = field_members fs (row_members rs ms)

-- ---- they are its parts

items_found : (ts : Items) → items_among (item_members ts []) ≡ ts
items_found no_items = refl
items_found (item t ts) = ap (item t) (items_found ts)

entries_found : (es : Entries) → entries_among (entry_members es []) ≡ es
entries_found no_entries = refl
entries_found (entry k t es) = ap (entry k t) (entries_found es)

keys_found : (ks : List (List ℕ)) (n : ℕ) (ms : List Member) → keys_among (key_members ks (a_count n ∷ ms)) ≡ ks
keys_found [] n ms = refl
keys_found (k ∷ ks) n ms = ap (λ l. k ∷ l) (keys_found ks n ms)

pub fields_found : (fs : Fields) (ms : List Member) → fields_from (length (fields fs)) (field_members fs ms) ≡ fs
fields_found no_fields ms = refl
fields_found (skip fs) ms = ap skip (fields_found fs ms)
fields_found (field t fs) ms = ap (field t) (fields_found fs ms)

fields_past : (fs : Fields) (ms : List Member) → drop (length (fields fs)) (field_members fs ms) ≡ ms
fields_past no_fields ms = refl
fields_past (skip fs) ms = fields_past fs ms
fields_past (field t fs) ms = fields_past fs ms

rows_found : (k : ℕ) (rs : Rows) → AllByRecursion (λ r. length r ≡ k) (rows rs) → rows_from (length (rows rs)) k (row_members rs []) ≡ rs
rows_found k no_rows h = refl
rows_found k (row fs rs) h =
    let ms : List Member = row_members rs [] in
    subst (λ k. rows_from (length (rows rs)) k ms ≡ rs → rows_from (length (rows (row fs rs))) k (row_members (row fs rs) []) ≡ row fs rs) h.0
    (λ rest. ap (λ f. row f (rows_from (length (rows rs)) (length (fields fs)) (drop (length (fields fs)) (field_members fs ms)))) (fields_found fs ms)
    ∙ ap (λ l. row fs (rows_from (length (rows rs)) (length (fields fs)) l)) (fields_past fs ms) ∙ ap (row fs) rest)
    (rows_found k rs h.1)

rows_behind : (k n : ℕ) (ks : List (List ℕ)) (ms : List Member) → rows_among k (key_members ks (a_count n ∷ ms)) ≡ rows_from n k ms
rows_behind k n [] ms = refl
rows_behind k n (j ∷ ks) ms = rows_behind k n ks ms

-- ---- events

pub back_append : (a b : List Event) (s : Frames) → tell_back (a ++ b) s ≡ tell_back a (tell_back b s)
back_append [] b s = refl
back_append (e ∷ a) b s = ap (tell e) (back_append a b s)

abbrev pub at : List Member → Frames → Frames
at ms s = record { inner = ms; around = s.around }

-- inside one more container
abbrev inside : Frames → Frames
inside s = record { inner = []; around = s.inner ∷ s.around }

pub keys_back : (ks : List (List ℕ)) (s : Frames) → tell_back (key_events ks) s ≡ at (key_members ks s.inner) s
keys_back [] s = refl
keys_back (k ∷ ks) s = ap (before (a_key k)) (keys_back ks s)

mutual
  pub tree_back : (t : Tree) → HasWholeRows t → (s : Frames) → tell_back (events t) s ≡ before (a_value t) s
  tree_back null h s = refl
  tree_back (boolean v) h s = refl
  tree_back (integer v) h s = refl
  tree_back (real v) h s = refl
  tree_back (bytes b) h s = refl
  tree_back (text b) h s = refl
  tree_back (array ts) h s =
      ap (tell (told.open_array (length (items ts)))) (back_append (item_events ts) (told.close ∷ []) s ∙ items_back ts h (inside s))
      ∙ ap (λ x. before (a_value (array x)) s) (items_found ts)
  tree_back (object es) h s =
      ap (tell (told.open_object (length (entries es)))) (back_append (entry_events es) (told.close ∷ []) s ∙ entries_back es h (inside s))
      ∙ ap (λ x. before (a_value (object x)) s) (entries_found es)
  tree_back (template ks rs) h s =
      let n : ℕ = length (rows rs) in
      let ms : List Member = row_members rs [] in
      let counted : tell_back (told.open_rows n ∷ (row_events rs ++ told.close ∷ [])) s ≡ at (a_count n ∷ ms) (inside s) =
      ap (before (a_count n)) (back_append (row_events rs) (told.close ∷ []) s ∙ rows_back rs h.1 (inside s)) in
      let all : tell_back (key_events ks ++ (told.open_rows n ∷ (row_events rs ++ told.close ∷ []))) s ≡ at (key_members ks (a_count n ∷ ms)) (inside s) =
      back_append (key_events ks) (told.open_rows n ∷ (row_events rs ++ told.close ∷ [])) s ∙ ap (tell_back (key_events ks)) counted ∙ keys_back ks (at (a_count n ∷ ms) (inside s)) in
      ap (tell (told.open_template (length ks))) all
      ∙ ap (λ x. before (a_value (template x (rows_among (length ks) (key_members ks (a_count n ∷ ms))))) s) (keys_found ks n ms)
      ∙ ap (λ x. before (a_value (template ks x)) s) (rows_behind (length ks) n ks ms ∙ rows_found (length ks) rs (all_rows ks (rows rs) h.0))

  items_back : (ts : Items) → ItemsHaveWholeRows ts → (s : Frames) → tell_back (item_events ts) s ≡ at (item_members ts s.inner) s
  items_back no_items h s = refl
  items_back (item t ts) h s =
      back_append (events t) (item_events ts) s ∙ ap (tell_back (events t)) (items_back ts h.1 s) ∙ tree_back t h.0 (at (item_members ts s.inner) s)

  entries_back : (es : Entries) → EntriesHaveWholeRows es → (s : Frames) → tell_back (entry_events es) s ≡ at (entry_members es s.inner) s
  entries_back no_entries h s = refl
  entries_back (entry k t es) h s =
      ap (before (a_key k)) (back_append (events t) (entry_events es) s ∙ ap (tell_back (events t)) (entries_back es h.1 s) ∙ tree_back t h.0 (at (entry_members es s.inner) s))

  rows_back : (rs : Rows) → RowsHaveWholeRows rs → (s : Frames) → tell_back (row_events rs) s ≡ at (row_members rs s.inner) s
  rows_back no_rows h s = refl
  rows_back (row fs rs) h s =
      back_append (field_events fs) (row_events rs) s ∙ ap (tell_back (field_events fs)) (rows_back rs h.1 s) ∙ fields_back fs h.0 (at (row_members rs s.inner) s)

  pub fields_back : (fs : Fields) → FieldsHaveWholeRows fs → (s : Frames) → tell_back (field_events fs) s ≡ at (field_members fs s.inner) s
  fields_back no_fields h s = refl
  fields_back (skip fs) h s = ap (before a_skip) (fields_back fs h s)
  fields_back (field t fs) h s =
      back_append (events t) (field_events fs) s ∙ ap (tell_back (events t)) (fields_back fs h.1 s) ∙ tree_back t h.0 (at (field_members fs s.inner) s)

-- the tree is told by its events
pub tree_told_back : (t : Tree) → HasWholeRows t → tree_told (events t) ≡ t
tree_told_back t h = ap (λ s. first_value s.inner) (tree_back t h untold)
