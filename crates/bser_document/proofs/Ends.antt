-- The ends that the events of a value give.
use Rattle.std.proofs.Common.{◌≡◌, ℕ, ◌+◌, List, [], ◌∷◌, ◌++◌, length, refl, sym, ap, ◌∙◌, arith}
use Rattle.std.specs.Prelude.{Option, Some, None}
use Rattle.std.proofs.lemmas.List.{length-append, append_assoc, append-nil}
use Rattle.bser_format.specs.Tree.{Tree, null, boolean, integer, real, bytes, text, array, object, template, Items, no_items, item, Entries, no_entries, entry, Rows, no_rows, row, Fields, no_fields, skip, field, rows, items, entries}
use Rattle.bser_events.specs.Events as told
use Rattle.bser_events.specs.Events.{Event, events, item_events, entry_events, row_events, field_events, key_events}
use Rattle.bser_document.specs.DocumentView.{Marks, change, closed, noted, innermost, begun, mark, marks, unmarked}
use Rattle.bser_document.specs.Spans.{around, tree_ends, items_ends, entries_ends, keys_ends, rows_ends, fields_ends}

marks_append : (a b : List Event) (m : Marks) → marks (a ++ b) m ≡ marks b (marks a m)
marks_append [] b m = refl
marks_append (e ∷ a) b m = marks_append a b (mark e m)

-- the same, with these ends behind
abbrev pub more_ends : List (Option ℕ) → Marks → Marks
more_ends xs m = record { ends = m.ends ++ xs; around = m.around }

-- so many more nodes have these ends
abbrev pub Adds : List Event → (ℕ → List (Option ℕ)) → Type 0
Adds es f = (m : Marks) → marks es m ≡ more_ends (f (length m.ends)) m

change_at : (p : List (Option ℕ)) (q : List (Option ℕ)) (k n : ℕ) → change (p ++ Some k ∷ q) (length p) n ≡ p ++ Some n ∷ q
change_at [] q k n = refl
change_at (x ∷ p) q k n = ap (λ l. x ∷ l) (change_at p q k n)

pub both_add : (a b : List Event) (f g : ℕ → List (Option ℕ)) → Adds a f → Adds b g → Adds (a ++ b) (λ n. f n ++ g (n + length (f n)))
both_add a b f g x y m =
    let xs : List (Option ℕ) = f (length m.ends) in
    let long : length (m.ends ++ xs) ≡ length m.ends + length xs = length-append m.ends xs in
    marks_append a b m ∙ ap (marks b) (x m) ∙ y (more_ends xs m)
    ∙ ap (λ k. more_ends (g k) (more_ends xs m)) long
    ∙ ap (λ l. record { ends = l; around = m.around }) (append_assoc m.ends xs (g (length m.ends + length xs)))

-- a container, whose nodes are told between
contained : (e : Event) (es : List Event) (f : ℕ → List (Option ℕ)) → ((m : Marks) → mark e m ≡ begun m) → Adds es f → Adds (e ∷ (es ++ told.close ∷ [])) (λ n. around (n + 1) (f (n + 1)))
contained e es f opens inside m =
    let p : List (Option ℕ) = m.ends in
    let n : ℕ = length p in
    let outer : ℕ = innermost m.around in
    let long : length (p ++ Some outer ∷ []) ≡ n + 1 = length-append p (Some outer ∷ []) in
    let xs : List (Option ℕ) = f (n + 1) in
    let whole : (p ++ Some outer ∷ []) ++ xs ≡ p ++ Some outer ∷ xs = append_assoc p (Some outer ∷ []) xs in
    let total : length (p ++ Some outer ∷ xs) + 1 ≡ n + 1 + length xs + 1 = omega (arith, length-append p (Some outer ∷ xs)) in
    ap (marks (es ++ told.close ∷ [])) (opens m) ∙ marks_append es (told.close ∷ []) (begun m) ∙ ap (mark told.close) (inside (begun m))
    ∙ ap (λ k. closed ((p ++ Some outer ∷ []) ++ f k) (n ∷ m.around)) long ∙ ap (λ l. closed l (n ∷ m.around)) whole
    ∙ ap (λ l. record { ends = change l n (length (p ++ Some outer ∷ xs) + 1); around = m.around }) (append_assoc p (Some outer ∷ xs) (None ∷ []))
    ∙ ap (λ l. record { ends = l; around = m.around }) (change_at p (xs ++ None ∷ []) outer (length (p ++ Some outer ∷ xs) + 1) ∙ ap (λ k. p ++ Some k ∷ (xs ++ None ∷ [])) total)

pub single : (e : Event) → ((m : Marks) → mark e m ≡ noted m) → Adds (e ∷ []) (λ n. None ∷ [])
single e is m = is m

nothing_added : Adds [] (λ n. [])
nothing_added m = ap (λ l. record { ends = l; around = m.around }) (sym (append-nil m.ends))

pub keys_add : (ks : List (List ℕ)) → Adds (key_events ks) (keys_ends ks)
keys_add [] = nothing_added
keys_add (k ∷ ks) = both_add (told.key k ∷ []) (key_events ks) (λ n. None ∷ []) (keys_ends ks) (single (told.key k) (λ m. refl)) (keys_add ks)

mutual
  pub tree_adds : (t : Tree) → Adds (events t) (tree_ends t)
  tree_adds null = single told.null (λ m. refl)
  tree_adds (boolean v) = single (told.boolean v) (λ m. refl)
  tree_adds (integer v) = single (told.integer v) (λ m. refl)
  tree_adds (real v) = single (told.real v) (λ m. refl)
  tree_adds (bytes s) = single (told.bytes s) (λ m. refl)
  tree_adds (text s) = single (told.text s) (λ m. refl)
  tree_adds (array ts) = contained (told.open_array (length (items ts))) (item_events ts) (items_ends ts) (λ m. refl) (items_add ts)
  tree_adds (object es) = contained (told.open_object (length (entries es))) (entry_events es) (entries_ends es) (λ m. refl) (entries_add es)
  tree_adds (template ks rs) =
      let inner : List Event = key_events ks ++ (told.open_rows (length (rows rs)) ∷ row_events rs) in
      let same : events (template ks rs) ≡ told.open_template (length ks) ∷ (inner ++ told.close ∷ []) = ap (λ l. told.open_template (length ks) ∷ l) (sym (append_assoc (key_events ks) (told.open_rows (length (rows rs)) ∷ row_events rs) (told.close ∷ []))) in
      let rest : ℕ → List (Option ℕ) = λ k. None ∷ rows_ends rs (k + 1) in
      let inside : ℕ → List (Option ℕ) = λ n. keys_ends ks n ++ rest (n + length (keys_ends ks n)) in
      λ m. ap (λ l. marks l m) same ∙ contained (told.open_template (length ks)) inner inside (λ m. refl)
      (both_add (key_events ks) (told.open_rows (length (rows rs)) ∷ row_events rs) (keys_ends ks) rest (keys_add ks)
      (both_add (told.open_rows (length (rows rs)) ∷ []) (row_events rs) (λ n. None ∷ []) (rows_ends rs) (single (told.open_rows (length (rows rs))) (λ m. refl)) (rows_add rs))) m

  pub items_add : (ts : Items) → Adds (item_events ts) (items_ends ts)
  items_add no_items = nothing_added
  items_add (item t ts) = both_add (events t) (item_events ts) (tree_ends t) (items_ends ts) (tree_adds t) (items_add ts)

  pub entries_add : (es : Entries) → Adds (entry_events es) (entries_ends es)
  entries_add no_entries = nothing_added
  entries_add (entry k t es) =
      both_add (told.key k ∷ events t) (entry_events es) (λ n. None ∷ tree_ends t (n + 1)) (entries_ends es)
      (both_add (told.key k ∷ []) (events t) (λ n. None ∷ []) (tree_ends t) (single (told.key k) (λ m. refl)) (tree_adds t)) (entries_add es)

  pub rows_add : (rs : Rows) → Adds (row_events rs) (rows_ends rs)
  rows_add no_rows = nothing_added
  rows_add (row fs rs) = both_add (field_events fs) (row_events rs) (fields_ends fs) (rows_ends rs) (fields_add fs) (rows_add rs)

  pub fields_add : (fs : Fields) → Adds (field_events fs) (fields_ends fs)
  fields_add no_fields = nothing_added
  fields_add (skip fs) = both_add (told.skip ∷ []) (field_events fs) (λ n. None ∷ []) (fields_ends fs) (single told.skip (λ m. refl)) (fields_add fs)
  fields_add (field t fs) = both_add (events t) (field_events fs) (tree_ends t) (fields_ends fs) (tree_adds t) (fields_add fs)

-- ---- from the beginning

pub whole_ends : (t : Tree) → (marks (events t) unmarked).ends ≡ tree_ends t 0
whole_ends t = ap (λ m. m.ends) (tree_adds t unmarked)
