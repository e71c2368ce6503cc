-- At each place of a document a value begins, or what is read as null.
use Rattle.std.proofs.Common.{◌≡◌, ◌≤◌, ◌<◌, ◌+◌, ◌⊎◌, inl, inr, ℕ, zero, suc, List, [], ◌∷◌, ◌++◌, length, map, Option, Some, None, refl, sym, ap, subst, ◌∙◌, arith, option_map}
use Rattle.std.specs.Prelude.{unwrap_or}
use Rattle.std.specs.List.{AllByRecursion}
use Rattle.std.proofs.lemmas.List.{length-append, length-map, append-nil, drop_all}
use Rattle.bser_format.specs.Tree.{Tree, null, boolean, integer, real, bytes, text, array, object, template, Items, no_items, item, items, Entries, no_entries, entry, entries, entries_of, Rows, no_rows, row, rows, Fields, no_fields, skip, field, fields}
use Rattle.bser_format.specs.Content.{value}
use Rattle.bser_format.specs.Expand.{expand, expand_items, expand_entries, expand_rows, expand_fields}
use Rattle.bser_format.specs.Measures.{depth}
use Rattle.bser_format.specs.Normal.{normal, normal_items, normal_entries, last_entries}
use Rattle.bser_format.proofs.Least.{map_some, then_some}
use Rattle.bser_deserializer.specs.WholeRows.{HasWholeRows, ItemsHaveWholeRows, EntriesHaveWholeRows, RowsHaveWholeRows, FieldsHaveWholeRows}
use Rattle.bser_events.specs.Events as told
use Rattle.bser_events.specs.Events.{Event, events, item_events, entry_events, key_events, row_events, field_events}
use Rattle.bser_document.specs.declared.document.Document.{Document}
use Rattle.bser_document.specs.declared.document.DocumentNode.{DocumentNode}
use Rattle.bser_document.specs.declared.document.DocumentNode.TheVariants as nodes
use Rattle.bser_document.specs.declared.item.Keys.{Keys}
use Rattle.bser_document.specs.declared.item.Item.{Item}
use Rattle.bser_document.specs.DocumentView.{HoldsDocument, event_of, end_of, value_of}
use Rattle.bser_document.specs.Spelled.{Frames, tell, tell_back, untold, first_value}
use Rattle.bser_document.specs.Spans.{around, Lies, tree_ends, items_ends, entries_ends, keys_ends, rows_ends, fields_ends, TreeLies, ItemsLie, EntriesLie, KeysLie, RowsLie, FieldsLie}
use Rattle.bser_document.specs.Parts.{tree, part_value, HasTexts, IsPart, IsRowIfKeyed, AreParts, AreRowsIfKeyed, members_at, part_read}
use Rattle.bser_document.specs.Holds.{HasTemplateNode, HoldsItem, IsNodeAt, IsOwnNode, IsReadAs, ShowsNode, event_tree, first_event, node_tree, item_value}
use Rattle.bser_document.proofs.Ends.{tree_adds, items_add, entries_add, keys_add, fields_add, whole_ends}
use Rattle.bser_document.proofs.Depth.{item_deep}
use Rattle.bser_document.proofs.Holds.{first_lies}
use Rattle.bser_document.proofs.Lies.{adds_length, front_lies, rest_lies, inner_lies}
use Rattle.bser_document.proofs.Looks.{entry_lies, next_read}
use Rattle.bser_document.proofs.Readings.{members_lie, part_is, row_had}
use Rattle.bser_document.proofs.Walks.{all_rows, is_template, skip_lies, field_lies, template_inner, inner_ends, rows_inner, template_events, inner_adds}
use Rattle.bser_document.proofs.Whole.{document_holds, has_texts}

-- a value begins here, or none does
pub data There (d : Document) (at : ℕ) : Type 0 where
  a_value : (t u : Tree) → TreeLies d t at → normal (expand t) ≡ Some u → HasWholeRows t → There d at
  no_value : ((n : DocumentNode) → IsNodeAt d at n → node_tree d.strings.items n ≡ null) → first_value (members_at d at) ≡ null → There d at

-- ---- places inside

either_side : {P : Type 0} (a k : ℕ) → (k < a → P) → ((j : ℕ) → k ≡ a + j → P) → P
either_side zero k front behind = behind k (omega arith)
either_side (suc a) zero front behind = front (omega arith)
either_side (suc a) (suc k) front behind = either_side a k (λ less. front (omega (arith, less))) (λ j is. behind j (omega (arith, is)))

-- what begins with such an event is no value
mute : (d : Document) (at : ℕ) (e : Event) (es : List Event) (xs : List (Option ℕ)) → event_tree e ≡ null → ((s : Frames) → first_value (tell e s).inner ≡ null) → Lies d at (e ∷ es) xs → There d at
mute d at e es xs none silent h =
    no_value (λ n is. ap event_tree (is.0 e es xs h) ∙ none) (ap first_value (members_lie d at (e ∷ es) xs h) ∙ silent (tell_back es (tell_back h.after untold)))

-- what is inside a container, or its end
in_container : (d : Document) (n k m : ℕ) (e : Event) (es : List Event) (f : ℕ → List (Option ℕ)) → length (f (n + 1)) ≡ length es → m ≡ n + suc k → Lies d n (e ∷ (es ++ told.close ∷ [])) (around (n + 1) (f (n + 1)))
    → suc k < length (around (n + 1) (f (n + 1))) → (m ≡ n + 1 + k → Lies d (n + 1) es (f (n + 1)) → k < length (f (n + 1)) → There d m) → There d m
in_container d n k m e es f long is h less inside =
    let xs : List (Option ℕ) = f (n + 1) in
    either_side (length xs) k (λ inner. inside (omega (arith, is)) (inner_lies d n e es f long h) inner) λ j past.
    let rest : Lies d (n + 1) (es ++ told.close ∷ []) (xs ++ None ∷ []) = rest_lies d n (e ∷ []) (es ++ told.close ∷ []) (Some (n + 1 + length xs + 1) ∷ []) (xs ++ None ∷ []) refl h in
    let last : Lies d (n + 1 + length xs) (told.close ∷ []) (None ∷ []) = rest_lies d (n + 1) es (told.close ∷ []) xs (None ∷ []) long rest in
    let to : m ≡ n + 1 + length xs = omega (arith, is, past, less, length-append xs (None ∷ [])) in
    mute d m told.close [] (None ∷ []) refl (λ s. refl) (subst (λ x. Lies d x (told.close ∷ []) (None ∷ [])) (sym to) last)

in_keys : (d : Document) (ks : List (List ℕ)) (n k m : ℕ) → m ≡ n + k → KeysLie d ks n → k < length (keys_ends ks n) → There d m
in_keys d [] n k m is h less = absurd (omega (arith, less))
in_keys d (x ∷ ks) n zero m is h less = let to : n ≡ m = omega (arith, is) in subst (There d) to (mute d n (told.key x) (key_events ks) (keys_ends (x ∷ ks) n) refl (λ s. refl) h)
in_keys d (x ∷ ks) n (suc k) m is h less = in_keys d ks (n + 1) k m (omega (arith, is)) (rest_lies d n (told.key x ∷ []) (key_events ks) (None ∷ []) (keys_ends ks (n + 1)) refl h) (omega (arith, less))

-- the keys of a template, the count of its rows, and the rows
in_inner : (d : Document) (ks : List (List ℕ)) (rs : Rows) (n k m : ℕ) → m ≡ n + k → Lies d n (template_inner ks rs) (inner_ends ks rs n) → k < length (inner_ends ks rs n)
    → ((i : ℕ) → m ≡ n + length (keys_ends ks n) + 1 + i → RowsLie d rs (n + length (keys_ends ks n) + 1) → i < length (rows_ends rs (n + length (keys_ends ks n) + 1)) → There d m) → There d m
in_inner d ks rs n k m is h less in_rows =
    let a : ℕ = length (keys_ends ks n) in
    let count : Event = told.open_rows (length (rows rs)) in
    let keys : KeysLie d ks n = front_lies d n (key_events ks) (count ∷ row_events rs) (keys_ends ks n) (rows_inner rs (n + a)) h in
    let rest : Lies d (n + a) (count ∷ row_events rs) (rows_inner rs (n + a)) = rest_lies d n (key_events ks) (count ∷ row_events rs) (keys_ends ks n) (rows_inner rs (n + a)) (adds_length (key_events ks) (keys_ends ks) (keys_add ks) n) h in
    either_side a k (λ lt. in_keys d ks n k m is keys lt) λ j past.
    either_side 1 j (λ lt. let to : n + a ≡ m = omega (arith, is, past, lt) in mute d m count (row_events rs) (rows_inner rs (n + a)) refl (λ s. refl) (subst (λ x. Lies d x (count ∷ row_events rs) (rows_inner rs (n + a))) to rest)) λ i more.
    in_rows i (omega (arith, is, past, more)) (rest_lies d (n + a) (count ∷ []) (row_events rs) (None ∷ []) (rows_ends rs (n + a + 1)) refl rest)
    (omega (arith, less, past, more, length-append (keys_ends ks n) (rows_inner rs (n + a))))

mutual
  in_tree : (d : Document) (t u : Tree) (n k m : ℕ) → m ≡ n + k → TreeLies d t n → normal (expand t) ≡ Some u → HasWholeRows t → k < length (tree_ends t n) → There d m
  in_tree d t u n zero m is h v w less = let to : n ≡ m = omega (arith, is) in a_value t u (subst (TreeLies d t) to h) v w
  in_tree d null u n (suc k) m is h v w less = absurd (omega (arith, less))
  in_tree d (boolean b) u n (suc k) m is h v w less = absurd (omega (arith, less))
  in_tree d (integer i) u n (suc k) m is h v w less = absurd (omega (arith, less))
  in_tree d (real r) u n (suc k) m is h v w less = absurd (omega (arith, less))
  in_tree d (bytes s) u n (suc k) m is h v w less = absurd (omega (arith, less))
  in_tree d (text s) u n (suc k) m is h v w less = absurd (omega (arith, less))
  in_tree d (array ts) u n (suc k) m is h v w less =
      map_some array (normal_items (expand_items ts)) u v λ us made same.
      in_container d n k m (told.open_array (length (items ts))) (item_events ts) (items_ends ts) (adds_length (item_events ts) (items_ends ts) (items_add ts) (n + 1)) is h less
      λ to inner lt. in_items d ts us (n + 1) k m to inner made w lt
  in_tree d (object es) u n (suc k) m is h v w less =
      map_some (λ l. object (entries_of (last_entries l))) (normal_entries (expand_entries es)) u v λ l made same.
      in_container d n k m (told.open_object (length (entries es))) (entry_events es) (entries_ends es) (adds_length (entry_events es) (entries_ends es) (entries_add es) (n + 1)) is h less
      λ to inner lt. in_entries d es l (n + 1) k m to inner made w lt
  in_tree d (template ks rs) u n (suc k) m is h v w less =
      map_some array (normal_items (expand_rows ks rs)) u v λ us made same.
      in_container d n k m (told.open_template (length ks)) (template_inner ks rs) (inner_ends ks rs) (adds_length (template_inner ks rs) (inner_ends ks rs) (inner_adds ks rs) (n + 1)) is
      (subst (λ l. Lies d n l (tree_ends (template ks rs) n)) (template_events ks rs) h) less
      λ to inner lt. in_inner d ks rs (n + 1) k m to inner lt λ i first lie left. in_rows d ks rs us (n + 1 + length (keys_ends ks (n + 1)) + 1) i m first lie made w.1 (all_rows ks (rows rs) w.0) left

  in_items : (d : Document) (ts us : Items) (n k m : ℕ) → m ≡ n + k → ItemsLie d ts n → normal_items (expand_items ts) ≡ Some us → ItemsHaveWholeRows ts → k < length (items_ends ts n) → There d m
  in_items d no_items us n k m is h v w less = absurd (omega (arith, less))
  in_items d (item t ts) us n k m is h v w less =
      let a : ℕ = length (tree_ends t n) in
      then_some (λ u. option_map (item u) (normal_items (expand_items ts))) (normal (expand t)) us v λ u first f. map_some (item u) (normal_items (expand_items ts)) us f λ vs later same.
      either_side a k (λ lt. in_tree d t u n k m is (front_lies d n (events t) (item_events ts) (tree_ends t n) (items_ends ts (n + a)) h) first w.0 lt) λ j past.
      in_items d ts vs (n + a) j m (omega (arith, is, past)) (rest_lies d n (events t) (item_events ts) (tree_ends t n) (items_ends ts (n + a)) (adds_length (events t) (tree_ends t) (tree_adds t) n) h) later w.1
      (omega (arith, less, past, length-append (tree_ends t n) (items_ends ts (n + a))))

  in_entries : (d : Document) (es : Entries) (l : List (List ℕ × Tree)) (n k m : ℕ) → m ≡ n + k → EntriesLie d es n → normal_entries (expand_entries es) ≡ Some l → EntriesHaveWholeRows es → k < length (entries_ends es n) → There d m
  in_entries d no_entries l n k m is h v w less = absurd (omega (arith, less))
  in_entries d (entry x t es) l n zero m is h v w less = let e = entry_lies d n x t es h in let to : n ≡ m = omega (arith, is) in subst (There d) to (mute d n (told.key x) e.0 (None ∷ tree_ends t (n + 1)) refl (λ s. refl) e.1)
  in_entries d (entry x t es) l n (suc k) m is h v w less =
      let e = entry_lies d n x t es h in
      let a : ℕ = length (tree_ends t (n + 1)) in
      next_read x (normal (expand t)) (normal_entries (expand_entries es)) l v λ u rest first later same.
      either_side a k (λ lt. in_tree d t u (n + 1) k m (omega (arith, is)) e.2 first w.0 lt) λ j past.
      let on : ℕ = n + length (None ∷ tree_ends t (n + 1)) in
      let same : on ≡ n + 1 + a = omega arith in
      let left : j < length (entries_ends es on) = omega (arith, less, past, length-append (None ∷ tree_ends t (n + 1)) (entries_ends es on)) in
      in_entries d es rest (n + 1 + a) j m (omega (arith, is, past)) e.3 later w.1 (subst (λ x. j < length (entries_ends es x)) same left)

  in_rows : (d : Document) (ks : List (List ℕ)) (rs : Rows) (us : Items) (n k m : ℕ) → m ≡ n + k → RowsLie d rs n → normal_items (expand_rows ks rs) ≡ Some us → RowsHaveWholeRows rs → AllByRecursion (λ r. length r ≡ length ks) (rows rs) → k < length (rows_ends rs n) → There d m
  in_rows d ks no_rows us n k m is h v w c less = absurd (omega (arith, less))
  in_rows d ks (row fs rs) us n k m is h v w c less =
      let a : ℕ = length (fields_ends fs n) in
      then_some (λ u. option_map (item u) (normal_items (expand_rows ks rs))) (normal (object (expand_fields ks fs))) us v λ u first f. map_some (item u) (normal_items (expand_rows ks rs)) us f λ vs later same.
      map_some (λ l. object (entries_of (last_entries l))) (normal_entries (expand_fields ks fs)) u first λ l made object_same.
      either_side a k (λ lt. in_fields d ks fs l n k m is (front_lies d n (field_events fs) (row_events rs) (fields_ends fs n) (rows_ends rs (n + a)) h) made w.0 c.0 lt) λ j past.
      in_rows d ks rs vs (n + a) j m (omega (arith, is, past)) (rest_lies d n (field_events fs) (row_events rs) (fields_ends fs n) (rows_ends rs (n + a)) (adds_length (field_events fs) (fields_ends fs) (fields_add fs) n) h) later w.1 c.1
      (omega (arith, less, past, length-append (fields_ends fs n) (rows_ends rs (n + a))))

  in_fields : (d : Document) (ks : List (List ℕ)) (fs : Fields) (l : List (List ℕ × Tree)) (n k m : ℕ) → m ≡ n + k → FieldsLie d fs n → normal_entries (expand_fields ks fs) ≡ Some l → FieldsHaveWholeRows fs → length (fields fs) ≡ length ks → k < length (fields_ends fs n) → There d m
  in_fields d ks no_fields l n k m is h v w c less = absurd (omega (arith, less))
  in_fields d [] (skip fs) l n k m is h v w c less = absurd (omega (arith, c))
  in_fields d [] (field t fs) l n k m is h v w c less = absurd (omega (arith, c))
  in_fields d (x ∷ ks) (skip fs) l n zero m is h v w c less = let to : n ≡ m = omega (arith, is) in subst (There d) to (mute d n told.skip (field_events fs) (fields_ends (skip fs) n) refl (λ s. refl) h)
  in_fields d (x ∷ ks) (skip fs) l n (suc k) m is h v w c less =
      next_read x (Some null) (normal_entries (expand_fields ks fs)) l v λ u rest first later same.
      in_fields d ks fs rest (n + 1) k m (omega (arith, is)) (skip_lies d n fs h).1 later w (omega (arith, c)) (omega (arith, less))
  in_fields d (x ∷ ks) (field t fs) l n k m is h v w c less =
      let a : ℕ = length (tree_ends t n) in
      let both = field_lies d n t fs h in
      next_read x (normal (expand t)) (normal_entries (expand_fields ks fs)) l v λ u rest first later same.
      either_side a k (λ lt. in_tree d t u n k m is both.0 first w.0 lt) λ j past.
      in_fields d ks fs rest (n + a) j m (omega (arith, is, past)) both.1 later w.1 (omega (arith, c))
      (omega (arith, less, past, length-append (tree_ends t n) (fields_ends fs (n + a))))

-- ---- each place

whole_lies : (d : Document) (h : HoldsDocument d (value (value_of d))) → TreeLies d h.tree 0
whole_lies d h = record {
  after = [];
  here = h.views.shows.same ∙ sym (append-nil (events h.tree));
  behind = [];
  ends = h.views.ends ∙ whole_ends h.tree ∙ sym (append-nil (tree_ends h.tree 0));
}

pub place : (d : Document) (m : ℕ) → There d m
place d m =
    let h = document_holds d in
    let long : length d.nodes.items ≡ length (tree_ends h.tree 0) = sym (length-map d.nodes.items end_of) ∙ ap length (h.views.ends ∙ whole_ends h.tree) in
    either_side (length d.nodes.items) m (λ less. in_tree d h.tree h.read 0 m m (omega arith) (whole_lies d h) h.normal h.rows (omega (arith, less, long))) λ j past.
    let beyond : length d.nodes.items ≤ m = omega (arith, past) in
    no_value (λ n is. ap (node_tree d.strings.items) (is.2 beyond)) (ap (λ l. first_value (tell_back (map (event_of d.strings.items) l) untold).inner) (drop_all m d.nodes.items beyond))

-- ---- each item

-- what is read at a place, by a row's keys or by none
abbrev ReadAt : Document → Option Keys → ℕ → Type 0
ReadAt d keys at = IsPart d keys at (part_read d keys at) ⊎ (((keys ≡ None) × ((n : DocumentNode) → IsNodeAt d at n → node_tree d.strings.items n ≡ null)) × (part_read d keys at ≡ null))

read_there : (d : Document) (at : ℕ) → There d at → ReadAt d None at
read_there d at (a_value t u l v w) =
    let p : IsPart d None at u = record { part = tree t; lies = (refl, l); value = v; whole = w; texts = has_texts d } in
    inl (subst (IsPart d None at) (part_is d None at u p) p)
read_there d at (no_value silent none) = inr ((refl, silent), ap (λ t. unwrap_or (part_value (tree t)) null) none)

read_at : (d : Document) (keys : Option Keys) (at : ℕ) → ∥ IsRowIfKeyed d keys at ∥₁ → ReadAt d keys at
read_at d (Some k) at h = inl (row_had d k at h)
read_at d None at h = read_there d at (place d at)

-- each item is read as its value
pub item_read : (i : Item) → IsReadAs i (item_value i)
item_read i = read_at i.document.now i.keys i.at i.row

-- it is no deeper than there are nodes and one
pub item_shallow : (i : Item) (count : ℕ) → count ≡ length i.document.now.nodes.items → depth (item_value i) < count + 2
item_shallow i count is = of_read (item_read i)
  where
    of_read : IsReadAs i (item_value i) → depth (item_value i) < count + 2
    of_read (inl h) = omega (arith, is, item_deep i (item_value i) h)
    of_read (inr (none, e)) = let zero : depth (item_value i) ≡ depth null = ap depth e in omega (arith, zero)

-- an item with a container's node has its value
held_there : (i : Item) (n : DocumentNode) (u : Tree) → IsOwnNode i n → (node_tree i.document.now.strings.items n ≡ null → ⊥) → IsReadAs i u → HoldsItem i u
held_there i n u own some (inl h) = h
held_there i n u own some (inr (none, e)) = absurd (some (none.1 n (own none.0)))

array_held : (i : Item) (n : DocumentNode) (len end : ℕ) (u : Tree) → n ≡ nodes.Array len end → IsOwnNode i n → IsReadAs i u → HoldsItem i u
array_held i n len end u is own = held_there i n u own λ e. let f : node_tree i.document.now.strings.items (nodes.Array len end) ≡ null = ap (node_tree i.document.now.strings.items) (sym is) ∙ e in absurd cc

object_held : (i : Item) (n : DocumentNode) (len end : ℕ) (u : Tree) → n ≡ nodes.Object len end → IsOwnNode i n → IsReadAs i u → HoldsItem i u
object_held i n len end u is own = held_there i n u own λ e. let f : node_tree i.document.now.strings.items (nodes.Object len end) ≡ null = ap (node_tree i.document.now.strings.items) (sym is) ∙ e in absurd cc

template_held : (i : Item) (n : DocumentNode) (len end : ℕ) (u : Tree) → n ≡ nodes.Template len end → IsOwnNode i n → IsReadAs i u → HoldsItem i u
template_held i n len end u is own = held_there i n u own λ e. let f : node_tree i.document.now.strings.items (nodes.Template len end) ≡ null = ap (node_tree i.document.now.strings.items) (sym is) ∙ e in absurd cc

pub container_held : (i : Item) (n : DocumentNode) (u : Tree) → ((l : ℕ) × (e : ℕ) × (n ≡ nodes.Array l e)) ⊎ (((l : ℕ) × (e : ℕ) × (n ≡ nodes.Object l e)) ⊎ ((l : ℕ) × (e : ℕ) × (n ≡ nodes.Template l e))) → IsOwnNode i n → IsReadAs i u → HoldsItem i u
container_held i n u (inl (l, e, is)) own = array_held i n l e u is own
container_held i n u (inr (inl (l, e, is))) own = object_held i n l e u is own
container_held i n u (inr (inr (l, e, is))) own = template_held i n l e u is own

-- its node shows what it is read as
pub shows_there : (i : Item) (n : DocumentNode) → IsOwnNode i n → ((u : Tree) → HoldsItem i u → ShowsNode u i.document.now n) → (u : Tree) → IsReadAs i u → ShowsNode u i.document.now n
shows_there i n own shows u (inl h) = shows u h
shows_there i n own shows u (inr (none, e)) =
    let is = own none.0 in
    subst (λ u. ShowsNode u i.document.now n) (sym e) (record { same = none.1 n is; within = is.1 (has_texts i.document.now) })

-- ---- templates

-- the template that begins with its node
record Templated (d : Document) (at len : ℕ) : Type 0 where
  keys : List (List ℕ)
  spelled : Rows
  read : Items
  long : len ≡ length keys
  lies : TreeLies d (template keys spelled) at
  whole : HasWholeRows (template keys spelled)
  value : normal_items (expand_rows keys spelled) ≡ Some read

templated : (d : Document) (at len end : ℕ) → IsNodeAt d at (nodes.Template len end) → There d at → Templated d at len
templated d at len end is (no_value silent none) = let e = silent (nodes.Template len end) is in absurd cc
templated d at len end is (a_value t u l v w) =
    let f = first_lies d at t l in
    let a = is_template t len (is.0 (first_event t) f.0 (tree_ends t at) f.1) in
    map_some array (normal_items (expand_rows a.0 a.1)) u (ap (λ t. normal (expand t)) (sym a.2) ∙ v) λ us made same.
    record { keys = a.0; spelled = a.1; read = us; long = a.3; lies = subst (λ t. TreeLies d t at) a.2 l; whole = subst HasWholeRows a.2 w; value = made }

-- its rows are there
pub rows_known : (i : Item) (len at left body : ℕ) → HasTemplateNode i len
    → ((ks : List (List ℕ)) (rs : Rows) (us : Items) → len ≡ length ks → TreeLies i.document.now (template ks rs) i.at → HasWholeRows (template ks rs) → HasTexts i.document.now → normal_items (expand_rows ks rs) ≡ Some us → AreParts i.document.now (Some (record { at = at; len = len })) body left us)
    → ∥ AreRowsIfKeyed i.document.now (Some (record { at = at; len = len })) body left ∥₁
rows_known i len at left body (end, none, is) begin =
    let r : Templated i.document.now i.at len = templated i.document.now i.at len end is (place i.document.now i.at) in
    ∣ (r.read, begin r.keys r.spelled r.read r.long r.lies r.whole (has_texts i.document.now) r.value) ∣₁
