-- Walking over what an item has inside.
use Rattle.std.proofs.Common.{◌≡◌, ◌≤◌, ◌+◌, ◌-◌, ℕ, suc, List, [], ◌∷◌, ◌++◌, length, Option, Some, None, refl, sym, ap, subst, ◌∙◌, arith, option_map}
use Rattle.std.specs.List.{AllByRecursion}
use Rattle.std.proofs.lemmas.Option.{same_Some}
use Rattle.std.proofs.lemmas.List.{length-append, append_assoc}
use Rattle.bser_format.specs.Tree.{Tree, null, boolean, integer, real, bytes, text, array, object, template, no_items, item, items, Rows, no_rows, row, rows, Fields, no_fields, skip, field, fields}
use Rattle.bser_format.specs.Tree as trees
use Rattle.bser_format.specs.Expand.{expand, expand_items, expand_rows, expand_fields}
use Rattle.bser_format.specs.Grammar.{IsTemplate}
use Rattle.bser_format.specs.Normal.{normal, normal_items}
use Rattle.bser_format.proofs.Least.{map_some, then_some}
use Rattle.bser_deserializer.specs.WholeRows.{HasWholeRows}
use Rattle.bser_value.specs.Contents.{as_array}
use Rattle.bser_events.specs.Events as told
use Rattle.bser_events.specs.Events.{Event, events, item_events, key_events, row_events, field_events}
use Rattle.bser_document.specs.declared.document.Document.{Document}
use Rattle.bser_document.specs.declared.document.DocumentNode.{DocumentNode}
use Rattle.bser_document.specs.declared.document.DocumentNode.TheVariants as nodes
use Rattle.bser_document.specs.declared.item.Item.{Item}
use Rattle.bser_document.specs.declared.item.Keys.{Keys}
use Rattle.bser_document.specs.declared.items.Items.{Items}
use Rattle.bser_document.specs.DocumentView.{event_of}
use Rattle.bser_document.specs.Spans.{tree_ends, items_ends, keys_ends, rows_ends, fields_ends, Lies, TreeLies, ItemsLie, KeysLie, RowsLie, FieldsLie, FieldLies}
use Rattle.bser_document.specs.Holds.{Part, tree, skipped, row_of, PartLies, RowLies, HoldsItem, HasTexts, IsNodeAt, IsPartNode, PartIsWhole, ShowsNode, first_event, part_event, part_value, node_tree, emptied, part_ends, field_ends}
use Rattle.bser_document.specs.Walks.{Parts, items_of, rows_of, parts_value, parts_count, PartsLie, PartsAreWhole, AreParts, HoldsItems, FindsItems, GivesItem, length_of, RowsBegin}
use Rattle.bser_document.specs.Parts.{IsPart, IsRowIfKeyed, AreRowsIfKeyed}
use Rattle.bser_document.proofs.Ends.{Adds, both_add, single, tree_adds, items_add, keys_add, rows_add, fields_add}
use Rattle.bser_document.proofs.Lies.{adds_length, front_lies, rest_lies, inner_lies, lies_within}

-- ---- behind a value

-- ---- behind fields

-- so many fields are left of a row, from this place on
abbrev pub FieldsLeft : Document → ℕ → Fields → ℕ → ℕ → Type 0
FieldsLeft d at fs behind k = (gs : Fields) × FieldsLie d gs behind × (length (fields gs) ≡ k) × (behind + length (fields_ends gs behind) ≡ at + length (fields_ends fs at))

pub none_left : (d : Document) (at : ℕ) (fs : Fields) (behind k : ℕ) → k ≡ 0 → FieldsLeft d at fs behind k → behind ≡ at + length (fields_ends fs at)
none_left d at fs behind k none (no_fields, h, e, same) = omega (arith, same)
none_left d at fs behind k none (skip gs, h, e, same) = absurd (omega (arith, e, none))
none_left d at fs behind k none (field t gs, h, e, same) = absurd (omega (arith, e, none))

pub skip_lies : (d : Document) (at : ℕ) (fs : Fields) → FieldsLie d (skip fs) at → FieldLies d None at × FieldsLie d fs (at + 1)
skip_lies d at fs h =
    (front_lies d at (told.skip ∷ []) (field_events fs) (None ∷ []) (fields_ends fs (at + 1)) h, rest_lies d at (told.skip ∷ []) (field_events fs) (None ∷ []) (fields_ends fs (at + 1)) refl h)

pub field_lies : (d : Document) (at : ℕ) (t : Tree) (fs : Fields) → FieldsLie d (field t fs) at → TreeLies d t at × FieldsLie d fs (at + length (tree_ends t at))
field_lies d at t fs h =
    let n : ℕ = at + length (tree_ends t at) in
    (front_lies d at (events t) (field_events fs) (tree_ends t at) (fields_ends fs n) h, rest_lies d at (events t) (field_events fs) (tree_ends t at) (fields_ends fs n) (adds_length (events t) (tree_ends t) (tree_adds t) at) h)

pub one_passed : (d : Document) (at : ℕ) (fs : Fields) (behind next k l : ℕ) → k ≡ suc l → ((p : Option Tree) → FieldLies d p behind → next ≡ behind + length (field_ends p behind)) → FieldsLeft d at fs behind k → FieldsLeft d at fs next l
one_passed d at fs behind next k l less step (no_fields, h, e, same) = absurd (omega (arith, e, less))
one_passed d at fs behind next k l less step (skip gs, h, e, same) =
    let p = skip_lies d behind gs h in
    let to : next ≡ behind + 1 = step None p.0 in
    subst (λ n. FieldsLeft d at fs n l) (sym to) (gs, p.1, omega (arith, e, less), omega (arith, same))
one_passed d at fs behind next k l less step (field t gs, h, e, same) =
    let p = field_lies d behind t gs h in
    let n : ℕ = behind + length (tree_ends t behind) in
    let to : next ≡ n = step (Some t) p.0 in
    subst (λ n. FieldsLeft d at fs n l) (sym to) (gs, p.1, omega (arith, e, less), omega (arith, same, length-append (tree_ends t behind) (fields_ends gs n)))

-- ---- behind a part

pub part_behind : (i : Item) (r : ℕ) → i.keys ≡ None → ((p : Option Tree) → FieldLies i.document.now p i.at → r ≡ i.at + length (field_ends p i.at)) → (p : Part) → PartLies i.document.now i.keys i.at p → r ≡ i.at + length (part_ends p i.at)
part_behind i r none is (tree t) l = is (Some t) l.1
part_behind i r none is skipped l = is None l.1
part_behind i r none is (row_of ks fs) l = let e : None ≡ Some l.keys_at = sym none ∙ l.some in absurd cc

pub row_behind : (i : Item) (k : Keys) (r : ℕ) → i.keys ≡ Some k → ((fs : Fields) → FieldsLie i.document.now fs i.at → length (fields fs) ≡ k.len → r ≡ i.at + length (fields_ends fs i.at)) → (p : Part) → PartLies i.document.now i.keys i.at p → r ≡ i.at + length (part_ends p i.at)
row_behind i k r some is (tree t) l = let e : None ≡ Some k = sym l.0 ∙ some in absurd cc
row_behind i k r some is skipped l = let e : None ≡ Some k = sym l.0 ∙ some in absurd cc
row_behind i k r some is (row_of ks fs) l =
    let e : Some l.keys_at ≡ Some k = sym l.some ∙ some in
    is fs l.lie (l.count ∙ sym l.shows.count ∙ ap (λ k. k.len) (same_Some l.keys_at k e))

-- ---- the next item

pub count_left : (s : Items) (us : trees.Items) → HoldsItems s us → s.left ≡ length_of us
count_left s us h = h.count ∙ of_parts h.parts us h.value
  where
    of_items : (ts us : trees.Items) → normal_items (expand_items ts) ≡ Some us → length (items ts) ≡ length_of us
    of_items no_items us e = ap length_of (same_Some no_items us e)
    of_items (item t ts) us e =
        then_some (λ u. option_map (item u) (normal_items (expand_items ts))) (normal (expand t)) us e λ u first f. map_some (item u) (normal_items (expand_items ts)) us f λ vs rest same.
        ap suc (of_items ts vs rest) ∙ ap length_of same

    of_rows : (ks : List (List ℕ)) (rs : Rows) (us : trees.Items) → normal_items (expand_rows ks rs) ≡ Some us → length (rows rs) ≡ length_of us
    of_rows ks no_rows us e = ap length_of (same_Some no_items us e)
    of_rows ks (row fs rs) us e =
        then_some (λ u. option_map (item u) (normal_items (expand_rows ks rs))) (normal (object (expand_fields ks fs))) us e λ u first f. map_some (item u) (normal_items (expand_rows ks rs)) us f λ vs rest same.
        ap suc (of_rows ks rs vs rest) ∙ ap length_of same

    of_parts : (p : Parts) (us : trees.Items) → parts_value p ≡ Some us → parts_count p ≡ length_of us
    of_parts (items_of ts) us e = of_items ts us e
    of_parts (rows_of ks rs) us e = of_rows ks rs us e

-- the first part is this one, and the others begin behind it
abbrev pub Gives : Document → Option Keys → ℕ → ℕ → ℕ → trees.Items → Type 0
Gives d keys at next left no_items = ⊥
Gives d keys at next left (item u us) = IsPart d keys at u × AreParts d keys next left us

pub next_part : (s : Items) (at left : ℕ) → left ≡ s.left - 1 → (s.left ≡ 0 → ⊥)
    → ((p : Part) → PartLies s.document.now s.keys s.at p → at ≡ s.at + length (part_ends p s.at)) → (us : trees.Items) → HoldsItems s us
    → Gives s.document.now s.keys s.at at left us
next_part s at left less some step us h = of_parts h.parts h.lie h.count h.value h.whole
  where
    d : Document
    d = s.document.now

    of_parts : (p : Parts) → PartsLie d s.keys s.at p → s.left ≡ parts_count p → parts_value p ≡ Some us → PartsAreWhole p → Gives d s.keys s.at at left us
    of_parts (items_of no_items) l count v w = absurd (some count)
    of_parts (items_of (item t ts)) l count v w =
        let n : ℕ = s.at + length (tree_ends t s.at) in
        let here : TreeLies d t s.at = front_lies d s.at (events t) (item_events ts) (tree_ends t s.at) (items_ends ts n) l.1 in
        let rest : ItemsLie d ts n = rest_lies d s.at (events t) (item_events ts) (tree_ends t s.at) (items_ends ts n) (adds_length (events t) (tree_ends t) (tree_adds t) s.at) l.1 in
        let to : at ≡ n = step (tree t) (l.0, here) in
        then_some (λ u. option_map (item u) (normal_items (expand_items ts))) (normal (expand t)) us v λ u first f. map_some (item u) (normal_items (expand_items ts)) us f λ vs later same.
        subst (λ us. Gives d s.keys s.at at left us) same (
          record { part = tree t; lies = (l.0, here); value = first; whole = w.0; texts = h.texts },
          record { parts = items_of ts; lie = (l.0, subst (ItemsLie d ts) (sym to) rest); count = omega (arith, less, count); value = later; whole = w.1; texts = h.texts },
        )
    of_parts (rows_of ks no_rows) l count v w = absurd (some count)
    of_parts (rows_of ks (row fs rs)) l count v w =
        let n : ℕ = s.at + length (fields_ends fs s.at) in
        let here : FieldsLie d fs s.at = front_lies d s.at (field_events fs) (row_events rs) (fields_ends fs s.at) (rows_ends rs n) l.lie in
        let rest : RowsLie d rs n = rest_lies d s.at (field_events fs) (row_events rs) (fields_ends fs s.at) (rows_ends rs n) (adds_length (field_events fs) (fields_ends fs) (fields_add fs) s.at) l.lie in
        let lies : RowLies d s.keys s.at ks fs = record { keys_at = l.keys_at; some = l.some; shows = l.shows; count = l.count.0; lie = here } in
        let to : at ≡ n = step (row_of ks fs) lies in
        then_some (λ u. option_map (item u) (normal_items (expand_rows ks rs))) (normal (object (expand_fields ks fs))) us v λ u first f. map_some (item u) (normal_items (expand_rows ks rs)) us f λ vs later same.
        subst (λ us. Gives d s.keys s.at at left us) same (
          record { part = row_of ks fs; lies = lies; value = first; whole = w.0; texts = h.texts },
          record { parts = rows_of ks rs; lie = record { keys_at = l.keys_at; some = l.some; shows = l.shows; count = l.count.1; lie = subst (RowsLie d rs) (sym to) rest }; count = omega (arith, less, count); value = later; whole = w.1; texts = h.texts },
        )

pub next_is : (s : Items) (at left : ℕ) (one : ∥ IsRowIfKeyed s.document.now s.keys s.at ∥₁) (others : ∥ AreRowsIfKeyed s.document.now s.keys at left ∥₁) → left ≡ s.left - 1 → (s.left ≡ 0 → ⊥)
    → ((p : Part) → PartLies s.document.now s.keys s.at p → at ≡ s.at + length (part_ends p s.at)) → (us : trees.Items) → HoldsItems s us
    → GivesItem us (Some (record { document = s.document; at = s.at; keys = s.keys; row = one })) (record { document = s.document; at = at; left = left; keys = s.keys; rows = others })
next_is s at left one others less some step us h = given us (next_part s at left less some step us h)
  where
    given : (us : trees.Items) → Gives s.document.now s.keys s.at at left us → GivesItem us (Some (record { document = s.document; at = s.at; keys = s.keys; row = one })) (record { document = s.document; at = at; left = left; keys = s.keys; rows = others })
    given no_items g = absurd g
    given (item u us) g = g

-- ---- the items of an array

is_array : (t : Tree) (n : ℕ) → told.open_array n ≡ first_event t → (ts : trees.Items) × (t ≡ array ts) × (n ≡ length (items ts))
is_array null n e = absurd cc
is_array (boolean v) n e = absurd cc
is_array (integer v) n e = absurd cc
is_array (real v) n e = absurd cc
is_array (bytes s) n e = absurd cc
is_array (text s) n e = absurd cc
is_array (array ts) n e = (ts, refl, cc)
is_array (object es) n e = absurd cc
is_array (template ks rs) n e = absurd cc

pub is_template : (t : Tree) (n : ℕ) → told.open_template n ≡ first_event t → (ks : List (List ℕ)) × (rs : Rows) × (t ≡ template ks rs) × (n ≡ length ks)
is_template null n e = absurd cc
is_template (boolean v) n e = absurd cc
is_template (integer v) n e = absurd cc
is_template (real v) n e = absurd cc
is_template (bytes s) n e = absurd cc
is_template (text s) n e = absurd cc
is_template (array ts) n e = absurd cc
is_template (object es) n e = absurd cc
is_template (template ks rs) n e = (ks, rs, refl, cc)

no_array_node : (s : List ℕ) (n : DocumentNode) → ((l a : ℕ) → n ≡ nodes.Array l a → ⊥) → ((l a : ℕ) → n ≡ nodes.Template l a → ⊥) → as_array (node_tree s n) ≡ None
no_array_node s nodes.Null f g = refl
no_array_node s (nodes.Bool v) f g = refl
no_array_node s (nodes.Int v) f g = refl
no_array_node s (nodes.Real v) f g = refl
no_array_node s (nodes.Bytes l a) f g = refl
no_array_node s (nodes.Text l a) f g = refl
no_array_node s (nodes.Key l a) f g = refl
no_array_node s (nodes.Array l a) f g = absurd (f l a refl)
no_array_node s (nodes.Object l a) f g = refl
no_array_node s (nodes.Template l a) f g = absurd (g l a refl)
no_array_node s (nodes.Rows l) f g = refl
no_array_node s nodes.Skip f g = refl
no_array_node s nodes.Close f g = refl

no_array_inside : (u : Tree) → as_array (emptied u) ≡ None → FindsItems (as_array u) None
no_array_inside null e = tt
no_array_inside (boolean v) e = tt
no_array_inside (integer v) e = tt
no_array_inside (real v) e = tt
no_array_inside (bytes s) e = tt
no_array_inside (text s) e = tt
no_array_inside (array ts) e = absurd cc
no_array_inside (object es) e = tt
no_array_inside (template ks rs) e = tt

pub no_array : (d : Document) (n : DocumentNode) → ((l a : ℕ) → n ≡ nodes.Array l a → ⊥) → ((l a : ℕ) → n ≡ nodes.Template l a → ⊥) → (u : Tree) → ShowsNode u d n → FindsItems (as_array u) None
no_array d n f g u h = no_array_inside u (ap as_array (sym h.same) ∙ no_array_node d.strings.items n f g)

-- the items of an array that is read
array_holds : (i : Item) (ts us : trees.Items) (len at : ℕ) → len ≡ length (items ts) → (i.at + 1 ≤ length i.document.now.nodes.items → at ≡ i.at + 1) → i.keys ≡ None → TreeLies i.document.now (array ts) i.at → normal_items (expand_items ts) ≡ Some us
    → PartsAreWhole (items_of ts) → HasTexts i.document.now → AreParts i.document.now None at len us
array_holds i ts us len at count place none h v whole texts =
    let d : Document = i.document.now in
    let w = lies_within d i.at (told.open_array (length (items ts))) (item_events ts ++ told.close ∷ []) (tree_ends (array ts) i.at) h in
    let to : at ≡ i.at + 1 = place (omega (arith, w)) in
    let inner : ItemsLie d ts (i.at + 1) = inner_lies d i.at (told.open_array (length (items ts))) (item_events ts) (items_ends ts) (adds_length (item_events ts) (items_ends ts) (items_add ts) (i.at + 1)) h in
    record { parts = items_of ts; lie = (refl, subst (ItemsLie d ts) (sym to) inner); count = count; value = v; whole = whole; texts = texts }

pub array_items : (i : Item) (n : DocumentNode) (len end at : ℕ) (keyed : ∥ Unit {0} ∥₁) → n ≡ nodes.Array len end → IsPartNode i n → (i.at + 1 ≤ length i.document.now.nodes.items → at ≡ i.at + 1)
    → (u : Tree) → HoldsItem i u → FindsItems (as_array u) (Some (record { document = i.document; at = at; left = len; keys = None; rows = keyed }))
array_items i n len end at keyed is first place u h = of_part h.part h.lies h.value h.whole
  where
    begins : (p : Part) → PartLies i.document.now i.keys i.at p → told.open_array len ≡ part_event p
    begins p l = ap (event_of i.document.now.strings.items) (sym is) ∙ first p l

    of_part : (p : Part) → PartLies i.document.now i.keys i.at p → part_value p ≡ Some u → PartIsWhole p → FindsItems (as_array u) (Some (record { document = i.document; at = at; left = len; keys = None; rows = keyed }))
    of_part (tree t) l v w =
        let a = is_array t len (begins (tree t) l) in
        let here : TreeLies i.document.now (array a.0) i.at = subst (λ t. TreeLies i.document.now t i.at) a.1 l.1 in
        let whole : PartsAreWhole (items_of a.0) = subst HasWholeRows a.1 w in
        map_some array (normal_items (expand_items a.0)) u (ap (λ t. normal (expand t)) (sym a.1) ∙ v) λ us made same.
        subst (λ u. FindsItems (as_array u) (Some (record { document = i.document; at = at; left = len; keys = None; rows = keyed }))) same (array_holds i a.0 us len at a.2 place l.0 here made whole h.texts)
    of_part skipped l v w = let e = begins skipped l in absurd cc
    of_part (row_of ks fs) l v w = let e = begins (row_of ks fs) l in absurd cc

-- ---- the rows of a template

pub template_rows : (i : Item) (n : DocumentNode) (len end : ℕ) (r : Items) → n ≡ nodes.Template len end → IsPartNode i n → RowsBegin i len r → (u : Tree) → HoldsItem i u → FindsItems (as_array u) (Some r)
template_rows i n len end r is first rows u h = of_part h.part h.lies h.value h.whole
  where
    begins : (p : Part) → PartLies i.document.now i.keys i.at p → told.open_template len ≡ part_event p
    begins p l = ap (event_of i.document.now.strings.items) (sym is) ∙ first p l

    of_part : (p : Part) → PartLies i.document.now i.keys i.at p → part_value p ≡ Some u → PartIsWhole p → FindsItems (as_array u) (Some r)
    of_part (tree t) l v w =
        let a = is_template t len (begins (tree t) l) in
        let here : TreeLies i.document.now (template a.0 a.1) i.at = subst (λ t. TreeLies i.document.now t i.at) a.2 l.1 in
        let whole : HasWholeRows (template a.0 a.1) = subst HasWholeRows a.2 w in
        map_some array (normal_items (expand_rows a.0 a.1)) u (ap (λ t. normal (expand t)) (sym a.2) ∙ v) λ us made same.
        subst (λ u. FindsItems (as_array u) (Some r)) same (rows a.0 a.1 us a.3 here whole h.texts made)
    of_part skipped l v w = let e = begins skipped l in absurd cc
    of_part (row_of ks fs) l v w = let e = begins (row_of ks fs) l in absurd cc

is_rows : (s : List ℕ) (n : DocumentNode) (k : ℕ) → event_of s n ≡ told.open_rows k → n ≡ nodes.Rows k
is_rows s nodes.Null k e = absurd cc
is_rows s (nodes.Bool v) k e = absurd cc
is_rows s (nodes.Int v) k e = absurd cc
is_rows s (nodes.Real v) k e = absurd cc
is_rows s (nodes.Bytes l a) k e = absurd cc
is_rows s (nodes.Text l a) k e = absurd cc
is_rows s (nodes.Key l a) k e = absurd cc
is_rows s (nodes.Array l a) k e = absurd cc
is_rows s (nodes.Object l a) k e = absurd cc
is_rows s (nodes.Template l a) k e = absurd cc
is_rows s (nodes.Rows l) k e = cc
is_rows s nodes.Skip k e = absurd cc
is_rows s nodes.Close k e = absurd cc

keys_length : (ks : List (List ℕ)) → length (key_events ks) ≡ length ks
keys_length [] = refl
keys_length (k ∷ ks) = ap suc (keys_length ks)

pub all_rows : (ks : List (List ℕ)) (rs : List (List (Option Tree))) → IsTemplate ks rs → AllByRecursion (λ r. length r ≡ length ks) rs
all_rows [] rs h = subst (AllByRecursion (λ r. length r ≡ 0)) (sym h) tt
all_rows (k ∷ ks) rs h = h

-- what is inside a template: its keys, the count of its rows, and the rows
abbrev pub template_inner : List (List ℕ) → Rows → List Event
template_inner ks rs = key_events ks ++ (told.open_rows (length (rows rs)) ∷ row_events rs)

abbrev pub rows_inner : Rows → ℕ → List (Option ℕ)
rows_inner rs n = None ∷ rows_ends rs (n + 1)

abbrev pub inner_ends : List (List ℕ) → Rows → ℕ → List (Option ℕ)
inner_ends ks rs n = keys_ends ks n ++ rows_inner rs (n + length (keys_ends ks n))

pub template_events : (ks : List (List ℕ)) (rs : Rows) → events (template ks rs) ≡ told.open_template (length ks) ∷ (template_inner ks rs ++ told.close ∷ [])
template_events ks rs = ap (λ l. told.open_template (length ks) ∷ l) (sym (append_assoc (key_events ks) (told.open_rows (length (rows rs)) ∷ row_events rs) (told.close ∷ [])))

pub inner_adds : (ks : List (List ℕ)) (rs : Rows) → Adds (template_inner ks rs) (inner_ends ks rs)
inner_adds ks rs =
    both_add (key_events ks) (told.open_rows (length (rows rs)) ∷ row_events rs) (keys_ends ks) (rows_inner rs) (keys_add ks)
    (both_add (told.open_rows (length (rows rs)) ∷ []) (row_events rs) (λ n. None ∷ []) (rows_ends rs) (single (told.open_rows (length (rows rs))) (λ m. refl)) (rows_add rs))

pub rows_begin : (i : Item) (len at head body : ℕ) (n : DocumentNode) (left : ℕ) → (i.at + 1 ≤ length i.document.now.nodes.items → at ≡ i.at + 1) → (at + len ≤ length i.document.now.nodes.items → head ≡ at + len) → (head + 1 ≤ length i.document.now.nodes.items → body ≡ head + 1)
    → IsNodeAt i.document.now head n → ((k : ℕ) → n ≡ nodes.Rows k → left ≡ k)
    → (ks : List (List ℕ)) (rs : Rows) (us : trees.Items) → len ≡ length ks → TreeLies i.document.now (template ks rs) i.at → HasWholeRows (template ks rs) → HasTexts i.document.now → normal_items (expand_rows ks rs) ≡ Some us → AreParts i.document.now (Some (record { at = at; len = len })) body left us
rows_begin i len at head body n left first second third is counts ks rs us long h w texts v =
    let d : Document = i.document.now in
    let whole : Lies d i.at (told.open_template (length ks) ∷ (template_inner ks rs ++ told.close ∷ [])) (tree_ends (template ks rs) i.at) = subst (λ l. Lies d i.at l (tree_ends (template ks rs) i.at)) (template_events ks rs) h in
    let within = lies_within d i.at (told.open_template (length ks)) (template_inner ks rs ++ told.close ∷ []) (tree_ends (template ks rs) i.at) whole in
    let inner : Lies d (i.at + 1) (template_inner ks rs) (inner_ends ks rs (i.at + 1)) = inner_lies d i.at (told.open_template (length ks)) (template_inner ks rs) (inner_ends ks rs) (adds_length (template_inner ks rs) (inner_ends ks rs) (inner_adds ks rs) (i.at + 1)) whole in
    let k : ℕ = i.at + 1 in
    let m : ℕ = k + length (keys_ends ks k) in
    let keys_long : length (keys_ends ks k) ≡ length (key_events ks) = adds_length (key_events ks) (keys_ends ks) (keys_add ks) k in
    let keys_lie : KeysLie d ks k = front_lies d k (key_events ks) (told.open_rows (length (rows rs)) ∷ row_events rs) (keys_ends ks k) (rows_inner rs m) inner in
    let rest : Lies d m (told.open_rows (length (rows rs)) ∷ row_events rs) (rows_inner rs m) = rest_lies d k (key_events ks) (told.open_rows (length (rows rs)) ∷ row_events rs) (keys_ends ks k) (rows_inner rs m) keys_long inner in
    let rows_lie : RowsLie d rs (m + 1) = rest_lies d m (told.open_rows (length (rows rs)) ∷ []) (row_events rs) (None ∷ []) (rows_ends rs (m + 1)) refl rest in
    let m_within = lies_within d m (told.open_rows (length (rows rs))) (row_events rs) (rows_inner rs m) rest in
    let to_at : at ≡ k = first (omega (arith, within)) in
    let to_head : head ≡ m = second (omega (arith, to_at, long, keys_long, keys_length ks, m_within)) ∙ omega (arith, to_at, long, keys_long, keys_length ks) in
    let to_body : body ≡ m + 1 = third (omega (arith, to_head, m_within)) ∙ ap (λ x. x + 1) to_head in
    let there : n ≡ nodes.Rows (length (rows rs)) = is_rows d.strings.items n (length (rows rs)) (is.0 (told.open_rows (length (rows rs))) (row_events rs) (rows_inner rs m) (subst (λ x. Lies d x (told.open_rows (length (rows rs)) ∷ row_events rs) (rows_inner rs m)) (sym to_head) rest)) in
    record {
      parts = rows_of ks rs;
      lie = record {
        keys_at = record { at = at; len = len };
        some = refl;
        shows = record { count = long; lie = subst (KeysLie d ks) (sym to_at) keys_lie };
        count = all_rows ks (rows rs) w.0;
        lie = subst (RowsLie d rs) (sym to_body) rows_lie;
      };
      count = counts (length (rows rs)) there;
      value = v;
      whole = w.1;
      texts = texts;
    }

-- ---- how many items

pub counted : (o : Option trees.Items) (s : Items) (n : ℕ) → FindsItems o (Some s) → ((us : trees.Items) → HoldsItems s us → n ≡ length_of us) → Some n ≡ option_map length_of o
counted None s n h count = absurd h
counted (Some us) s n h count = ap Some (count us h)

pub none_counted : (o : Option trees.Items) → FindsItems o None → None ≡ option_map length_of o
none_counted None h = refl
none_counted (Some us) h = absurd h
