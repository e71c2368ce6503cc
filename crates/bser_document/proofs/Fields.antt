-- The rows of a template, and their fields.
use Rattle.std.proofs.Common.{◌≡◌, ◌≤◌, ◌<◌, ◌+◌, ◌-◌, ℕ, zero, suc, Bool, true, false, cond, List, [], ◌∷◌, ◌++◌, length, map, drop, get_or, Option, Some, None, option_map, option_and_then, refl, sym, ap, subst, ◌∙◌, arith}
use Rattle.std.specs.List.{AllByRecursion}
use Rattle.std.proofs.lemmas.Option.{same_Some}
use Rattle.std.proofs.lemmas.List.{length-append, length-map, append_assoc, drop_all}
use Rattle.bser_format.specs.Tree.{Tree, null, array, object, template, no_items, item, items, entries_of, Fields, no_fields, skip, field, fields, no_rows, row, rows}
use Rattle.bser_format.specs.Tree as trees
use Rattle.bser_format.specs.Expand.{expand, expand_fields, expand_rows}
use Rattle.bser_format.specs.Normal.{normal, normal_entries, normal_items, last_entries}
use Rattle.bser_format.specs.SameTree.{same_bytes}
use Rattle.bser_format.proofs.Least.{map_some, then_some}
use Rattle.bser_deserializer.specs.WholeRows.{HasWholeRows, FieldsHaveWholeRows, RowsHaveWholeRows}
use Rattle.bser_events.specs.Events as told
use Rattle.bser_events.specs.Events.{Event, events, key_events, row_events, field_events}
use Rattle.bser_document.specs.declared.document.Document.{Document}
use Rattle.bser_document.specs.declared.document.DocumentNode.{DocumentNode}
use Rattle.bser_document.specs.declared.document.DocumentNode.TheVariants as nodes
use Rattle.bser_document.specs.declared.item.Item.{Item}
use Rattle.bser_document.specs.declared.item.Keys.{Keys}
use Rattle.bser_document.specs.declared.items.Items.{Items}
use Rattle.bser_document.specs.declared.rows.Rows.{Rows}
use Rattle.bser_document.specs.declared.rows.Row.{Row}
use Rattle.bser_document.specs.DocumentView.{event_of}
use Rattle.bser_document.specs.Spans.{tree_ends, keys_ends, rows_ends, fields_ends, Lies, TreeLies, KeysLie, RowsLie, FieldsLie, FieldLies}
use Rattle.bser_document.specs.Holds.{ShowsKeys, Part, tree, skipped, row_of, PartLies, PartIsWhole, part_value, part_event, HoldsItem, IsPartNode}
use Rattle.bser_document.specs.Walks.{Parts, items_of, rows_of, parts_value, parts_count, PartsLie, PartsAreWhole, HoldsItems, RowsBegin}
use Rattle.bser_document.specs.Pairs.{FindsItem, IsKeyAt, last_from}
use Rattle.bser_document.specs.Rows.{Pair, row_objects, rows_value, HoldsRow, HoldsRows, ReadsRows, GivesRow, field_there, place_from, place_of, LeadsTo}
use Rattle.bser_document.proofs.Ends.{fields_add}
use Rattle.bser_document.proofs.Lies.{adds_length, front_lies, rest_lies, lies_within}
use Rattle.bser_document.proofs.Walks.{is_template, skip_lies, field_lies}
use Rattle.bser_document.proofs.Looks.{next_read, object_found}

-- ---- the rows of a template

-- rows that are read are the objects of what they hold
rows_read : {P : Type 0} (ks : List (List ℕ)) (rs : trees.Rows) (us : trees.Items) → normal_items (expand_rows ks rs) ≡ Some us → ((ms : List (List Pair)) → rows_value ks rs ≡ Some ms → row_objects ms ≡ us → P) → P
rows_read ks no_rows us e k = k [] refl (same_Some no_items us e)
rows_read ks (row fs rs) us e k =
    then_some (λ u. option_map (item u) (normal_items (expand_rows ks rs))) (normal (object (expand_fields ks fs))) us e λ u first f.
    map_some (item u) (normal_items (expand_rows ks rs)) us f λ vs rest same.
    map_some (λ m. object (entries_of (last_entries m))) (normal_entries (expand_fields ks fs)) u first λ m made is.
    rows_read ks rs vs rest λ ms later those.
    k (m ∷ ms) (ap (option_and_then (λ m. option_map (λ ms. m ∷ ms) (rows_value ks rs))) made ∙ ap (option_map (λ ms. m ∷ ms)) later) (ap (λ u. item u (row_objects ms)) is ∙ ap (item u) those ∙ same)

pub rows_found : (i : Item) (n : DocumentNode) (len end : ℕ) (s : Items) (k : Keys) → n ≡ nodes.Template len end → IsPartNode i n → RowsBegin i len s → s.keys ≡ Some k → (u : Tree) → HoldsItem i u
    → ReadsRows (record { document = s.document; at = s.at; left = s.left; keys = k }) u
rows_found i n len end s k is first begin some u h = of_part h.part h.lies h.value h.whole
  where
    made : Rows
    made = record { document = s.document; at = s.at; left = s.left; keys = k }

    begins : (p : Part) → PartLies i.document.now i.keys i.at p → told.open_template len ≡ part_event p
    begins p l = ap (event_of i.document.now.strings.items) (sym is) ∙ first p l

    of_parts : (us : trees.Items) → u ≡ array us → (p : Parts) → PartsLie s.document.now s.keys s.at p → s.left ≡ parts_count p → parts_value p ≡ Some us → PartsAreWhole p → HoldsItems s us → ReadsRows made u
    of_parts us same (items_of ts) l count v w held = let e : None ≡ Some k = sym l.0 ∙ some in absurd cc
    of_parts us same (rows_of ks rs) l count v w held =
        let e : l.keys_at ≡ k = same_Some l.keys_at k (sym l.some ∙ some) in
        rows_read ks rs us v λ ms value those. record {
          keys = ks;
          pairs = ms;
          same = same ∙ ap array (sym those);
          holds = record { spelled = rs; shows = subst (λ k. ShowsKeys s.document.now k ks) e l.shows; full = l.count; lie = l.lie; count = count; value = value; whole = w; texts = held.texts };
        }

    of_part : (p : Part) → PartLies i.document.now i.keys i.at p → part_value p ≡ Some u → PartIsWhole p → ReadsRows made u
    of_part (tree t) l v w =
        let a = is_template t len (begins (tree t) l) in
        let here : TreeLies i.document.now (template a.0 a.1) i.at = subst (λ t. TreeLies i.document.now t i.at) a.2 l.1 in
        let whole : HasWholeRows (template a.0 a.1) = subst HasWholeRows a.2 w in
        map_some array (normal_items (expand_rows a.0 a.1)) u (ap (λ t. normal (expand t)) (sym a.2) ∙ v) λ us read same.
        let held : HoldsItems s us = begin a.0 a.1 us a.3 here whole h.texts read in
        of_parts us (sym same) held.parts held.lie held.count held.value held.whole held
    of_part skipped l v w = let e = begins skipped l in absurd cc
    of_part (row_of ks fs) l v w = let e = begins (row_of ks fs) l in absurd cc

-- ---- the next row

pub rows_left : (s : Rows) (ks : List (List ℕ)) (ms : List (List Pair)) → HoldsRows s ks ms → s.left ≡ length ms
rows_left s ks ms h = h.count ∙ of_rows h.spelled ms h.value
  where
    of_rows : (rs : trees.Rows) (ms : List (List Pair)) → rows_value ks rs ≡ Some ms → length (rows rs) ≡ length ms
    of_rows no_rows ms e = ap length (same_Some [] ms e)
    of_rows (row fs rs) ms e =
        then_some (λ m. option_map (λ ms. m ∷ ms) (rows_value ks rs)) (normal_entries (expand_fields ks fs)) ms e λ m first f. map_some (λ ms. m ∷ ms) (rows_value ks rs) ms f λ later rest same.
        ap suc (of_rows rs later rest) ∙ ap length same

pub next_row : (s : Rows) (at left : ℕ) → left ≡ s.left - 1 → (s.left ≡ 0 → ⊥) → ((fs : Fields) → FieldsLie s.document.now fs s.at → length (fields fs) ≡ s.keys.len → at ≡ s.at + length (fields_ends fs s.at)) → (ks : List (List ℕ)) (ms : List (List Pair)) → HoldsRows s ks ms
    → GivesRow ks ms (Some (record { document = s.document; at = s.at; len = s.keys.len })) (record { document = s.document; at = at; left = left; keys = s.keys })
next_row s at left less some step ks ms h = of_rows h.spelled h.full h.lie h.count h.value h.whole
  where
    d : Document
    d = s.document.now

    of_rows : (rs : trees.Rows) → AllByRecursion (λ r. length r ≡ length ks) (rows rs) → RowsLie d rs s.at → s.left ≡ length (rows rs) → rows_value ks rs ≡ Some ms → RowsHaveWholeRows rs → GivesRow ks ms (Some (record { document = s.document; at = s.at; len = s.keys.len })) (record { document = s.document; at = at; left = left; keys = s.keys })
    of_rows no_rows full lie count v w = absurd (some count)
    of_rows (row fs rs) full lie count v w =
        let n : ℕ = s.at + length (fields_ends fs s.at) in
        let here : FieldsLie d fs s.at = front_lies d s.at (field_events fs) (row_events rs) (fields_ends fs s.at) (rows_ends rs n) lie in
        let rest : RowsLie d rs n = rest_lies d s.at (field_events fs) (row_events rs) (fields_ends fs s.at) (rows_ends rs n) (adds_length (field_events fs) (fields_ends fs) (fields_add fs) s.at) lie in
        let to : at ≡ n = step fs here (full.0 ∙ sym h.shows.count) in
        then_some (λ m. option_map (λ ms. m ∷ ms) (rows_value ks rs)) (normal_entries (expand_fields ks fs)) ms v λ m first f. map_some (λ ms. m ∷ ms) (rows_value ks rs) ms f λ later rest' same.
        subst (λ ms. GivesRow ks ms (Some (record { document = s.document; at = s.at; len = s.keys.len })) (record { document = s.document; at = at; left = left; keys = s.keys })) same (
          record { spelled = fs; long = h.shows.count; count = full.0; lie = here; value = first; whole = w.0; texts = h.texts },
          record { spelled = rs; shows = h.shows; full = full.1; lie = subst (RowsLie d rs) (sym to) rest; count = omega (arith, less, count); value = rest'; whole = w.1; texts = h.texts },
        )

-- ---- a field

-- so many fields from the first on
abbrev first_fields : ℕ → Fields → Fields
first_fields zero fs = no_fields
first_fields (suc n) no_fields = no_fields
first_fields (suc n) (skip fs) = skip (first_fields n fs)
first_fields (suc n) (field t fs) = field t (first_fields n fs)

first_count : (n : ℕ) (fs : Fields) → n ≤ length (fields fs) → length (fields (first_fields n fs)) ≡ n
first_count zero fs less = refl
first_count (suc n) no_fields less = absurd (omega (arith, less))
first_count (suc n) (skip fs) less = ap suc (first_count n fs (omega (arith, less)))
first_count (suc n) (field t fs) less = ap suc (first_count n fs (omega (arith, less)))

first_events : (n : ℕ) (fs : Fields) → (es : List Event) × (field_events fs ≡ field_events (first_fields n fs) ++ es)
first_events zero fs = (field_events fs, refl)
first_events (suc n) no_fields = ([], refl)
first_events (suc n) (skip fs) = let r = first_events n fs in (r.0, ap (λ l. told.skip ∷ l) r.1)
first_events (suc n) (field t fs) =
    let r = first_events n fs in
    (r.0, ap (λ l. events t ++ l) r.1 ∙ sym (append_assoc (events t) (field_events (first_fields n fs)) r.0))

first_ends : (n : ℕ) (fs : Fields) (at : ℕ) → (xs : List (Option ℕ)) × (fields_ends fs at ≡ fields_ends (first_fields n fs) at ++ xs)
first_ends zero fs at = (fields_ends fs at, refl)
first_ends (suc n) no_fields at = ([], refl)
first_ends (suc n) (skip fs) at = let r = first_ends n fs (at + 1) in (r.0, ap (λ l. None ∷ l) r.1)
first_ends (suc n) (field t fs) at =
    let to : ℕ = at + length (tree_ends t at) in
    let r = first_ends n fs to in
    (r.0, ap (λ l. tree_ends t at ++ l) r.1 ∙ sym (append_assoc (tree_ends t at) (fields_ends (first_fields n fs) to) r.0))

first_fields_lie : (d : Document) (n : ℕ) (fs : Fields) (at : ℕ) → FieldsLie d fs at → FieldsLie d (first_fields n fs) at
first_fields_lie d n fs at h =
    let e = first_events n fs in
    let x = first_ends n fs at in
    front_lies d at (field_events (first_fields n fs)) e.0 (fields_ends (first_fields n fs) at) x.0
    (subst (Lies d at (field_events (first_fields n fs) ++ e.0)) x.1 (subst (λ l. Lies d at l (fields_ends fs at)) e.1 h))

pub field_found : (r : Row) (place at : ℕ) (keyed : ∥ Unit {0} ∥₁) → place < r.len → ((fs : Fields) → FieldsLie r.document.now fs r.at → length (fields fs) ≡ place → at ≡ r.at + length (fields_ends fs r.at)) → (ks : List (List ℕ)) (m : List Pair) → HoldsRow r ks m
    → FindsItem (field_there place m) (Some (record { document = r.document; at = at; keys = None; row = keyed }))
field_found r place at keyed less step ks m h =
    walk place r.at ks h.spelled m (omega (arith, less, long)) h.count h.lie h.value h.whole at
    (step (first_fields place h.spelled) (first_fields_lie d place h.spelled r.at h.lie) (first_count place h.spelled (omega (arith, less, long, count))))
  where
    d : Document
    d = r.document.now

    long : r.len ≡ length ks
    long = h.long

    count : length (fields h.spelled) ≡ length ks
    count = h.count

    walk : (n from : ℕ) (ks : List (List ℕ)) (fs : Fields) (m : List Pair) → n < length ks → length (fields fs) ≡ length ks → FieldsLie d fs from → normal_entries (expand_fields ks fs) ≡ Some m → FieldsHaveWholeRows fs → (to : ℕ) → to ≡ from + length (fields_ends (first_fields n fs) from)
        → FindsItem (field_there n m) (Some (record { document = r.document; at = to; keys = None; row = keyed }))
    walk n from [] fs m less count lie v w to is = absurd (omega (arith, less))
    walk n from (k ∷ ks) no_fields m less count lie v w to is = absurd (omega (arith, count))
    walk zero from (k ∷ ks) (skip fs) m less count lie v w to is =
        let here : to ≡ from = omega (arith, is) in
        next_read k (Some null) (normal_entries (expand_fields ks fs)) m v λ u l first later same.
        subst (λ m. FindsItem (field_there 0 m) (Some (record { document = r.document; at = to; keys = None; row = keyed }))) same
        (record { part = skipped; lies = (refl, subst (FieldLies d None) (sym here) (skip_lies d from fs lie).0); value = first; whole = tt; texts = h.texts })
    walk zero from (k ∷ ks) (field t fs) m less count lie v w to is =
        let here : to ≡ from = omega (arith, is) in
        next_read k (normal (expand t)) (normal_entries (expand_fields ks fs)) m v λ u l first later same.
        subst (λ m. FindsItem (field_there 0 m) (Some (record { document = r.document; at = to; keys = None; row = keyed }))) same
        (record { part = tree t; lies = (refl, subst (TreeLies d t) (sym here) (field_lies d from t fs lie).0); value = first; whole = w.0; texts = h.texts })
    walk (suc n) from (k ∷ ks) (skip fs) m less count lie v w to is =
        next_read k (Some null) (normal_entries (expand_fields ks fs)) m v λ u l first later same.
        subst (λ m. FindsItem (field_there (suc n) m) (Some (record { document = r.document; at = to; keys = None; row = keyed }))) same
        (walk n (from + 1) ks fs l (omega (arith, less)) (omega (arith, count)) (skip_lies d from fs lie).1 later w to (omega (arith, is)))
    walk (suc n) from (k ∷ ks) (field t fs) m less count lie v w to is =
        let next : ℕ = from + length (tree_ends t from) in
        next_read k (normal (expand t)) (normal_entries (expand_fields ks fs)) m v λ u l first later same.
        subst (λ m. FindsItem (field_there (suc n) m) (Some (record { document = r.document; at = to; keys = None; row = keyed }))) same
        (walk n next ks fs l (omega (arith, less)) (omega (arith, count)) (field_lies d from t fs lie).1 later w.1 to (omega (arith, is, length-append (tree_ends t from) (fields_ends (first_fields n fs) next))))

-- the keys of a row are those of its template
pub row_keys : (ks : List (List ℕ)) (fs : Fields) (m : List Pair) → length (fields fs) ≡ length ks → normal_entries (expand_fields ks fs) ≡ Some m → map (λ p. p.0) m ≡ ks
row_keys [] fs m full e = ap (map (λ p. p.0)) (sym (same_Some [] m e))
row_keys (k ∷ ks) no_fields m full e = absurd (omega (arith, full))
row_keys (k ∷ ks) (skip fs) m full e = next_read k (Some null) (normal_entries (expand_fields ks fs)) m e λ u l first later same. ap (map (λ p. p.0)) (sym same) ∙ ap (λ l. k ∷ l) (row_keys ks fs l (omega (arith, full)) later)
row_keys (k ∷ ks) (field t fs) m full e = next_read k (normal (expand t)) (normal_entries (expand_fields ks fs)) m e λ u l first later same. ap (map (λ p. p.0)) (sym same) ∙ ap (λ l. k ∷ l) (row_keys ks fs l (omega (arith, full)) later)

pub no_field : (r : Row) (place : ℕ) → r.len ≤ place → (ks : List (List ℕ)) (m : List Pair) → HoldsRow r ks m → FindsItem (field_there place m) None
no_field r place past ks m h =
    let long = h.long in
    beyond place m (omega (arith, past, long, ap length (row_keys ks h.spelled m h.count h.value), length-map m (λ p. p.0)))
  where
    beyond : (n : ℕ) (m : List Pair) → length m ≤ n → FindsItem (field_there n m) None
    beyond n [] less = tt
    beyond zero (p ∷ m) less = absurd (omega (arith, less))
    beyond (suc n) (p ∷ m) less = beyond n m (omega (arith, less))

-- ---- the place of a key

pub key_lies : (d : Document) (ks : List (List ℕ)) (at n : ℕ) → KeysLie d ks at → n < length ks → (k : List ℕ) × (b : List Event) × (xs : List (Option ℕ)) × Lies d (at + n) (told.key k ∷ b) xs × (drop n ks ≡ k ∷ drop (suc n) ks)
key_lies d [] at n h less = absurd (omega (arith, less))
key_lies d (k ∷ ks) at zero h less =
    let here : at ≡ at + 0 = omega arith in
    (k, key_events ks, None ∷ keys_ends ks (at + 1), subst (λ n. Lies d n (told.key k ∷ key_events ks) (None ∷ keys_ends ks (at + 1))) here h, refl)
key_lies d (k ∷ ks) at (suc n) h less =
    let r = key_lies d ks (at + 1) n (rest_lies d at (told.key k ∷ []) (key_events ks) (None ∷ []) (keys_ends ks (at + 1)) refl h) (omega (arith, less)) in
    let to : at + 1 + n ≡ at + suc n = omega arith in
    (r.0, r.1, r.2, subst (λ n. Lies d n (told.key r.0 ∷ r.1) r.2) to r.3, r.4)

pub one_placed : (s : Rows) (key : List ℕ) (found : Option ℕ) (n at : ℕ) (here : List ℕ) → n < s.keys.len → (s.keys.at + n ≤ length s.document.now.nodes.items → at ≡ s.keys.at + n) → IsKeyAt s.document.now at here → (ks : List (List ℕ)) (ms : List (List Pair)) → HoldsRows s ks ms
    → place_from found n key (drop n ks) ≡ place_of key ks → place_from (cond (same_bytes key here) (Some n) found) (n + 1) key (drop (n + 1) ks) ≡ place_of key ks
one_placed s key found n at here less place is ks ms h before =
    let d : Document = s.document.now in
    let count = h.shows.count in
    let r = key_lies d ks s.keys.at n h.shows.lie (omega (arith, less, count)) in
    let within = lies_within d (s.keys.at + n) (told.key r.0) r.1 r.2 r.3 in
    let to : at ≡ s.keys.at + n = place (omega (arith, within)) in
    let same : here ≡ r.0 = is h.texts r.0 r.1 r.2 (subst (λ n. Lies d n (told.key r.0 ∷ r.1) r.2) (sym to) r.3) in
    let next : n + 1 ≡ suc n = omega arith in
    ap (λ k. place_from (cond (same_bytes key k) (Some n) found) (n + 1) key (drop (n + 1) ks)) same
    ∙ ap (λ m. place_from (cond (same_bytes key r.0) (Some n) found) (n + 1) key (drop m ks)) next ∙ sym (ap (place_from found n key) r.4) ∙ before

pub all_placed : (s : Rows) (key : List ℕ) (found : Option ℕ) (n : ℕ) → s.keys.len ≤ n → (ks : List (List ℕ)) (ms : List (List Pair)) → HoldsRows s ks ms → place_from found n key (drop n ks) ≡ place_of key ks → found ≡ place_of key ks
all_placed s key found n past ks ms h before =
    let count = h.shows.count in
    sym (ap (place_from found n key) (drop_all n ks (omega (arith, past, count)))) ∙ before

-- ---- the field at the place of a key

there_of : (n : ℕ) (w : List Pair) (p : Pair) (b : List Pair) → drop n w ≡ p ∷ b → (field_there n w ≡ Some p.1) × (drop (suc n) w ≡ b)
there_of zero [] p b e = absurd cc
there_of (suc n) [] p b e = absurd cc
there_of zero (q ∷ w) p b e = (ap (λ l. Some (get_or l 0 p).1) e, ap (drop 1) e)
there_of (suc n) (q ∷ w) p b e = there_of n w p b e

led : (key : List ℕ) (w b : List Pair) (n : ℕ) (f : Option Tree) (g : Option ℕ) → drop n w ≡ b → f ≡ option_and_then (λ n. field_there n w) g → last_from f key b ≡ option_and_then (λ n. field_there n w) (place_from g n key (map (λ p. p.0) b))
led key w [] n f g e same = same
led key w (p ∷ b) n f g e same =
    let r = there_of n w p b e in
    let next : n + 1 ≡ suc n = omega arith in
    led key w b (n + 1) (cond (same_bytes key p.0) (Some p.1) f) (cond (same_bytes key p.0) (Some n) g) (ap (λ m. drop m w) next ∙ r.1) (of_test (same_bytes key p.0) r.0)
  where
    of_test : (t : Bool) → field_there n w ≡ Some p.1 → cond t (Some p.1) f ≡ option_and_then (λ n. field_there n w) (cond t (Some n) g)
    of_test true there = sym there
    of_test false there = same

pub place_leads : (key : List ℕ) (ks : List (List ℕ)) (o : Option ℕ) → o ≡ place_of key ks → LeadsTo key ks o
place_leads key ks o is r m h =
    object_found key m ∙ led key m m 0 None None refl refl ∙ ap (λ l. option_and_then (λ n. field_there n m) (place_of key l)) (row_keys ks h.spelled m h.count h.value) ∙ ap (option_and_then (λ n. field_there n m)) (sym is)
