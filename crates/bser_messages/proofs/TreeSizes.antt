-- What the events of a tree add up to.
use Rattle.std.proofs.Common.{◌≡◌, ℕ, ◌+◌, ◌*◌, ◌≤◌, min, max, List, [], ◌∷◌, ◌++◌, length, Some, None, refl, sym, ap, subst, ◌∙◌, arith}
use Rattle.std.specs.List.{AllByRecursion}
use Rattle.bser_format.specs.Tree.{Tree, null, boolean, integer, real, bytes, text, array, object, template, Items, no_items, item, Entries, no_entries, entry, Rows, no_rows, row, Fields, no_fields, skip, field, fields, rows}
use Rattle.bser_format.specs.Expand.{expand, expand_items, expand_entries, expand_rows, expand_fields}
use Rattle.bser_format.specs.Measures.{depth, items_depth, entries_depth, nodes, items_nodes, entries_nodes}
use Rattle.bser_format.specs.Grammar.{IsTemplate}
use Rattle.bser_events.specs.Events as told
use Rattle.bser_events.specs.Events.{Event, events, item_events, entry_events, row_events, field_events, key_events}
use Rattle.bser_deserializer.specs.WholeRows.{HasWholeRows, ItemsHaveWholeRows, EntriesHaveWholeRows, RowsHaveWholeRows, FieldsHaveWholeRows}
use Rattle.bser_messages.specs.Sizes.{key_bytes, items_key_bytes, entries_key_bytes}
use Rattle.bser_messages.specs.Tallies.{Tally, opened, opened_template, keyed, keyed_after, with_rows, closed_in}
use Rattle.bser_messages.proofs.Tallies.{tally, tally_append}

-- ---- rows

-- how many bytes these keys have
key_lens : List (List ℕ) → ℕ
key_lens [] = 0
key_lens (k ∷ ks) = length k + key_lens ks

-- the values, the bytes of keys and the levels of a row's fields
abbrev field_values : Fields → ℕ
field_values no_fields = 0
field_values (skip fs) = 1 + field_values fs
field_values (field t fs) = nodes (expand t) + field_values fs

abbrev field_keys : Fields → ℕ
field_keys no_fields = 0
field_keys (skip fs) = field_keys fs
field_keys (field t fs) = key_bytes (expand t) + field_keys fs

abbrev field_depth : Fields → ℕ
field_depth no_fields = 0
field_depth (skip fs) = field_depth fs
field_depth (field t fs) = max (depth (expand t)) (field_depth fs)

-- the same of the fields of all rows
abbrev row_values : Rows → ℕ
row_values no_rows = 0
row_values (row fs rs) = field_values fs + row_values rs

abbrev row_keys : Rows → ℕ
row_keys no_rows = 0
row_keys (row fs rs) = field_keys fs + row_keys rs

abbrev row_depth : Rows → ℕ
row_depth no_rows = 0
row_depth (row fs rs) = max (field_depth fs) (row_depth rs)

field_values_there : (ks : List (List ℕ)) (fs : Fields) → length (fields fs) ≡ length ks → entries_nodes (expand_fields ks fs) ≡ field_values fs
field_values_there [] no_fields e = refl
field_values_there [] (skip fs) e = absurd (omega arith)
field_values_there [] (field t fs) e = absurd (omega arith)
field_values_there (k ∷ ks) no_fields e = absurd (omega arith)
field_values_there (k ∷ ks) (skip fs) e = omega (arith, field_values_there ks fs (omega arith))
field_values_there (k ∷ ks) (field t fs) e = omega (arith, field_values_there ks fs (omega arith))

field_keys_there : (ks : List (List ℕ)) (fs : Fields) → length (fields fs) ≡ length ks → entries_key_bytes (expand_fields ks fs) ≡ key_lens ks + field_keys fs
unfolding key_lens
field_keys_there [] no_fields e = refl
field_keys_there [] (skip fs) e = absurd (omega arith)
field_keys_there [] (field t fs) e = absurd (omega arith)
field_keys_there (k ∷ ks) no_fields e = absurd (omega arith)
field_keys_there (k ∷ ks) (skip fs) e = omega (arith, field_keys_there ks fs (omega arith))
field_keys_there (k ∷ ks) (field t fs) e = omega (arith, field_keys_there ks fs (omega arith))

field_depth_there : (ks : List (List ℕ)) (fs : Fields) → length (fields fs) ≡ length ks → entries_depth (expand_fields ks fs) ≡ field_depth fs
field_depth_there [] no_fields e = refl
field_depth_there [] (skip fs) e = absurd (omega arith)
field_depth_there [] (field t fs) e = absurd (omega arith)
field_depth_there (k ∷ ks) no_fields e = absurd (omega arith)
field_depth_there (k ∷ ks) (skip fs) e = omega (arith, field_depth_there ks fs (omega arith))
field_depth_there (k ∷ ks) (field t fs) e = omega (arith, field_depth_there ks fs (omega arith))

-- each row has a field for each key
abbrev AreEven : List (List ℕ) → Rows → Type 0
AreEven ks rs = AllByRecursion (λ r. length r ≡ length ks) (rows rs)

even_rows : (ks : List (List ℕ)) (rs : Rows) → IsTemplate ks (rows rs) → AreEven ks rs
even_rows [] no_rows h = tt
even_rows [] (row fs rs) h = absurd (let e = h in cc)
even_rows (k ∷ ks) rs h = h

row_values_there : (ks : List (List ℕ)) (rs : Rows) → AreEven ks rs → items_nodes (expand_rows ks rs) ≡ length (rows rs) + row_values rs
row_values_there ks no_rows h = refl
row_values_there ks (row fs rs) h = omega (arith, field_values_there ks fs h.0, row_values_there ks rs h.1)

row_keys_there : (ks : List (List ℕ)) (rs : Rows) → AreEven ks rs → items_key_bytes (expand_rows ks rs) ≡ key_lens ks * length (rows rs) + row_keys rs
row_keys_there ks no_rows h = grind arith
row_keys_there ks (row fs rs) h = let a = field_keys_there ks fs h.0 in let b = row_keys_there ks rs h.1 in grind arith

row_depth_there : (ks : List (List ℕ)) (rs : Rows) → AreEven ks rs → items_depth (expand_rows ks rs) ≡ min (length (rows rs)) 1 + row_depth rs
row_depth_there ks no_rows h = refl
row_depth_there ks (row fs no_rows) h = omega (arith, field_depth_there ks fs h.0)
row_depth_there ks (row fs (row gs rs)) h = omega (arith, field_depth_there ks fs h.0, row_depth_there ks (row gs rs) h.1)

-- ---- tallies

-- the tally has so many values, bytes of keys and levels more than it had
pub record Grown (m n : Tally) (v k d : ℕ) : Type 0 where
  pub values : n.values ≡ m.values + v
  pub keys : n.keys ≡ m.keys + k
  pub template : n.template ≡ None
  pub level : n.level ≡ m.level
  pub depth : n.depth ≡ max m.depth (m.level + d)
  pub around : n.around ≡ m.around

-- no template's keys are being told
pub record Ready (m : Tally) : Type 0 where
  pub template : m.template ≡ None
  pub within : m.level ≤ m.depth

nothing_more : (m : Tally) → Ready m → Grown m m 0 0 0
nothing_more m h = record {
  values = omega arith;
  keys = omega arith;
  template = h.template;
  level = refl;
  depth = omega (arith, h.within);
  around = refl;
}

value_more : (m : Tally) → Ready m → Grown m (record m { values = m.values + 1 }) 1 0 0
value_more m h = record {
  values = refl;
  keys = omega arith;
  template = h.template;
  level = refl;
  depth = omega (arith, h.within);
  around = refl;
}

-- the same numbers, spelled otherwise
as_grown : (m n : Tally) (v k d w l e : ℕ) → Grown m n v k d → v ≡ w → k ≡ l → d ≡ e → Grown m n w l e
as_grown m n v k d w l e g p q r = subst (λ x. Grown m n x l e) p (subst (λ x. Grown m n v x e) q (subst (λ x. Grown m n v k x) r g))

still_ready : (m n : Tally) (v k d : ℕ) → Ready m → Grown m n v k d → Ready n
still_ready m n v k d h g = record { template = g.template; within = omega (arith, h.within, g.level, g.depth) }

grown_twice : (m n o : Tally) (v k d w l e : ℕ) → Grown m n v k d → Grown n o w l e → Grown m o (v + w) (k + l) (max d e)
grown_twice m n o v k d w l e g h = record {
  values = omega (arith, g.values, h.values);
  keys = omega (arith, g.keys, h.keys);
  template = h.template;
  level = h.level ∙ g.level;
  depth = omega (arith, g.level, g.depth, h.depth);
  around = h.around ∙ g.around;
}

-- one list of events after the other
both_grow : (m : Tally) (xs ys : List Event) (v k d w l e : ℕ) → Ready m → Grown m (tally xs m) v k d → ((n : Tally) → Ready n → Grown n (tally ys n) w l e)
    → Grown m (tally (xs ++ ys) m) (v + w) (k + l) (max d e)
both_grow m xs ys v k d w l e r g more =
    let n = tally xs m in
    subst (λ x. Grown m x (v + w) (k + l) (max d e)) (sym (tally_append xs ys m))
    (grown_twice m n (tally ys n) v k d w l e g (more n (still_ready m n v k d r g)))

-- a key of n bytes in front
key_then : (m : Tally) (n : ℕ) (es : List Event) (v k d : ℕ) → Ready m → ((o : Tally) → Ready o → Grown o (tally es o) v k d) → Grown m (tally es (keyed n m)) v (n + k) d
key_then m n es v k d r more =
    let o : Tally = record m { keys = m.keys + n } in
    let g = more o (record { template = r.template; within = r.within }) in
    subst (λ x. Grown m (tally es x) v (n + k) d) (sym (ap (λ t. keyed_after n t m) r.template))
    record {
      values = g.values;
      keys = omega (arith, g.keys);
      template = g.template;
      level = g.level;
      depth = g.depth;
      around = g.around;
    }

-- ---- containers

-- a container was opened, and so many values, bytes of keys and levels were told before what is in
-- it
record Begun (m s : Tally) (v k d : ℕ) : Type 0 where
  values : s.values ≡ m.values + v
  keys : s.keys ≡ m.keys + k
  template : s.template ≡ None
  level : s.level ≡ m.level + d
  depth : s.depth ≡ max m.depth (m.level + d)
  around : s.around ≡ m.level ∷ m.around

begun_ready : (m s : Tally) (v k d : ℕ) → Begun m s v k d → Ready s
begun_ready m s v k d b = record { template = b.template; within = omega (arith, b.level, b.depth) }

then_closed : (m s : Tally) (es : List Event) (v k d w l e : ℕ) → Begun m s v k d → Grown s (tally es s) w l e → Grown m (tally (es ++ told.close ∷ []) s) (v + w) (k + l) (d + e)
then_closed m s es v k d w l e b g =
    let n = tally es s in
    let is : tally (es ++ told.close ∷ []) s ≡ record n { level = m.level; around = m.around } =
    tally_append es (told.close ∷ []) s ∙ ap (λ a. closed_in a n) (g.around ∙ b.around) in
    subst (λ x. Grown m x (v + w) (k + l) (d + e)) (sym is) record {
      values = omega (arith, b.values, g.values);
      keys = omega (arith, b.keys, g.keys);
      template = g.template;
      level = refl;
      depth = omega (arith, b.level, b.depth, g.depth);
      around = refl;
    }

begun_opened : (m : Tally) → Ready m → Begun m (opened m) 1 0 1
begun_opened m r = record {
  values = refl;
  keys = omega arith;
  template = r.template;
  level = refl;
  depth = refl;
  around = refl;
}

-- a template's keys
keys_told : (ks : List (List ℕ)) (m : Tally) (n : ℕ) → m.template ≡ Some n → tally (key_events ks) m ≡ record m { template = Some (n + key_lens ks) }
unfolding key_lens
keys_told [] m n e =
    let same : m.template ≡ Some (n + 0) = e ∙ ap (λ x. Some x) (omega arith) in
    ap (λ t. record m { template = t }) same
keys_told (k ∷ ks) m n e =
    let one : keyed (length k) m ≡ record m { template = Some (n + length k) } = ap (λ t. keyed_after (length k) t m) e in
    ap (tally (key_events ks)) one
    ∙ keys_told ks (record m { template = Some (n + length k) }) (n + length k) refl
    ∙ ap (λ x. record m { template = Some x }) (omega arith)

-- a template up to its rows
begun_rows : (m : Tally) (n k : ℕ) → Begun m (with_rows n (record (opened_template m) { template = Some k })) (1 + n) (k * n) (1 + min n 1)
begun_rows m n k = record {
  values = omega arith;
  keys = refl;
  template = refl;
  level = omega arith;
  depth = omega arith;
  around = refl;
}

-- ---- trees

mutual
  pub tree_grows : (t : Tree) → HasWholeRows t → (m : Tally) → Ready m → Grown m (tally (events t) m) (nodes (expand t)) (key_bytes (expand t)) (depth (expand t))
  tree_grows null h m r = value_more m r
  tree_grows (boolean v) h m r = value_more m r
  tree_grows (integer v) h m r = value_more m r
  tree_grows (real v) h m r = value_more m r
  tree_grows (bytes v) h m r = value_more m r
  tree_grows (text v) h m r = value_more m r
  tree_grows (array ts) h m r =
      let b = begun_opened m r in
      let ready = begun_ready m (opened m) 1 0 1 b in
      as_grown m _ _ _ _ _ _ _ (then_closed m (opened m) (item_events ts) 1 0 1 _ _ _ b (items_grow ts h (opened m) ready)) (omega arith) (omega arith) (omega arith)
  tree_grows (object es) h m r =
      let b = begun_opened m r in
      let ready = begun_ready m (opened m) 1 0 1 b in
      as_grown m _ _ _ _ _ _ _ (then_closed m (opened m) (entry_events es) 1 0 1 _ _ _ b (entries_grow es h (opened m) ready)) (omega arith) (omega arith) (omega arith)
  tree_grows (template ks rs) h m r =
      let n = length (rows rs) in
      let k = key_lens ks in
      let s = with_rows n (record (opened_template m) { template = Some k }) in
      let b = begun_rows m n k in
      let ready = begun_ready m s (1 + n) (k * n) (1 + min n 1) b in
      let even = even_rows ks rs h.0 in
      let is : tally (events (template ks rs)) m ≡ tally (row_events rs ++ told.close ∷ []) s =
      tally_append (key_events ks) (told.open_rows n ∷ (row_events rs ++ told.close ∷ [])) (opened_template m)
      ∙ ap (tally (told.open_rows n ∷ (row_events rs ++ told.close ∷ []))) (keys_told ks (opened_template m) 0 refl)
      ∙ ap (λ x. tally (row_events rs ++ told.close ∷ []) (with_rows n (record (opened_template m) { template = Some x }))) (omega arith) in
      subst (λ x. Grown m x (nodes (expand (template ks rs))) (key_bytes (expand (template ks rs))) (depth (expand (template ks rs)))) (sym is)
      (as_grown m _ _ _ _ _ _ _ (then_closed m s (row_events rs) (1 + n) (k * n) (1 + min n 1) _ _ _ b (rows_grow rs h.1 s ready))
      (omega (arith, row_values_there ks rs even)) (sym (row_keys_there ks rs even)) (omega (arith, row_depth_there ks rs even)))

  items_grow : (ts : Items) → ItemsHaveWholeRows ts → (m : Tally) → Ready m → Grown m (tally (item_events ts) m) (items_nodes (expand_items ts)) (items_key_bytes (expand_items ts)) (items_depth (expand_items ts))
  items_grow no_items h m r = nothing_more m r
  items_grow (item t ts) h m r = both_grow m (events t) (item_events ts) _ _ _ _ _ _ r (tree_grows t h.0 m r) (items_grow ts h.1)

  entries_grow : (es : Entries) → EntriesHaveWholeRows es → (m : Tally) → Ready m → Grown m (tally (entry_events es) m) (entries_nodes (expand_entries es)) (entries_key_bytes (expand_entries es)) (entries_depth (expand_entries es))
  entries_grow no_entries h m r = nothing_more m r
  entries_grow (entry k t es) h m r = both_grow m (told.key k ∷ events t) (entry_events es) _ _ _ _ _ _ r (key_then m (length k) (events t) _ _ _ r (tree_grows t h.0)) (entries_grow es h.1)

  rows_grow : (rs : Rows) → RowsHaveWholeRows rs → (m : Tally) → Ready m → Grown m (tally (row_events rs) m) (row_values rs) (row_keys rs) (row_depth rs)
  rows_grow no_rows h m r = nothing_more m r
  rows_grow (row fs rs) h m r = both_grow m (field_events fs) (row_events rs) _ _ _ _ _ _ r (fields_grow fs h.0 m r) (rows_grow rs h.1)

  fields_grow : (fs : Fields) → FieldsHaveWholeRows fs → (m : Tally) → Ready m → Grown m (tally (field_events fs) m) (field_values fs) (field_keys fs) (field_depth fs)
  fields_grow no_fields h m r = nothing_more m r
  fields_grow (skip fs) h m r =
      as_grown m _ _ _ _ _ _ _ (both_grow m (told.skip ∷ []) (field_events fs) 1 0 0 _ _ _ r (value_more m r) (fields_grow fs h)) refl (omega arith) (omega arith)
  fields_grow (field t fs) h m r = both_grow m (events t) (field_events fs) _ _ _ _ _ _ r (tree_grows t h.0 m r) (fields_grow fs h.1)
