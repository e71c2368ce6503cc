-- A value is no deeper than a document has nodes.
use Rattle.std.proofs.Common.{◌≡◌, ℕ, suc, ◌+◌, ◌≤◌, List, [], ◌∷◌, ◌++◌, length, drop, Some, ap, arith}
use Rattle.std.proofs.lemmas.List.{length-append, length-map, length-drop}
use Rattle.std.proofs.lemmas.Option.{same_Some}
use Rattle.bser_format.specs.Tree.{Tree, null, boolean, integer, real, bytes, text, array, object, template, Items, no_items, item, Entries, no_entries, entry, Rows, no_rows, row, Fields, no_fields, skip, field}
use Rattle.bser_format.specs.Tree as trees
use Rattle.bser_format.specs.Expand.{expand, expand_items, expand_entries, expand_rows, expand_fields}
use Rattle.bser_format.specs.Measures.{depth, items_depth, entries_depth}
use Rattle.bser_format.specs.Normal.{normal}
use Rattle.bser_format.proofs.Values.{normal_within}
use Rattle.bser_events.specs.Events as told
use Rattle.bser_events.specs.Events.{Event, events, item_events, entry_events, key_events, row_events, field_events}
use Rattle.bser_document.specs.declared.document.Document.{Document}
use Rattle.bser_document.specs.declared.item.Item.{Item}
use Rattle.bser_document.specs.DocumentView.{event_of}
use Rattle.bser_document.specs.Spans.{Lies}
use Rattle.bser_document.specs.Holds.{Part, tree, skipped, row_of, PartLies, HoldsItem, part_value}

-- each level of a value that is written out has an event
mutual
  pub events_deep : (t : Tree) → depth (expand t) ≤ length (events t)
  events_deep null = omega arith
  events_deep (boolean v) = omega arith
  events_deep (integer v) = omega arith
  events_deep (real v) = omega arith
  events_deep (bytes s) = omega arith
  events_deep (text s) = omega arith
  events_deep (array ts) = omega (arith, items_deep ts, length-append (item_events ts) (told.close ∷ []))
  events_deep (object es) = omega (arith, entries_deep es, length-append (entry_events es) (told.close ∷ []))
  events_deep (template ks rs) =
      omega (arith, rows_deep ks rs, length-append (row_events rs) (told.close ∷ []), length-append (told.open_template (length ks) ∷ key_events ks) (told.open_rows (length (trees.rows rs)) ∷ (row_events rs ++ told.close ∷ [])))

  items_deep : (ts : Items) → items_depth (expand_items ts) ≤ length (item_events ts)
  items_deep no_items = omega arith
  items_deep (item t ts) = omega (arith, events_deep t, items_deep ts, length-append (events t) (item_events ts))

  entries_deep : (es : Entries) → entries_depth (expand_entries es) ≤ length (entry_events es)
  entries_deep no_entries = omega arith
  entries_deep (entry k t es) = omega (arith, events_deep t, entries_deep es, length-append (told.key k ∷ events t) (entry_events es))

  rows_deep : (ks : List (List ℕ)) (rs : Rows) → items_depth (expand_rows ks rs) ≤ suc (length (row_events rs))
  rows_deep ks no_rows = omega arith
  rows_deep ks (row fs rs) = omega (arith, fields_deep ks fs, rows_deep ks rs, length-append (field_events fs) (row_events rs))

  fields_deep : (ks : List (List ℕ)) (fs : Fields) → entries_depth (expand_fields ks fs) ≤ length (field_events fs)
  fields_deep [] fs = omega arith
  fields_deep (k ∷ ks) no_fields = omega arith
  fields_deep (k ∷ ks) (skip fs) = omega (arith, fields_deep ks fs)
  fields_deep (k ∷ ks) (field t fs) = omega (arith, events_deep t, fields_deep ks fs, length-append (events t) (field_events fs))

-- what is read is no deeper than what is told
pub read_deep : (t u : Tree) → normal (expand t) ≡ Some u → depth u ≤ length (events t)
read_deep t u e = let within = normal_within (expand t) u e in omega (arith, within.1, events_deep t)

-- the events of what lies in a document are no more than its nodes
pub lies_long : (d : Document) (at : ℕ) (es : List Event) (xs : _) → Lies d at es xs → length es ≤ length d.nodes.items
lies_long d at es xs h =
    let rest = drop at d.nodes.items in
    omega (arith, ap length h.here, length-map rest (event_of d.strings.items), length-drop at d.nodes.items, length-append es h.after)

-- a value is no deeper than its document has nodes, and the object of a row one level more
pub item_deep : (i : Item) (u : Tree) → HoldsItem i u → depth u ≤ length i.document.now.nodes.items + 1
item_deep i u h = of_part h.part h.lies h.value
  where
    d : Document
    d = i.document.now

    of_part : (p : Part) → PartLies d i.keys i.at p → part_value p ≡ Some u → depth u ≤ length d.nodes.items + 1
    of_part (tree t) l v = omega (arith, read_deep t u v, lies_long d i.at (events t) _ l.1)
    of_part skipped l v = let e = ap depth (same_Some null u v) in omega (arith, e)
    of_part (row_of ks fs) l v =
        let within = normal_within (object (expand_fields ks fs)) u v in
        omega (arith, within.1, fields_deep ks fs, lies_long d i.at (field_events fs) _ l.lie)
