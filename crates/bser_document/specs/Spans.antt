-- Where the containers of a value end, whose first node is at this place.
use Rattle.std.specs.Prelude.{◌≡◌, ℕ, ◌+◌, List, [], ◌∷◌, ◌++◌, length, map, drop, Option, Some, None}
use Rattle.bser_format.specs.Tree.{Tree, array, object, template, Items, no_items, item, Entries, no_entries, entry, Rows, no_rows, row, Fields, no_fields, skip, field}
use Rattle.bser_events.specs.Events as told
use Rattle.bser_events.specs.Events.{Event, events, item_events, entry_events, key_events, row_events, field_events}
use Rattle.bser_document.specs.declared.document.Document.{Document}
use Rattle.bser_document.specs.DocumentView.{event_of, end_of}

-- the ends of keys, which are no containers
abbrev pub keys_ends : List (List ℕ) → ℕ → List (Option ℕ)
keys_ends [] n = []
keys_ends (k ∷ ks) n = (None ∷ []) ++ keys_ends ks (n + 1)

-- a container ends behind what is inside and the node that closes it
abbrev pub around : ℕ → List (Option ℕ) → List (Option ℕ)
around n inside = Some (n + length inside + 1) ∷ (inside ++ None ∷ [])

-- the ends of a value, of items, of entries, of rows and of fields
abbrev mutual
  pub tree_ends : Tree → ℕ → List (Option ℕ)
  tree_ends (array ts) n = around (n + 1) (items_ends ts (n + 1))
  tree_ends (object es) n = around (n + 1) (entries_ends es (n + 1))
  tree_ends (template ks rs) n = around (n + 1) (keys_ends ks (n + 1) ++ (None ∷ rows_ends rs (n + 1 + length (keys_ends ks (n + 1)) + 1)))
  tree_ends _ n = None ∷ []

  pub items_ends : Items → ℕ → List (Option ℕ)
  items_ends no_items n = []
  items_ends (item t ts) n = tree_ends t n ++ items_ends ts (n + length (tree_ends t n))

  pub entries_ends : Entries → ℕ → List (Option ℕ)
  entries_ends no_entries n = []
  entries_ends (entry k t es) n = (None ∷ tree_ends t (n + 1)) ++ entries_ends es (n + length (None ∷ tree_ends t (n + 1)))

  pub rows_ends : Rows → ℕ → List (Option ℕ)
  rows_ends no_rows n = []
  rows_ends (row fs rs) n = fields_ends fs n ++ rows_ends rs (n + length (fields_ends fs n))

  pub fields_ends : Fields → ℕ → List (Option ℕ)
  fields_ends no_fields n = []
  fields_ends (skip fs) n = (None ∷ []) ++ fields_ends fs (n + 1)
  fields_ends (field t fs) n = tree_ends t n ++ fields_ends fs (n + length (tree_ends t n))

-- ---- where they lie

-- from this place on a document's nodes mean these events, and have these ends
pub record Lies (d : Document) (at : ℕ) (es : List Event) (xs : List (Option ℕ)) : Type 0 where
  pub after : List Event
  pub here : map (event_of d.strings.items) (drop at d.nodes.items) ≡ es ++ after
  pub behind : List (Option ℕ)
  pub ends : map end_of (drop at d.nodes.items) ≡ xs ++ behind

-- the nodes of a value lie here
abbrev pub TreeLies : Document → Tree → ℕ → Type 0
TreeLies d t n = Lies d n (events t) (tree_ends t n)

-- those of items
abbrev pub ItemsLie : Document → Items → ℕ → Type 0
ItemsLie d ts n = Lies d n (item_events ts) (items_ends ts n)

-- those of entries
abbrev pub EntriesLie : Document → Entries → ℕ → Type 0
EntriesLie d es n = Lies d n (entry_events es) (entries_ends es n)

-- those of keys
abbrev pub KeysLie : Document → List (List ℕ) → ℕ → Type 0
KeysLie d ks n = Lies d n (key_events ks) (keys_ends ks n)

-- those of rows
abbrev pub RowsLie : Document → Rows → ℕ → Type 0
RowsLie d rs n = Lies d n (row_events rs) (rows_ends rs n)

-- those of the fields of a row
abbrev pub FieldsLie : Document → Fields → ℕ → Type 0
FieldsLie d fs n = Lies d n (field_events fs) (fields_ends fs n)

-- those of one field, which is a value or a skip
abbrev pub FieldLies : Document → Option Tree → ℕ → Type 0
FieldLies d None n = Lies d n (told.skip ∷ []) (None ∷ [])
FieldLies d (Some t) n = TreeLies d t n
