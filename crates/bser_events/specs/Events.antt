-- What is reported of a tree, in the order of reading.
use Rattle.std.specs.Prelude.{ℕ, ℤ, Bool, List, [], ◌∷◌, ◌++◌, length, Option, Some, None}
use Rattle.bser_format.specs.Tree as trees
use Rattle.bser_format.specs.Tree.{Tree, Items, Entries, Rows, Fields}

-- a scalar, a string, or the beginning or the end of a container
pub data Event : Type 0 where
  null : Event
  boolean : Bool → Event
  integer : ℤ → Event
  real : ℕ → Event
  bytes : List ℕ → Event
  text : List ℕ → Event
  open_array : ℕ → Event
  open_object : ℕ → Event
  key : List ℕ → Event
  open_template : ℕ → Event
  open_rows : ℕ → Event
  skip : Event
  close : Event

-- an event for each key
abbrev pub key_events : List (List ℕ) → List Event
key_events [] = []
key_events (k ∷ ks) = key k ∷ key_events ks

-- the events of a tree, a template being as it is spelled
abbrev mutual
  pub events : Tree → List Event
  events trees.null = null ∷ []
  events (trees.boolean v) = boolean v ∷ []
  events (trees.integer v) = integer v ∷ []
  events (trees.real r) = real r ∷ []
  events (trees.bytes s) = bytes s ∷ []
  events (trees.text s) = text s ∷ []
  events (trees.array ts) = open_array (length (trees.items ts)) ∷ (item_events ts ++ close ∷ [])
  events (trees.object es) = open_object (length (trees.entries es)) ∷ (entry_events es ++ close ∷ [])
  events (trees.template ks rs) =
      (open_template (length ks) ∷ key_events ks) ++ (open_rows (length (trees.rows rs)) ∷ (row_events rs ++ close ∷ []))

  -- those of an array's items
  pub item_events : Items → List Event
  item_events trees.no_items = []
  item_events (trees.item t ts) = events t ++ item_events ts

  -- those of an object's entries, a key before its value
  pub entry_events : Entries → List Event
  entry_events trees.no_entries = []
  entry_events (trees.entry k t es) = (key k ∷ events t) ++ entry_events es

  -- those of a template's rows
  pub row_events : Rows → List Event
  row_events trees.no_rows = []
  row_events (trees.row fs rs) = field_events fs ++ row_events rs

  -- those of a row's fields
  pub field_events : Fields → List Event
  field_events trees.no_fields = []
  field_events (trees.skip fs) = skip ∷ field_events fs
  field_events (trees.field t fs) = events t ++ field_events fs

-- a skip, or those of a tree
abbrev pub part_events : Option Tree → List Event
part_events None = skip ∷ []
part_events (Some t) = events t

-- one event after the other
pub data TakesAll {B : Type 0} (takes : B → Event → B → Type 0) : B → List Event → B → Type 0 where
  none : (b : B) → TakesAll takes b [] b
  more : (a b c : B) (e : Event) (es : List Event) → takes a e b → TakesAll takes b es c → TakesAll takes a (e ∷ es) c
