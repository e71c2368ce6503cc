-- What an item holds.
use Rattle.std.specs.Prelude.{◌≡◌, ◌≤◌, ◌⊎◌, ℕ, ◌+◌, Bool, true, false, List, [], ◌∷◌, length, Option, Some, None}
use Rattle.bser_format.specs.Tree.{Tree, null, boolean, integer, real, bytes, text, array, object, template, no_items, items, no_entries, entries}
use Rattle.bser_events.specs.Events as told
use Rattle.bser_events.specs.Events.{Event}
use Rattle.bser_document.specs.declared.document.Document.{Document}
use Rattle.bser_document.specs.declared.document.DocumentNode.{DocumentNode}
use Rattle.bser_document.specs.declared.document.DocumentNode.TheVariants as nodes
use Rattle.bser_document.specs.declared.item.Item.{Item}
use Rattle.bser_document.specs.declared.item.ItemKind.{ItemKind}
use Rattle.bser_document.specs.declared.item.ItemKind.TheVariants as kinds
use Rattle.bser_document.specs.DocumentView.{Within, event_of}
pub use Rattle.bser_document.specs.Parts.{Part, tree, skipped, row_of, part_value, PartIsWhole, ShowsKeys, RowLies, PartLies, HasTexts, IsPart, part_read}
use Rattle.bser_document.specs.Spans.{Lies, tree_ends, fields_ends}

-- an item is this value, as it is read
abbrev pub HoldsItem : Item → Tree → Type 0
HoldsItem i u = IsPart i.document.now i.keys i.at u

-- ---- kinds

-- of which kind a value is
abbrev pub kind_of : Tree → ItemKind
kind_of null = kinds.Null
kind_of (boolean v) = kinds.Bool
kind_of (integer v) = kinds.Integer
kind_of (real v) = kinds.Real
kind_of (bytes s) = kinds.Bytes
kind_of (text s) = kinds.Text
kind_of (array ts) = kinds.Array
kind_of (object es) = kinds.Object
kind_of (template ks rs) = kinds.Array

-- whether a value is null
abbrev pub is_null : Tree → Bool
is_null null = true
is_null _ = false

-- the bits of a real
abbrev pub as_real_bits : Tree → Option ℕ
as_real_bits (real bits) = Some bits
as_real_bits _ = None

-- ---- nodes

-- the node at this place means the first of these events
abbrev pub TellsFirst : Document → ℕ → DocumentNode → Type 0
TellsFirst d at n = (e : Event) (es : List Event) (ends : List (Option ℕ)) → Lies d at (e ∷ es) ends → event_of d.strings.items n ≡ e

-- the node at this place, or null behind the last
abbrev pub IsNodeAt : Document → ℕ → DocumentNode → Type 0
IsNodeAt d at n = TellsFirst d at n × (HasTexts d → Within d.strings.items n) × (length d.nodes.items ≤ at → n ≡ nodes.Null)

-- the node of an item that is no row is the one at its place
abbrev pub IsOwnNode : Item → DocumentNode → Type 0
IsOwnNode i n = i.keys ≡ None → IsNodeAt i.document.now i.at n

-- an item is spelled as a template of so many keys
abbrev pub HasTemplateNode : Item → ℕ → Type 0
HasTemplateNode i len = (end : ℕ) × (i.keys ≡ None) × IsNodeAt i.document.now i.at (nodes.Template len end)

-- the value that a node means, a container being empty
abbrev pub event_tree : Event → Tree
event_tree (told.boolean v) = boolean v
event_tree (told.integer v) = integer v
event_tree (told.real r) = real r
event_tree (told.bytes s) = bytes s
event_tree (told.text s) = text s
event_tree (told.open_array n) = array no_items
event_tree (told.open_template n) = array no_items
event_tree (told.open_object n) = object no_entries
event_tree _ = null

-- the same of a node over these strings
abbrev pub node_tree : List ℕ → DocumentNode → Tree
node_tree s n = event_tree (event_of s n)

-- the same value, but for what a container holds
abbrev pub emptied : Tree → Tree
emptied (array ts) = array no_items
emptied (object es) = object no_entries
emptied t = t

-- the first event of a value
abbrev pub first_event : Tree → Event
first_event null = told.null
first_event (boolean v) = told.boolean v
first_event (integer v) = told.integer v
first_event (real v) = told.real v
first_event (bytes s) = told.bytes s
first_event (text s) = told.text s
first_event (array ts) = told.open_array (length (items ts))
first_event (object es) = told.open_object (length (entries es))
first_event (template ks rs) = told.open_template (length ks)

-- the first event of a part; a row begins as an object
abbrev pub part_event : Part → Event
part_event (tree t) = first_event t
part_event skipped = told.skip
part_event (row_of ks fs) = told.open_object (length ks)

-- the node of a part that begins here
abbrev pub IsPartNode : Item → DocumentNode → Type 0
IsPartNode i n = (p : Part) → PartLies i.document.now i.keys i.at p → event_of i.document.now.strings.items n ≡ part_event p

-- a node at an item of this value
pub record ShowsNode (u : Tree) (d : Document) (n : DocumentNode) : Type 0 where
  pub same : node_tree d.strings.items n ≡ emptied u
  pub within : Within d.strings.items n

-- the place behind a node that has this end
abbrev pub stepped : ℕ → Option ℕ → ℕ
stepped n None = n + 1
stepped n (Some end) = end

-- the ends of a value's nodes, or of a skip's
abbrev pub field_ends : Option Tree → ℕ → List (Option ℕ)
field_ends None n = None ∷ []
field_ends (Some t) n = tree_ends t n

-- the ends of the nodes of a part
abbrev pub part_ends : Part → ℕ → List (Option ℕ)
part_ends (tree t) n = tree_ends t n
part_ends skipped n = None ∷ []
part_ends (row_of ks fs) n = fields_ends fs n

-- ---- items at which no value begins

-- no value begins here, and no row
abbrev pub HasNoValue : Item → Type 0
HasNoValue i = (i.keys ≡ None) × ((n : DocumentNode) → IsNodeAt i.document.now i.at n → node_tree i.document.now.strings.items n ≡ null)

-- an item is read as this value, and as null where no value begins
abbrev pub IsReadAs : Item → Tree → Type 0
IsReadAs i u = HoldsItem i u ⊎ (HasNoValue i × (u ≡ null))

-- the value that an item is read as
abbrev pub item_value : Item → Tree
item_value i = part_read i.document.now i.keys i.at
