-- The parts of a document: values, skipped fields, and rows with their keys.
use Rattle.std.specs.Prelude.{◌≡◌, ℕ, List, length, map, take, drop, Option, Some, None, unwrap_or}
use Rattle.std.specs.List.{AllByRecursion}
use Rattle.bser_format.specs.Tree.{Tree, null, object, Rows, items, Fields, fields, rows}
use Rattle.bser_format.specs.Tree as trees
use Rattle.bser_format.specs.Expand.{expand, expand_items, expand_rows, expand_fields}
use Rattle.bser_format.specs.Normal.{normal, normal_items}
use Rattle.bser_deserializer.specs.WholeRows.{HasWholeRows, FieldsHaveWholeRows, ItemsHaveWholeRows, RowsHaveWholeRows}
use Rattle.bser_document.specs.declared.document.Document.{Document}
use Rattle.bser_document.specs.declared.item.Keys.{Keys}
use Rattle.bser_document.specs.DocumentView.{Within, event_of}
use Rattle.bser_document.specs.Spelled.{Member, keys_among, fields_from, tell_back, untold, first_value}
use Rattle.bser_document.specs.Spans.{TreeLies, KeysLie, FieldsLie, FieldLies, ItemsLie, RowsLie}

-- a value, a skipped field, or a row with its keys
pub data Part : Type 0 where
  tree : Tree → Part
  skipped : Part
  row_of : List (List ℕ) → Fields → Part

-- what a part means, as it is read
abbrev pub part_value : Part → Option Tree
part_value (tree t) = normal (expand t)
part_value skipped = Some null
part_value (row_of ks fs) = normal (object (expand_fields ks fs))

-- each row inside has a field for each key
abbrev pub PartIsWhole : Part → Type 0
PartIsWhole (tree t) = HasWholeRows t
PartIsWhole skipped = Unit {0}
PartIsWhole (row_of ks fs) = FieldsHaveWholeRows fs

-- these keys are those of a template of the document
pub record ShowsKeys (d : Document) (k : Keys) (ks : List (List ℕ)) : Type 0 where
  pub count : k.len ≡ length ks
  pub lie : KeysLie d ks k.at

-- the fields of a row begin at this place
pub record RowLies (d : Document) (keys : Option Keys) (at : ℕ) (ks : List (List ℕ)) (fs : Fields) : Type 0 where
  pub keys_at : Keys
  pub some : keys ≡ Some keys_at
  pub shows : ShowsKeys d keys_at ks
  pub count : length (fields fs) ≡ length ks
  pub lie : FieldsLie d fs at

-- the part begins at this place, where a row's keys are these
abbrev pub PartLies : Document → Option Keys → ℕ → Part → Type 0
PartLies d keys at (tree t) = (keys ≡ None) × TreeLies d t at
PartLies d keys at skipped = (keys ≡ None) × FieldLies d None at
PartLies d keys at (row_of ks fs) = RowLies d keys at ks fs

-- each text and each key of the document is UTF-8
abbrev pub HasTexts : Document → Type 0
HasTexts d = AllByRecursion (Within d.strings.items) d.nodes.items

-- a part that begins at this place is this value, as it is read
pub record IsPart (d : Document) (keys : Option Keys) (at : ℕ) (u : Tree) : Type 0 where
  pub part : Part
  pub lies : PartLies d keys at part
  pub value : part_value part ≡ Some u
  pub whole : PartIsWhole part
  pub texts : HasTexts d

-- where there are keys, a row of them begins at this place
abbrev pub IsRowIfKeyed : Document → Option Keys → ℕ → Type 0
IsRowIfKeyed d None at = Unit {0}
IsRowIfKeyed d (Some k) at = (u : Tree) × IsPart d (Some k) at u

-- ---- parts one after the other

-- the items of an array, or the rows of a template with its keys
pub data Parts : Type 0 where
  items_of : trees.Items → Parts
  rows_of : List (List ℕ) → Rows → Parts

-- what they mean, as they are read
abbrev pub parts_value : Parts → Option trees.Items
parts_value (items_of ts) = normal_items (expand_items ts)
parts_value (rows_of ks rs) = normal_items (expand_rows ks rs)

-- how many parts there are
abbrev pub parts_count : Parts → ℕ
parts_count (items_of ts) = length (items ts)
parts_count (rows_of ks rs) = length (rows rs)

-- the rows of a template begin at this place
pub record RowsLieAt (d : Document) (keys : Option Keys) (at : ℕ) (ks : List (List ℕ)) (rs : Rows) : Type 0 where
  pub keys_at : Keys
  pub some : keys ≡ Some keys_at
  pub shows : ShowsKeys d keys_at ks
  pub count : AllByRecursion (λ r. length r ≡ length ks) (rows rs)
  pub lie : RowsLie d rs at

-- the parts begin at this place, where the keys of rows are these
abbrev pub PartsLie : Document → Option Keys → ℕ → Parts → Type 0
PartsLie d keys at (items_of ts) = (keys ≡ None) × ItemsLie d ts at
PartsLie d keys at (rows_of ks rs) = RowsLieAt d keys at ks rs

-- each row inside has a field for each key
abbrev pub PartsAreWhole : Parts → Type 0
PartsAreWhole (items_of ts) = ItemsHaveWholeRows ts
PartsAreWhole (rows_of ks rs) = RowsHaveWholeRows rs

-- so many parts from this place on are these values, as they are read
pub record AreParts (d : Document) (keys : Option Keys) (at left : ℕ) (us : trees.Items) : Type 0 where
  pub parts : Parts
  pub lie : PartsLie d keys at parts
  pub count : left ≡ parts_count parts
  pub value : parts_value parts ≡ Some us
  pub whole : PartsAreWhole parts
  pub texts : HasTexts d

-- where there are keys, so many rows of them begin at this place
abbrev pub AreRowsIfKeyed : Document → Option Keys → ℕ → ℕ → Type 0
AreRowsIfKeyed d None at left = Unit {0}
AreRowsIfKeyed d (Some k) at left = (us : trees.Items) × AreParts d (Some k) at left us

-- ---- the value of a part

-- what is from this place on in the innermost container
abbrev pub members_at : Document → ℕ → List Member
members_at d at = (tell_back (map (event_of d.strings.items) (drop at d.nodes.items)) untold).inner

-- the part that begins at this place, and null where none does
abbrev pub part_at : Document → Option Keys → ℕ → Part
part_at d None at = tree (first_value (members_at d at))
part_at d (Some k) at = row_of (take k.len (keys_among (members_at d k.at))) (fields_from k.len (members_at d at))

-- what it means, as it is read
abbrev pub part_read : Document → Option Keys → ℕ → Tree
part_read d keys at = unwrap_or (part_value (part_at d keys at)) null
