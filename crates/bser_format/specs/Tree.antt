-- What a BSER body means. An integer's and a real's range is the grammar's matter.
use Rattle.std.specs.Prelude.{ℕ, ℤ, Bool, List, [], ◌∷◌, Option, Some, None}

mutual
  pub data Tree : Type 0 where
    null : Tree
    boolean : Bool → Tree
    integer : ℤ → Tree
    real : ℕ → Tree
    bytes : List ℕ → Tree
    text : List ℕ → Tree
    array : Items → Tree
    object : Entries → Tree
    template : List (List ℕ) → Rows → Tree

  pub data Items : Type 0 where
    no_items : Items
    item : Tree → Items → Items

  pub data Entries : Type 0 where
    no_entries : Entries
    entry : List ℕ → Tree → Entries → Entries

  pub data Rows : Type 0 where
    no_rows : Rows
    row : Fields → Rows → Rows

  pub data Fields : Type 0 where
    no_fields : Fields
    skip : Fields → Fields
    field : Tree → Fields → Fields

-- the parts of a container, as a list
abbrev pub items : Items → List Tree
items no_items = []
items (item t ts) = t ∷ items ts

abbrev pub entries : Entries → List (List ℕ × Tree)
entries no_entries = []
entries (entry k t es) = (k, t) ∷ entries es

abbrev pub fields : Fields → List (Option Tree)
fields no_fields = []
fields (skip fs) = None ∷ fields fs
fields (field t fs) = Some t ∷ fields fs

abbrev pub rows : Rows → List (List (Option Tree))
rows no_rows = []
rows (row fs rs) = fields fs ∷ rows rs

-- the parts that a list gives
abbrev pub items_of : List Tree → Items
items_of [] = no_items
items_of (t ∷ ts) = item t (items_of ts)

abbrev pub entries_of : List (List ℕ × Tree) → Entries
entries_of [] = no_entries
entries_of (e ∷ es) = entry e.0 e.1 (entries_of es)

abbrev pub fields_of : List (Option Tree) → Fields
fields_of [] = no_fields
fields_of (None ∷ fs) = skip (fields_of fs)
fields_of (Some t ∷ fs) = field t (fields_of fs)

abbrev pub rows_of : List (List (Option Tree)) → Rows
rows_of [] = no_rows
rows_of (r ∷ rs) = row (fields_of r) (rows_of rs)
