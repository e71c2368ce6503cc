-- The canonical text of a tree: the least size for every integer, length and count, texts under the tag of texts.
use Rattle.std.specs.Prelude.{◌<◌, ◌^◌, ℕ, ℤ, pos, negsuc, Bool, true, false, List, [], ◌∷◌, ◌++◌, length, flat_map, IsUtf8, FitsSigned, nat_lt, if◌then◌else◌}
use Rattle.std.specs.List.{AllByRecursion}
use Rattle.std.specs.Int.{w32, w64, to_le_bytes}
use Rattle.std.specs.Str.{is_utf8}
use Rattle.bser_format.specs.Tree.{Tree, null, boolean, integer, real, bytes, text, array, object, template, Items, no_items, item, Entries, no_entries, entry, Rows, no_rows, row, Fields, no_fields, skip, field, entries, rows, items}
use Rattle.bser_format.specs.Grammar.{◌then◌, IntSize, int8, int16, int32, int64, int_bytes, Bool_tag, IsTemplate}

-- v is at least -limit and below it
abbrev pub is_within : ℕ → ℤ → Bool
is_within limit (pos n) = nat_lt n limit
is_within limit (negsuc n) = nat_lt n limit

-- the first size that holds the number
abbrev pub first_size : Bool → Bool → Bool → IntSize
first_size true b c = int8
first_size false true c = int16
first_size false false true = int32
first_size false false false = int64

abbrev pub least_size : ℤ → IntSize
least_size v = first_size (is_within (2 ^ 7) v) (is_within (2 ^ 15) v) (is_within (2 ^ 31) v)

-- the shortest bytes of an integer
unfoldable pub least_integer : ℤ → List ℕ
least_integer v = int_bytes (least_size v) v

abbrev pub least_count : ℕ → List ℕ
least_count n = least_integer (pos n)

abbrev pub canonical_bytes : List ℕ → List ℕ
canonical_bytes s = 0x02 ∷ (least_count (length s) ++ s)

abbrev pub canonical_text : List ℕ → List ℕ
canonical_text s = 0x0d ∷ (least_count (length s) ++ s)

unfoldable pub canonical_key : List ℕ → List ℕ
canonical_key k = if is_utf8 k then canonical_text k else canonical_bytes k

abbrev mutual
  pub canonical_body : Tree → List ℕ
  canonical_body null = 0x0a ∷ []
  canonical_body (boolean v) = Bool_tag v ∷ []
  canonical_body (integer v) = least_integer v
  canonical_body (real r) = 0x07 ∷ to_le_bytes w64 r
  canonical_body (bytes s) = canonical_bytes s
  canonical_body (text s) = canonical_text s
  canonical_body (array ts) = 0x00 ∷ (least_count (length (items ts)) ++ canonical_items ts)
  canonical_body (object es) = 0x01 ∷ (least_count (length (entries es)) ++ canonical_entries es)
  canonical_body (template ks rs) = 0x0b ∷ 0x00 ∷ (least_count (length ks) ++ (flat_map canonical_text ks ++ (least_count (length (rows rs)) ++ canonical_rows rs)))

  pub canonical_items : Items → List ℕ
  canonical_items no_items = []
  canonical_items (item t ts) = canonical_body t ++ canonical_items ts

  pub canonical_entries : Entries → List ℕ
  canonical_entries no_entries = []
  canonical_entries (entry k t es) = (canonical_key k ++ canonical_body t) ++ canonical_entries es

  pub canonical_rows : Rows → List ℕ
  canonical_rows no_rows = []
  canonical_rows (row fs rs) = canonical_fields fs ++ canonical_rows rs

  pub canonical_fields : Fields → List ℕ
  canonical_fields no_fields = []
  canonical_fields (skip fs) = (0x0c ∷ []) ++ canonical_fields fs
  canonical_fields (field t fs) = canonical_body t ++ canonical_fields fs

-- a length or a count that has an integer
abbrev pub IsCount : ℕ → Type 0
IsCount n = n < 2 ^ 63

abbrev pub IsWritableText : List ℕ → Type 0
IsWritableText s = IsUtf8 s × IsCount (length s)

-- each number and count is in its range, and each text is UTF-8
abbrev mutual
  pub IsWritable : Tree → Type 0
  IsWritable null = Unit {0}
  IsWritable (boolean v) = Unit {0}
  IsWritable (integer v) = FitsSigned w64 v
  IsWritable (real r) = r < 2 ^ 64
  IsWritable (bytes s) = IsCount (length s)
  IsWritable (text s) = IsWritableText s
  IsWritable (array ts) = IsCount (length (items ts)) × ItemsAreWritable ts
  IsWritable (object es) = IsCount (length (entries es)) × EntriesAreWritable es
  IsWritable (template ks rs) = IsTemplate ks (rows rs) × IsCount (length ks) × AllByRecursion IsWritableText ks × IsCount (length (rows rs)) × RowsAreWritable rs

  pub ItemsAreWritable : Items → Type 0
  ItemsAreWritable no_items = Unit {0}
  ItemsAreWritable (item t ts) = IsWritable t × ItemsAreWritable ts

  pub EntriesAreWritable : Entries → Type 0
  EntriesAreWritable no_entries = Unit {0}
  EntriesAreWritable (entry k t es) = IsCount (length k) × IsWritable t × EntriesAreWritable es

  pub RowsAreWritable : Rows → Type 0
  RowsAreWritable no_rows = Unit {0}
  RowsAreWritable (row fs rs) = FieldsAreWritable fs × RowsAreWritable rs

  pub FieldsAreWritable : Fields → Type 0
  FieldsAreWritable no_fields = Unit {0}
  FieldsAreWritable (skip fs) = FieldsAreWritable fs
  FieldsAreWritable (field t fs) = IsWritable t × FieldsAreWritable fs

-- the canonical message
abbrev pub canonical_message : Tree → List ℕ
canonical_message t = 0x00 ∷ 0x02 ∷ (to_le_bytes w32 0 ++ (least_count (length (canonical_body t)) ++ canonical_body t))
