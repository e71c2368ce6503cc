-- The tree of events, as it is spelled. They are gone through from the last to the first.
use Rattle.std.specs.Prelude.{ℕ, zero, suc, List, [], ◌∷◌, drop}
use Rattle.bser_format.specs.Tree.{Tree, null, boolean, integer, real, bytes, text, array, object, template, Items, no_items, item, Entries, no_entries, entry, Rows, no_rows, row, Fields, no_fields, skip, field}
use Rattle.bser_events.specs.Events as told
use Rattle.bser_events.specs.Events.{Event}

-- what is inside a container: a value, a key, a skip, or the count of a template's rows
pub data Member : Type 0 where
  a_value : Tree → Member
  a_key : List ℕ → Member
  a_skip : Member
  a_count : ℕ → Member

-- the members of the innermost container, and those of the containers around it, as far as they were gone through
pub record Frames : Type 0 where
  pub inner : List Member
  pub around : List (List Member)

-- ---- the parts that members are

-- the items of an array
abbrev pub items_among : List Member → Items
items_among (a_value t ∷ ms) = item t (items_among ms)
items_among _ = no_items

-- the entries of an object
abbrev pub entries_among : List Member → Entries
entries_among (a_key k ∷ a_value t ∷ ms) = entry k t (entries_among ms)
entries_among _ = no_entries

-- the keys of a template, which stand before the count of its rows
abbrev pub keys_among : List Member → List (List ℕ)
keys_among (a_key k ∷ ms) = k ∷ keys_among ms
keys_among _ = []

-- so many fields of a row
abbrev pub fields_from : ℕ → List Member → Fields
fields_from (suc n) (a_skip ∷ ms) = skip (fields_from n ms)
fields_from (suc n) (a_value t ∷ ms) = field t (fields_from n ms)
fields_from _ _ = no_fields

-- so many rows, each with so many fields
abbrev pub rows_from : ℕ → ℕ → List Member → Rows
rows_from zero k ms = no_rows
rows_from (suc n) k ms = row (fields_from k ms) (rows_from n k (drop k ms))

-- the rows of a template of so many keys
abbrev pub rows_among : ℕ → List Member → Rows
rows_among k (a_key _ ∷ ms) = rows_among k ms
rows_among k (a_count n ∷ ms) = rows_from n k ms
rows_among k _ = no_rows

-- ---- events

-- one more member is before the others
abbrev pub before : Member → Frames → Frames
before m s = record { inner = m ∷ s.inner; around = s.around }

-- the innermost container is this value, a member of the one around it
abbrev pub whole : Tree → List (List Member) → Frames
whole t [] = record { inner = a_value t ∷ []; around = [] }
whole t (ms ∷ around) = record { inner = a_value t ∷ ms; around = around }

-- what an event makes of the members behind it
abbrev pub tell : Event → Frames → Frames
tell told.null s = before (a_value null) s
tell (told.boolean v) s = before (a_value (boolean v)) s
tell (told.integer v) s = before (a_value (integer v)) s
tell (told.real r) s = before (a_value (real r)) s
tell (told.bytes b) s = before (a_value (bytes b)) s
tell (told.text b) s = before (a_value (text b)) s
tell (told.open_array n) s = whole (array (items_among s.inner)) s.around
tell (told.open_object n) s = whole (object (entries_among s.inner)) s.around
tell (told.key k) s = before (a_key k) s
tell (told.open_template n) s = whole (template (keys_among s.inner) (rows_among n s.inner)) s.around
tell (told.open_rows n) s = before (a_count n) s
tell told.skip s = before a_skip s
tell told.close s = record { inner = []; around = s.inner ∷ s.around }

-- the last event first
abbrev pub tell_back : List Event → Frames → Frames
tell_back [] s = s
tell_back (e ∷ es) s = tell e (tell_back es s)

-- nothing was gone through
abbrev pub untold : Frames
untold = record { inner = []; around = [] }

-- the first member where it is a value, and else null
abbrev pub first_value : List Member → Tree
first_value (a_value t ∷ ms) = t
first_value _ = null

-- the tree of these events, and null where they have none
abbrev pub tree_told : List Event → Tree
tree_told es = first_value (tell_back es untold).inner
