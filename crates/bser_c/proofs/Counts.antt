-- A message has at most an event for each byte of its body.
use Rattle.std.proofs.Common.{◌≡◌, ℕ, zero, suc, ◌+◌, ◌≤◌, ℤ, List, [], ◌∷◌, ◌++◌, length, length-append, ap, inl, inr, arith}
use Rattle.bser_format.specs.Tree.{Tree, null, boolean, integer, real, bytes, text, array, object, template, Items, no_items, item, Entries, no_entries, entry, Rows, no_rows, row, Fields, no_fields, skip, field, items, entries, fields, rows}
use Rattle.bser_format.specs.Grammar.{Format, Each, SpellsInteger, SpellsString, SpellsKey, SpellsEntry, SpellsField, Spells}
use Rattle.bser_format.proofs.Sizes.{length_then}
use Rattle.bser_events.specs.Events as told
use Rattle.bser_events.specs.Events.{Event, events, item_events, entry_events, key_events, row_events, field_events}

integer_nonempty : (v : ℤ) (b : List ℕ) → SpellsInteger v b → 1 ≤ length b
integer_nonempty v b h = let e = ap length h.spelled in omega arith

string_nonempty : (s b : List ℕ) → SpellsString s b → 1 ≤ length b
string_nonempty s b (inl h) = omega (arith, length_then h, ap length h.first)
string_nonempty s b (inr h) = omega (arith, length_then h, ap length h.first)

-- a container's parts, and its end
ended : (es : List Event) → length (es ++ told.close ∷ []) ≡ length es + 1
ended es = length-append es (told.close ∷ [])

abbrev pub Few : (Tree → Format) → Type 0
Few F = (t : Tree) (b : List ℕ) → F t b → length (events t) ≤ length b

items_few : (F : Tree → Format) → Few F → (ts : Items) (b : List ℕ) → Each F (items ts) b → length (item_events ts) ≤ length b
items_few F one no_items b h = omega arith
items_few F one (item t ts) b h = omega (arith, length_then h, length-append (events t) (item_events ts), one t h.front h.first, items_few F one ts h.rest h.second)

entries_few : (F : Tree → Format) → Few F → (es : Entries) (b : List ℕ) → Each (SpellsEntry F) (entries es) b → length (entry_events es) ≤ length b
entries_few F one no_entries b h = omega arith
entries_few F one (entry k t es) b h =
    omega (arith, length_then h, length_then h.first, string_nonempty k h.first.front h.first.first, length-append (told.key k ∷ events t) (entry_events es), one t h.first.rest h.first.second, entries_few F one es h.rest h.second)

keys_few : (ks : List (List ℕ)) (b : List ℕ) → Each SpellsKey ks b → length (key_events ks) ≤ length b
keys_few [] b h = omega arith
keys_few (k ∷ ks) b h = omega (arith, length_then h, string_nonempty k h.front h.first.1, keys_few ks h.rest h.second)

fields_few : (F : Tree → Format) → Few F → (fs : Fields) (b : List ℕ) → Each (SpellsField F) (fields fs) b → length (field_events fs) ≤ length b
fields_few F one no_fields b h = omega arith
fields_few F one (skip fs) b h = omega (arith, length_then h, ap length h.first, fields_few F one fs h.rest h.second)
fields_few F one (field t fs) b h = omega (arith, length_then h, length-append (events t) (field_events fs), one t h.front h.first, fields_few F one fs h.rest h.second)

rows_few : (F : Tree → Format) → Few F → (rs : Rows) (b : List ℕ) → Each (Each (SpellsField F)) (rows rs) b → length (row_events rs) ≤ length b
rows_few F one no_rows b h = omega arith
rows_few F one (row fs rs) b h = omega (arith, length_then h, length-append (field_events fs) (row_events rs), fields_few F one fs h.front h.first, rows_few F one rs h.rest h.second)

pub events_few : (n : ℕ) → Few (Spells n)
events_few n null b h = omega (arith, ap length h)
events_few n (boolean v) b h = omega (arith, ap length h)
events_few n (integer v) b h = omega (arith, integer_nonempty v b h)
events_few n (real r) b h = omega (arith, ap length h.1)
events_few n (bytes s) b h = omega (arith, length_then h, ap length h.first)
events_few n (text s) b h = omega (arith, length_then h, ap length h.first)
events_few zero (array ts) b h = absurd h
events_few (suc n) (array ts) b h =
    omega (arith, length_then h, ap length h.first, length_then h.second, integer_nonempty _ _ h.second.first, ended (item_events ts), items_few (Spells n) (events_few n) ts h.second.rest h.second.second)
events_few zero (object es) b h = absurd h
events_few (suc n) (object es) b h =
    omega (arith, length_then h, ap length h.first, length_then h.second, integer_nonempty _ _ h.second.first, ended (entry_events es), entries_few (Spells n) (events_few n) es h.second.rest h.second.second)
events_few zero (template ks rs) b h = absurd h
events_few (suc zero) (template ks rs) b h = absurd h
events_few (suc (suc n)) (template ks rs) b h =
    let s = h.1 in
    let keys = s.second.second.second in
    let rest = keys.second in
    omega (
      arith,
      length_then s,
      ap length s.first,
      length_then s.second,
      ap length s.second.first,
      length_then s.second.second,
      integer_nonempty _ _ s.second.second.first,
      length_then keys,
      keys_few ks keys.front keys.first,
      length_then rest,
      integer_nonempty _ _ rest.first,
      length-append (told.open_template (length ks) ∷ key_events ks) (told.open_rows (length (rows rs)) ∷ (row_events rs ++ told.close ∷ [])),
      ended (row_events rs),
      rows_few (Spells (suc n)) (events_few (suc n)) rs rest.rest rest.second,
    )
