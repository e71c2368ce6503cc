-- What is still wanted of the containers that are open.
use Rattle.std.specs.Prelude.{◌≡◌, ◌⊎◌, ◌<◌, ◌^◌, ℕ, suc, List, ◌++◌, length, Option, Some, None}
use Rattle.bser_format.specs.Tree.{Tree, items_of, entries_of, fields_of, rows_of}
use Rattle.bser_format.specs.declared.errors.Kind.TheVariants.{MapKey}
use Rattle.bser_format.specs.Named.{Reader, give, ◌>>=◌, many, entry_of, field_of, text_of, with_text_keys}
use Rattle.bser_events.specs.Events.{Event, item_events, entry_events, field_events, row_events}
use Rattle.bser_events.specs.declared.frame.Remaining.{Remaining}
use Rattle.bser_events.specs.declared.frame.Remaining.TheVariants.{Items, Entries, Rows}
use Rattle.bser_events.specs.declared.frame.Part.{Part}
use Rattle.bser_events.specs.declared.frame.Part.TheVariants.{Item, Entry, Field}

-- what is read where these parts are wanted: items, entries, or the row in work and those after it
abbrev pub Left : Remaining → Type 0
Left (Items k) = List Tree
Left (Entries k) = List (List ℕ × Tree)
Left (Rows f r w) = List (Option Tree) × List (List (Option Tree))

-- reads these parts, with n levels left for each
abbrev pub parts_of : ℕ → (p : Remaining) → Reader (Left p)
parts_of n (Items k) = many (with_text_keys n) k
parts_of n (Entries k) = many (entry_of (text_of MapKey) (with_text_keys n)) k
parts_of n (Rows f r w) =
    many (field_of (with_text_keys n)) f >>= λ fs. many (many (field_of (with_text_keys n)) w) r >>= λ rs. give (fs, rs)

-- as many were read as are wanted
abbrev pub Fits : (p : Remaining) → Left p → Type 0
Fits (Items k) ts = length ts ≡ k
Fits (Entries k) es = length es ≡ k
Fits (Rows f r w) l = (length l.0 ≡ f) × (length l.1 ≡ r)

-- the events of what was read
abbrev pub left_events : (p : Remaining) → Left p → List Event
left_events (Items k) ts = item_events (items_of ts)
left_events (Entries k) es = entry_events (entries_of es)
left_events (Rows f r w) l = field_events (fields_of l.0) ++ row_events (rows_of l.1)

-- no number of parts is greater than a count can be
abbrev pub IsSmall : Remaining → Type 0
IsSmall (Items k) = k < 2 ^ 64
IsSmall (Entries k) = k < 2 ^ 64
IsSmall (Rows f r w) = (f < 2 ^ 64) × (r < 2 ^ 64) × (w < 2 ^ 64)

-- where this is expected, the parts from the old on are it and then the new
abbrev pub Takes : Part → Remaining → Remaining → Type 0
Takes Item old new = (k : ℕ) × (old ≡ Items (suc k)) × (new ≡ Items k)
Takes Entry old new = (k : ℕ) × (old ≡ Entries (suc k)) × (new ≡ Entries k)
Takes Field old new =
    (f : ℕ) × (r : ℕ) × (w : ℕ) × (new ≡ Rows f r w)
    × ((old ≡ Rows (suc f) r w) ⊎ ((w ≡ suc f) × (old ≡ Rows 0 (suc r) w)))

-- no part is left
abbrev pub IsDone : Remaining → Type 0
IsDone (Items k) = k ≡ 0
IsDone (Entries k) = k ≡ 0
IsDone (Rows f r w) = (f ≡ 0) × ((r ≡ 0) ⊎ (w ≡ 0))

-- the next part is expected, or none is left
abbrev pub CountsDown : Remaining → Remaining → Option Part → Type 0
CountsDown old new None = IsDone old × (new ≡ old)
CountsDown old new (Some due) = Takes due old new

-- after a key of an entry its value is expected, and else the next part
abbrev pub CountsOn : Part → Remaining → Remaining → Option Part → Type 0
CountsOn Entry old new due = (due ≡ Some Item) × (new ≡ old)
CountsOn _ old new due = CountsDown old new due
