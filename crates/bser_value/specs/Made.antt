-- What the events of a value make, step by step, of the containers that are open.
use Rattle.std.specs.Prelude.{ℕ, List, [], ◌∷◌, ◌++◌, Option, Some, None, option_map, option_and_then}
use Rattle.std.specs.Ordering.{nat_cmp}
use Rattle.std.specs.Cmp.Lexicographic.{slice_cmp}
use Rattle.std.specs.BTreeMap.{insert_entry}
use Rattle.bser_format.specs.Tree.{Tree, null, boolean, integer, real, bytes, text, array, object, items_of, entries_of}
use Rattle.bser_events.specs.Events as events
use Rattle.bser_events.specs.Events.{Event}

-- entries in rising order of keys
abbrev pub Entries : Type 0
Entries = List (List ℕ × Tree)

-- what is being read: the value as a whole; an array's items; an object's entries, and the key whose value comes next; a template's keys; or its keys, its rows that are done, the entries of the next one, and the keys that are left for it
pub data Open : Type 0 where
  whole : Option Tree → Open
  in_array : List Tree → Open
  in_object : Entries → Option (List ℕ) → Open
  in_keys : List (List ℕ) → Open
  in_rows : List (List ℕ) → List Tree → Entries → List (List ℕ) → Open

-- the innermost, and those around it
pub record Stack : Type 0 where
  pub inner : Open
  pub around : List Open

-- an entry is put in; the last of equal keys stays
abbrev pub with_entry : Entries → List ℕ → Tree → Entries
with_entry es k t = insert_entry (slice_cmp nat_cmp) es k t

-- the value that comes next is put in; with its last field a row is done
abbrev pub put : Tree → Open → Option Open
put t (whole None) = Some (whole (Some t))
put t (whole (Some u)) = None
put t (in_array ts) = Some (in_array (ts ++ t ∷ []))
put t (in_object es None) = None
put t (in_object es (Some k)) = Some (in_object (with_entry es k t) None)
put t (in_keys ks) = None
put t (in_rows ks ts es []) = None
put t (in_rows ks ts es (k ∷ [])) = Some (in_rows ks (ts ++ object (entries_of (with_entry es k t)) ∷ []) [] ks)
put t (in_rows ks ts es (k ∷ l ∷ ls)) = Some (in_rows ks ts (with_entry es k t) (l ∷ ls))

-- a key is taken: that of the next value, or one more of a template
abbrev pub named : List ℕ → Open → Option Open
named k (in_object es None) = Some (in_object es (Some k))
named k (in_keys ks) = Some (in_keys (ks ++ k ∷ []))
named k _ = None

-- the rows of a template begin
abbrev pub begun : Open → Option Open
begun (in_keys ks) = Some (in_rows ks [] [] ks)
begun _ = None

-- the value of a container of which all was read
abbrev pub built : Open → Option Tree
built (in_array ts) = Some (array (items_of ts))
built (in_object es None) = Some (object (entries_of es))
built (in_rows ks ts [] ls) = Some (array (items_of ts))
built _ = None

-- what the innermost became, with those around it
abbrev pub inside : Option Open → List Open → Option Stack
inside o os = option_map (λ i. record { inner = i; around = os }) o

-- a value is put into the innermost
abbrev pub give : Tree → Stack → Option Stack
give t s = inside (put t s.inner) s.around

-- a container is opened inside the innermost
abbrev pub opened : Open → Stack → Option Stack
opened o s = Some (record { inner = o; around = s.inner ∷ s.around })

-- the value of the innermost is put into the one around it
abbrev pub closed : Open → List Open → Option Stack
closed i [] = None
closed i (o ∷ os) = option_and_then (λ t. give t (record { inner = o; around = os })) (built i)

-- what an event makes; a skip is null
abbrev pub make : Event → Stack → Option Stack
make events.null s = give null s
make (events.boolean v) s = give (boolean v) s
make (events.integer v) s = give (integer v) s
make (events.real r) s = give (real r) s
make (events.bytes b) s = give (bytes b) s
make (events.text b) s = give (text b) s
make (events.open_array n) s = opened (in_array []) s
make (events.open_object n) s = opened (in_object [] None) s
make (events.key k) s = inside (named k s.inner) s.around
make (events.open_template n) s = opened (in_keys []) s
make (events.open_rows n) s = inside (begun s.inner) s.around
make events.skip s = give null s
make events.close s = closed s.inner s.around

-- one event after the other
abbrev pub makes : List Event → Stack → Option Stack
makes [] s = Some s
makes (e ∷ es) s = option_and_then (makes es) (make e s)

-- nothing was read
abbrev pub unread : Stack
unread = record { inner = whole None; around = [] }

-- this value was read
abbrev pub read_as : Tree → Stack
read_as t = record { inner = whole (Some t); around = [] }
