-- Open containers, and what the calls on them answer.
use Rattle.std.specs.Prelude.{◌≡◌, ℕ, ◌-◌, ◌<◌, Bool, true, false, List, [], ◌∷◌, ◌++◌, Option, Some, None}
use Rattle.bser_format.specs.Grammar.{Format}
use Rattle.bser_format.specs.Content.{Content, Meaning}
use Rattle.bser_source.specs.Device.{one_more}
use Rattle.bser_source.specs.Window.{Window, Took}
use Rattle.bser_format.specs.Expected.{nothing_due, WantedItems, nodes, rows_over, WantedPairs, entries_of_object, fields_of_row}
use Rattle.bser_format.specs.declared.errors.Error.{Error}
use Rattle.bser_format.specs.DueReaders.{items_at, pairs_at}
use Rattle.bser_format.specs.Clauses.{left_over, out_of_turn}
use Rattle.bser_deserializer.specs.State.{State, awaiting, refused}
use Rattle.bser_deserializer.specs.Reading.{Answers, Asking, Refuses, RefusesFront, NamesDue, bare, owned, only_keys, Needs}
use Rattle.bser_deserializer.specs.Parts.{BeginsItems, BeginsPairs, items_left, item_due, items_after, pairs_left, pair_key, pair_value, pairs_after}

-- an open array: what it wants, and the levels and the number of open containers outside
pub record OpenItems : Type 0 where
  pub state : State
  pub wanted : WantedItems
  pub levels : ℕ
  pub opened : ℕ

-- an open object, of which a value is expected after its key where `pending`
pub record OpenPairs : Type 0 where
  pub state : State
  pub wanted : WantedPairs
  pub pending : Bool
  pub levels : ℕ
  pub opened : ℕ

-- ---- opening

-- the state inside a container that was opened
abbrev pub inside_items : WantedItems → State → Window → State
inside_items (nodes k) s r = record s { source = r; due = nothing_due; levels = s.levels - 1; opened = one_more s.opened }
inside_items (rows_over ks k) s r = record s { source = r; due = nothing_due; levels = s.levels - 1; opened = one_more s.opened; keys = ks; outer = s.outer ++ s.keys ∷ [] }

-- a row takes no level
abbrev pub inside_pairs : WantedPairs → State → Window → State
inside_pairs (entries_of_object k) s r = record s { source = r; due = nothing_due; levels = s.levels - 1; opened = one_more s.opened }
inside_pairs (fields_of_row ks) s r = record s { source = r; due = nothing_due; opened = one_more s.opened }

-- an array or a template was opened
pub record OpensItems (old : State) (new : OpenItems) : Type 0 where
  pub text : List ℕ
  pub head : BeginsItems old.levels old.due new.wanted text
  pub took : Took old.source new.state.source text
  pub state : new.state ≡ inside_items new.wanted old new.state.source
  pub levels : new.levels ≡ old.levels
  pub opened : new.opened ≡ old.opened

-- an object or a row was opened
pub record OpensPairs (old : State) (new : OpenPairs) : Type 0 where
  pub text : List ℕ
  pub head : BeginsPairs old.levels old.due new.wanted text
  pub took : Took old.source new.state.source text
  pub state : new.state ≡ inside_pairs new.wanted old new.state.source
  pub pending : new.pending ≡ false
  pub levels : new.levels ≡ old.levels
  pub opened : new.opened ≡ old.opened

-- the head of some array or template
abbrev pub IsItemsHead : State → Format
IsItemsHead s text = (w : WantedItems) × BeginsItems s.levels s.due w text

-- the head of some array
abbrev pub IsArrayHead : State → Format
IsArrayHead s text = (k : ℕ) × BeginsItems s.levels s.due (nodes k) text

-- the head of some object or row
abbrev pub IsPairsHead : State → Format
IsPairsHead s text = (w : WantedPairs) × BeginsPairs s.levels s.due w text

-- neither an array nor a template is opened; where an array is, it is not out of memory
pub record RefusesItems (e : Error) (old new : State) : Type 0 where
  pub refuses : RefusesFront owned (IsItemsHead old) (NamesDue owned (items_at old.levels) e old) e old.source new.source
  pub array : RefusesFront only_keys (IsArrayHead old) (NamesDue only_keys (items_at old.levels) e old) e old.source new.source

-- neither an object nor a row is opened
abbrev pub RefusesPairs : Error → State → State → Type 0
RefusesPairs e old new =
    RefusesFront bare (IsPairsHead old) (NamesDue bare (pairs_at old.levels) e old) e old.source new.source

-- ---- items

-- the same container, in another state
abbrev pub items_in : OpenItems → State → WantedItems → OpenItems
items_in a s w = record a { state = s; wanted = w }

-- v is the next item
pub record IsNextItem {A : Type 0} (reads : Meaning) (holds : A → Content → Type 0) (old new : OpenItems) (v : A) : Type 0 where
  pub counted : 0 < items_left old.wanted
  pub answers : Answers reads holds (awaiting (item_due old.wanted) old.state) new.state v
  pub after : new ≡ items_in old new.state (items_after old.wanted)

-- no item is left, and nothing changes
pub record IsOver (old new : OpenItems) : Type 0 where
  pub working : old.state.source.failed ≡ false
  pub counted : items_left old.wanted ≡ 0
  pub same : new ≡ old

-- the next item, or none where none is left
abbrev pub NextItem : {A : Type 0} → Meaning → (A → Content → Type 0) → OpenItems → OpenItems → Option A → Type 0
NextItem reads holds old new None = IsOver old new
NextItem reads holds old new (Some v) = IsNextItem reads holds old new v

-- an item is left, and gives an error
pub record RefusesItem (reads : Meaning) (asks : Option (Asking reads)) (needs : Needs) (e : Error) (old : OpenItems) (new : State) : Type 0 where
  pub counted : old.state.source.failed ≡ false → 0 < items_left old.wanted
  pub refuses : Refuses reads asks needs e (awaiting (item_due old.wanted) old.state) new

-- ---- keys and values

-- a key where a value is expected, or a value where a key is, or a call after an error
pub record OutOfTurn (e : Error) (old new : State) : Type 0 where
  pub name : e ≡ out_of_turn old.source.failed
  pub state : new ≡ refused old

abbrev pub pairs_in : OpenPairs → State → WantedPairs → Bool → OpenPairs
pairs_in a s w p = record a { state = s; wanted = w; pending = p }

-- no entry is left, and nothing changes
pub record NoEntry (old new : OpenPairs) : Type 0 where
  pub working : old.state.source.failed ≡ false
  pub read : old.pending ≡ false
  pub counted : pairs_left old.wanted ≡ 0
  pub same : new ≡ old

-- k is the next key, whose value is expected then
pub record IsKey {A : Type 0} (reads : Meaning) (holds : A → Content → Type 0) (old new : OpenPairs) (k : A) : Type 0 where
  pub read : old.pending ≡ false
  pub counted : 0 < pairs_left old.wanted
  pub answers : Answers reads holds (awaiting (pair_key old.wanted) old.state) new.state k
  pub after : new ≡ pairs_in old new.state (pairs_after old.wanted) true

-- the next key, or none where none is left
abbrev pub NextKey : {A : Type 0} → Meaning → (A → Content → Type 0) → OpenPairs → OpenPairs → Option A → Type 0
NextKey reads holds old new None = NoEntry old new
NextKey reads holds old new (Some k) = IsKey reads holds old new k

-- a key is left, and gives an error, or it is not its turn
pub record RefusesKey (reads : Meaning) (asks : Option (Asking reads)) (needs : Needs) (e : Error) (old : OpenPairs) (new : State) : Type 0 where
  pub counted : old.state.source.failed ≡ false → old.pending ≡ false → 0 < pairs_left old.wanted
  pub refuses : old.pending ≡ false → Refuses reads asks needs e (awaiting (pair_key old.wanted) old.state) new
  pub turn : old.pending ≡ true → OutOfTurn e old.state new

-- v is the value of the key that was read
pub record IsValue {A : Type 0} (reads : Meaning) (holds : A → Content → Type 0) (old new : OpenPairs) (v : A) : Type 0 where
  pub key : old.pending ≡ true
  pub answers : Answers reads holds (awaiting (pair_value old.wanted) old.state) new.state v
  pub after : new ≡ pairs_in old new.state old.wanted false

-- the value gives an error, or it is not its turn
pub record RefusesValue (reads : Meaning) (asks : Option (Asking reads)) (needs : Needs) (e : Error) (old : OpenPairs) (new : State) : Type 0 where
  pub refuses : old.pending ≡ true → Refuses reads asks needs e (awaiting (pair_value old.wanted) old.state) new
  pub turn : old.pending ≡ false → OutOfTurn e old.state new

-- the next key is expected, and nothing is taken
pub record AwaitsKey (old new : OpenPairs) : Type 0 where
  pub working : old.state.source.failed ≡ false
  pub read : old.pending ≡ false
  pub counted : 0 < pairs_left old.wanted
  pub same : new ≡ pairs_in old (awaiting (pair_key old.wanted) old.state) old.wanted old.pending

-- the value of the key that was read is expected, and nothing is taken
pub record AwaitsValue (old new : OpenPairs) : Type 0 where
  pub key : old.pending ≡ true
  pub same : new ≡ pairs_in old (awaiting (pair_value old.wanted) old.state) old.wanted old.pending

-- the next key, and its value
pub record IsEntry {A B : Type 0} (K V : Meaning) (holds_key : A → Content → Type 0) (holds_value : B → Content → Type 0) (old new : OpenPairs) (e : A × B) : Type 0 where
  pub between : OpenPairs
  pub key : IsKey K holds_key old between e.0
  pub value : IsValue V holds_value between new e.1

-- the next entry, or none where none is left
abbrev pub NextEntry : {A B : Type 0} → Meaning → Meaning → (A → Content → Type 0) → (B → Content → Type 0) → OpenPairs → OpenPairs → Option (A × B) → Type 0
NextEntry K V holds_key holds_value old new None = NoEntry old new
NextEntry K V holds_key holds_value old new (Some e) = IsEntry K V holds_key holds_value old new e

-- the value of the next key gives an error
pub record RefusesLater {A : Type 0} (K V : Meaning) (holds_key : A → Content → Type 0) (asks : Option (Asking V)) (needs : Needs) (e : Error) (old : OpenPairs) (new : State) : Type 0 where
  pub name : A
  pub between : OpenPairs
  pub key : IsKey K holds_key old between name
  pub value : RefusesValue V asks needs e between new

-- ---- closing

-- the state after a container is closed
abbrev pub after_closing : ℕ → ℕ → State → State
after_closing levels opened s = record s { levels = levels; opened = opened; due = nothing_due }

-- closing a template gives the keys outside back
abbrev pub KeysOutside : WantedItems → State → State → Type 0
KeysOutside (nodes k) old new = (new.keys ≡ old.keys) × (new.outer ≡ old.outer)
KeysOutside (rows_over ks k) old new = (ls : List (List ℕ)) (ts : List (List (List ℕ))) → old.outer ≡ ts ++ ls ∷ [] → (new.keys ≡ ls) × (new.outer ≡ ts)

-- an array whose items are all read was closed
pub record ClosesItems (old : OpenItems) (new : State) : Type 0 where
  pub working : old.state.source.failed ≡ false
  pub counted : items_left old.wanted ≡ 0
  pub keys : KeysOutside old.wanted old.state new
  pub state : new ≡ record (after_closing old.levels old.opened old.state) { keys = new.keys; outer = new.outer }

-- items are left at the end
pub record LeavesItems (e : Error) (old : OpenItems) (new : State) : Type 0 where
  pub name : e ≡ left_over old.state.source.failed
  pub counted : old.state.source.failed ≡ false → 0 < items_left old.wanted
  pub state : new ≡ refused old.state

-- an object whose entries are all read was closed
pub record ClosesPairs (old : OpenPairs) (new : State) : Type 0 where
  pub working : old.state.source.failed ≡ false
  pub read : old.pending ≡ false
  pub counted : pairs_left old.wanted ≡ 0
  pub state : new ≡ after_closing old.levels old.opened old.state

-- entries are left at the end, or a value is expected
pub record LeavesPairs (e : Error) (old : OpenPairs) (new : State) : Type 0 where
  pub name : e ≡ left_over old.state.source.failed
  pub counted : old.state.source.failed ≡ false → old.pending ≡ false → 0 < pairs_left old.wanted
  pub state : new ≡ refused old.state
