-- What an index stores of a message, and storing it.
use Rattle.std.specs.Prelude.{IsTrue, ◌≡◌, ◌+◌, ◌-◌, ◌^◌, ℕ, pos, min, Bool, List, [], ◌∷◌, ◌++◌, map, MatchBool, true, if◌then◌else◌, Option, MatchOption, Ok, slice_get}
use Rattle.std.specs.BTreeMap.{BTreeMap}
use Rattle.std.specs.List.{FoldsTo}
use Rattle.std.specs.Option.{is_some, option_map}
use Rattle.std.specs.Str.{str_to_ascii_lowercase}
use Rattle.sqlite.specs.Effect.{Database}
use Rattle.sqlite.specs.Held.{Held, state}
use Rattle.sqlite.specs.Order.{Row}
use Rattle.sqlite.specs.State.{Executes, ExecutesInside, Shown}
use Rattle.sqlite.specs.Store.{Ghosts}
use Rattle.sqlite.specs.Values.{or_null}
use Rattle.sqlite.specs.declared.types.Value.{Value}
use Rattle.sqlite.specs.declared.types.Value.TheVariants.{Int, Text, Blob}
use Rattle.watchman_index.specs.Origins.{Learns}
use Rattle.watchman_index.specs.Rows.{changed_by, gone}
use Rattle.watchman_index.specs.Suffixes.{suffix_of}
use Rattle.watchman_index.specs.Tables.{of_name}
use Rattle.watchman_index.specs.declared.changes.Changes.{Changes}
use Rattle.watchman_index.specs.declared.origin.Origin.{Origin}
use Rattle.watchman_index.specs.declared.row.FileState.{FileState}
use Rattle.watchman_types.specs.Words.{file_type_word}
use Rattle.watchman_sqlite.specs.Columns.{number}
use Rattle.watchman_sqlite.specs.Records.{VisitedAnswer}
use Rattle.watchman_sqlite.specs.declared.entry.Entry.{Entry}
use Rattle.watchman_sqlite.specs.declared.storing.Statements.{Statements}
use Rattle.watchman_sqlite.specs.declared.record.Record.{Record}
use Rattle.watchman_sqlite.specs.declared.schema.TheConstants.{CLOCK, NUMBER, PRESENT, PUT, SOURCE}

-- ---- which rows

-- the record of a file that message n lists so, which it changed
abbrev pub listed_record : ℕ → List ℕ × FileState → Record
listed_record n e = record { name = e.0; row = changed_by n e.1 }

-- the records of the files that message n lists
abbrev pub listed_records : ℕ → BTreeMap (List ℕ) FileState → List Record
listed_records n listed = map (listed_record n) listed.entries

-- the record of a file that is gone by message n, where that does not list it
abbrev pub gone_records : ℕ → BTreeMap (List ℕ) FileState → Record → List Record
gone_records n listed r = if is_some (of_name listed r.name) then []
    else record { name = r.name; row = gone n r.row } ∷ []

-- behind the records of files that are gone comes that of this file, where message n does not list it
abbrev pub AddsGone : ℕ → BTreeMap (List ℕ) FileState → List Record → Record → List Record → Type 0
AddsGone n listed before r after = after ≡ before ++ gone_records n listed r

-- what is stored of message n beside its rows
pub record IsEntry (n : ℕ) (known : Origin) (c : Changes) (e : Entry) : Type 0 where
  pub number : e.number ≡ n
  pub origin : Learns known c.root c.subscription e.origin
  pub clock : e.clock ≡ c.clock

module _ {S : Type 0} (g : Ghosts S) where
  -- where message n lists all files, these are the records of those that exist and are not listed, as
  -- the database tells them; and else none
  abbrev pub AreGone : ℕ → Changes → Held S → Held S → List Record → Type 0
  AreGone n c old new records = MatchBool c.is_fresh_instance
      (VisitedAnswer g (AddsGone n c.files) PRESENT.now [] old new [] records)
      ((records ≡ []) × (new ≡ old))

  -- the rows that are stored of message n: those of the files that are gone, and of those that it lists
  abbrev pub AreRowsOf : ℕ → Changes → Held S → Held S → List Record → Type 0
  AreRowsOf n c old new records = (others : List Record) × AreGone n c old new others
      × (records ≡ others ++ listed_records n c.files)

-- ---- storing them

-- a number as it is stored
abbrev pub stored : ℕ → Value
stored n = number (min n (2 ^ 63 - 1))

-- a truth as it is stored
abbrev pub truth : Bool → Value
truth b = Int (if b then pos 1 else pos 0)

-- the row of a file, as it is stored
abbrev pub file_row : Record → Row
file_row r = Blob r.name
    ∷ or_null Blob (option_map str_to_ascii_lowercase (suffix_of r.name))
    ∷ truth r.row.state.exists ∷ or_null stored r.row.state.size ∷ or_null number r.row.state.mode
    ∷ or_null (λ kind. Text (file_type_word kind)) r.row.state.kind
    ∷ or_null Int r.row.state.mtime_ms ∷ stored r.row.told ∷ stored r.row.changed ∷ []

-- the row of a clock, as it is stored
abbrev pub clock_row : List ℕ → ℕ → Row
clock_row clock n = Blob clock ∷ stored n ∷ []

-- what the messages are of, as it is stored
abbrev pub source_row : Entry → Row
source_row e = stored e.number ∷ or_null Blob e.origin.root ∷ or_null Blob e.origin.subscription
    ∷ Blob e.clock ∷ []

-- the statements that write an index
pub record AreStatements (by : Statements) : Type 0 where
  pub put : by.put.text ≡ PUT.now
  pub clock : by.clock.text ≡ CLOCK.now
  pub source : by.source.text ≡ SOURCE.now

module _ {S : Type 0} (g : Ghosts S) where
  -- inside a transaction the statement was executed
  abbrev pub Ran : List ℕ → Row → Held S → Held S → Type 0
  Ran text params old new = (count : ℕ) × ExecutesInside 0 text params (state g old) (state g new) (Ok count)

  -- inside a transaction the row of a file was stored
  abbrev pub PutsRow : List ℕ → Held S → Record → Held S → Type 0
  PutsRow text old r new = Ran text (file_row r) old new

module _ {S : Type 0} (g : Ghosts S) (by : Statements) where
  -- inside a transaction the rows were stored, then the clock, and then what the messages are of
  pub record PutEntry (e : Entry) (old new : Held S) : Type 0 where
    pub first : Held S
    pub second : Held S
    pub was_open : IsTrue (state g old).is_open
    pub rows : FoldsTo (PutsRow g by.put.text) old e.rows.items first
    pub clock : Ran g by.clock.text (clock_row e.clock e.number) first second
    pub source : Ran g by.source.text (source_row e) second new
    pub inside : IsTrue (state g new).in_transaction
    pub committed : (state g new).committed ≡ (state g old).committed

  -- that was done in one transaction, which left this
  pub record StoredEntry (e : Entry) (old : Held S) (db : Database) : Type 0 where
    pub last : Held S
    pub put : PutEntry e (record old { in_transaction = true }) last
    pub is : db ≡ (state g last).now

  -- message n was stored, with its rows
  abbrev pub StoredChanges : ℕ → Changes → Entry → Held S → Database → Type 0
  StoredChanges n c e old db = (mid : Held S) × AreRowsOf g n c old mid e.rows.items × StoredEntry e mid db

  -- a clock was stored under the number n
  abbrev pub PutClock : List ℕ → ℕ → Held S → Held S → Type 0
  PutClock clock n old new = (count : ℕ) × Executes by.clock.text (clock_row clock n) (state g old) (state g new) (Ok count)

  -- a clock that the database did not tell was stored under the number n, and one that it told stays
  abbrev pub KeptClock : List ℕ → ℕ → Held S → Held S → Type 0
  KeptClock clock n old new = (mid : Held S) × (rows : List Row)
      × Shown NUMBER.now (Blob clock ∷ []) (state g old) (state g mid) rows
      × MatchOption (slice_get rows 0) (PutClock clock n mid new) (λ _. new ≡ mid)
