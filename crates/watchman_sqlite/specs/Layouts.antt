-- What is known of a database by the names of its tables, and making them.
use Rattle.std.specs.Prelude.{IsTrue, ◌≡◌, ◌≢◌, ◌⊎◌, ◌<◌, ℕ, Bool, true, false, List, [], ◌∷◌, length, map, slice_get, Option, IsSomeAnd, Ok}
use Rattle.std.specs.List.{All, HoldsAt}
use Rattle.sqlite.specs.Batch.{ExecutesAllInside}
use Rattle.sqlite.specs.Effect.{Database}
use Rattle.sqlite.specs.Held.{Held, state}
use Rattle.sqlite.specs.Order.{Row, column}
use Rattle.sqlite.specs.State.{State, ExecutesInside, Shown}
use Rattle.sqlite.specs.Store.{Ghosts}
use Rattle.sqlite.specs.declared.types.Value.TheVariants.{Int, Text}
use Rattle.watchman_sqlite.specs.Columns.{Holds}
use Rattle.watchman_sqlite.specs.Subjects.{KeepsSubject}
use Rattle.watchman_sqlite.specs.declared.error.IndexError.{IndexError}
use Rattle.watchman_sqlite.specs.declared.error.IndexError.TheVariants.{NoIndex, OtherLayout, Database as Failed}
use Rattle.watchman_sqlite.specs.declared.schema.TheConstants.{CREATE, KEEP_LAYOUT, LAYOUT, NAMES, OLD_TABLES, TABLES, VERSION}
use Rattle.watchman_sqlite.specs.declared.subject.Subject.{Subject}
use Rattle.watchman_sqlite.specs.declared.subject.TheConstants.{CREATE_SUBJECT}

-- one of the rows is this name
abbrev pub IsNamed : List Row → List ℕ → Type 0
IsNamed rows name = (k : ℕ) × (k < length rows) × HoldsAt (λ row. column row 0 ≡ Text name) rows k

-- none of the rows is this name
abbrev pub IsUnnamed : List Row → List ℕ → Type 0
IsUnnamed rows name = All (λ row. column row 0 ≢ Text name) rows

-- each of the names is that of a row
abbrev pub AreNamed : List Row → List (List ℕ) → Type 0
AreNamed rows names = All (IsNamed rows) names

-- one of the names is that of no row
abbrev pub OneIsUnnamed : List Row → List (List ℕ) → Type 0
OneIsUnnamed rows names = (k : ℕ) × (k < length names) × HoldsAt (IsUnnamed rows) names k

-- the tables of an index
abbrev pub tables : List (List ℕ)
tables = map (λ name. name.now) TABLES

-- the tables of an index without a version
abbrev pub old_tables : List (List ℕ)
old_tables = map (λ name. name.now) OLD_TABLES

-- the first row has the version of this layout
abbrev pub IsThisLayout : List Row → Type 0
IsThisLayout rows = IsSomeAnd (slice_get rows 0) (λ row. Holds row 0 (Int LAYOUT))

module _ {S : Type 0} (g : Ghosts S) (old new : Held S) where
  -- the database told the names of its tables, of which this holds
  abbrev pub TellsNames : (List Row → Type 0) → Type 0
  TellsNames P = (rows : List Row) × Shown NAMES.now [] (state g old) (state g new) rows × P rows

  -- the database told its version, of which this holds
  abbrev pub TellsVersion : (List Row → Type 0) → Type 0
  TellsVersion P = (rows : List Row) × Shown VERSION.now [] (state g old) (state g new) rows × P rows

module _ {S : Type 0} (g : Ghosts S) (old new : Held S) where
  -- why it has not this version: it told another or none, or the database fails
  abbrev pub HasOtherVersion : IndexError → Type 0
  HasOtherVersion OtherLayout = TellsVersion g old new (λ rows. ¬ IsThisLayout rows)
  HasOtherVersion (Failed _) = Unit {0}
  HasOtherVersion _ = ⊥

  -- it has the tables of an index, and told a version, of which this holds
  abbrev pub HasVersion : (List Row → Type 0) → Type 0
  HasVersion P = (mid : Held S) × TellsNames g old mid (λ rows. AreNamed rows tables) × TellsVersion g mid new P

  -- it is an index of this layout, or has no tables at all
  abbrev pub HasTables : Bool → Type 0
  HasTables true = HasVersion IsThisLayout
  HasTables false = TellsNames g old new (λ rows. rows ≡ [])

  -- why it is no index of this layout: another version, or the tables of an index without one; or
  -- tables, and not those of an index; or the database fails
  abbrev pub HasOtherTables : IndexError → Type 0
  HasOtherTables OtherLayout = HasVersion (λ rows. ¬ IsThisLayout rows)
      ⊎ TellsNames g old new (λ rows. AreNamed rows old_tables × OneIsUnnamed rows tables)
  HasOtherTables NoIndex = TellsNames g old new (λ rows. (rows ≢ []) × OneIsUnnamed rows tables × OneIsUnnamed rows old_tables)
  HasOtherTables (Failed _) = Unit {0}
  HasOtherTables _ = ⊥

-- the database holds and has committed what it did before
abbrev pub IsAsBefore : State → State → Type 0
IsAsBefore old new = (new.now ≡ old.now) × (new.committed ≡ old.committed)

-- inside a transaction the tables were made, and the version and the subject kept
pub record PutTables {S : Type 0} (g : Ghosts S) (subject : Option Subject) (old new : Held S) : Type 0 where
  pub first : Held S
  pub second : Held S
  pub third : Held S
  pub count : ℕ
  pub was_open : IsTrue (state g old).is_open
  pub made : ExecutesAllInside g 0 CREATE.now old first (Ok tt)
  pub made_subject : ExecutesAllInside g 0 CREATE_SUBJECT.now first second (Ok tt)
  pub version : ExecutesInside 0 KEEP_LAYOUT.now (Int LAYOUT ∷ []) (state g second) (state g third) (Ok count)
  pub kept : KeepsSubject g subject third new
  pub inside : IsTrue (state g new).in_transaction
  pub committed : (state g new).committed ≡ (state g old).committed

-- that was done in one transaction, which left this
pub record MadeTables {S : Type 0} (g : Ghosts S) (subject : Option Subject) (old : Held S) (db : Database) : Type 0 where
  pub last : Held S
  pub put : PutTables g subject (record old { in_transaction = true }) last
  pub is : db ≡ (state g last).now
