-- What a row says of a file, and visiting such rows.
use Rattle.std.specs.Prelude.{◌≡◌, ◌≢◌, ◌⊎◌, ◌≤◌, ◌<◌, ◌^◌, ◌-◌, ℕ, List, length, string_bytes, IfSome, Option, MatchBool}
use Rattle.std.specs.List.{FoldsTo}
use Rattle.sqlite.specs.Order.{Row, column}
use Rattle.sqlite.specs.Reading.{IsReadError}
use Rattle.sqlite.specs.Held.{Held, state}
use Rattle.sqlite.specs.State.{IsUnchanged, Shown}
use Rattle.sqlite.specs.Store.{Ghosts}
use Rattle.sqlite.specs.Values.{or_null}
use Rattle.sqlite.specs.declared.types.Value.TheVariants.{Int, Text, Blob}
use Rattle.watchman_index.specs.Tables.{is_since}
use Rattle.watchman_types.specs.Words.{file_type_word}
use Rattle.watchman_types.specs.declared.file_type.FileType.{FileType}
use Rattle.watchman_sqlite.specs.Columns.{Holds, HoldsTruth, number}
use Rattle.watchman_sqlite.specs.declared.error.IndexError.{IndexError}
use Rattle.watchman_sqlite.specs.declared.error.IndexError.TheVariants.{Database, UnknownType}
use Rattle.watchman_sqlite.specs.declared.record.Record.{Record}

-- the columns that each question of files asks for first
pub record IsRecord (row : Row) (r : Record) : Type 0 where
  pub name : Holds row 0 (Blob r.name)
  pub exists : HoldsTruth row 1 r.row.state.exists
  pub size : Holds row 2 (or_null number r.row.state.size)
  pub mode : Holds row 3 (or_null number r.row.state.mode)
  pub kind : Holds row 4 (or_null (λ kind. Text (file_type_word kind)) r.row.state.kind)
  pub mtime_ms : Holds row 5 (or_null Int r.row.state.mtime_ms)
  pub changed : Holds row 6 (number r.row.changed)
  pub told : Holds row 7 (number r.row.told)

-- its mode has 32 bits, as a mode of the program has
abbrev pub HasMode : Record → Type 0
HasMode r = IfSome r.row.state.mode (λ mode. mode < 2 ^ 32)

-- the word is no type's
abbrev pub IsNoType : List ℕ → Type 0
IsNoType word = (kind : FileType) → file_type_word kind ≢ word

-- why a row is not read: a word stands in the place of a type's letter, or the error names a column
abbrev pub IsNoRecord : Row → IndexError → Type 0
IsNoRecord row (UnknownType word) = Holds row 4 (Text (string_bytes word)) × IsNoType (string_bytes word)
IsNoRecord row (Database e) = (at : ℕ) × IsReadError at (column row at) e
IsNoRecord row _ = ⊥

-- an answer is not read
abbrev pub IsUnreadAnswer : IndexError → Type 0
IsUnreadAnswer (UnknownType _) = Unit {0}
IsUnreadAnswer (Database _) = Unit {0}
IsUnreadAnswer _ = ⊥

-- the record of a row was visited
abbrev pub VisitsRow : {V : Type 0} → (V → Record → V → Type 0) → V → Row → V → Type 0
VisitsRow visits before row after = (r : Record) × IsRecord row r × visits before r after

-- the rows are the question's answer, or as many as are visited at most; the record of each was
-- visited, once and in order; and the database is as it was
pub record VisitedAnswer {S V : Type 0} (g : Ghosts S) (visits : V → Record → V → Type 0) (question : List ℕ) (params : Row) (old new : Held S) (before after : V) : Type 0 where
  pub rows : List Row
  pub answer : Shown question params (state g old) (state g new) rows ⊎ (2 ^ 64 - 1 ≤ length rows)
  pub visited : FoldsTo (VisitsRow visits) before rows after
  pub same : IsUnchanged (state g old) (state g new)

-- a record of a file that changed behind message n was visited, and any other was passed over
abbrev pub VisitsSince : {V : Type 0} → (V → Record → V → Type 0) → Option ℕ → V → Record → V → Type 0
VisitsSince visits n before r after = MatchBool (is_since n r.row) (visits before r after) (after ≡ before)
