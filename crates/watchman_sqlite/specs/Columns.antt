-- What the columns of a row of the database hold.
use Rattle.std.specs.Prelude.{◌≡◌, ◌<◌, ℕ, ℤ, pos, not, Bool, length}
use Rattle.std.specs.Ordering.{int_eq}
use Rattle.sqlite.specs.Order.{Row, column}
use Rattle.sqlite.specs.Reading.{IsReadError}
use Rattle.sqlite.specs.declared.error.Error.TheVariants.{SqliteFailure}
use Rattle.sqlite.specs.declared.error.ErrorCode.TheVariants as code
use Rattle.sqlite.specs.declared.types.Value.{Value}
use Rattle.sqlite.specs.declared.types.Value.TheVariants.{Int}
use Rattle.watchman_sqlite.specs.declared.error.IndexError.{IndexError}
use Rattle.watchman_sqlite.specs.declared.error.IndexError.TheVariants.{Database}

-- the column has this value
pub record Holds (row : Row) (at : ℕ) (v : Value) : Type 0 where
  pub within : at < length row
  pub value : column row at ≡ v

-- a number as a value
abbrev pub number : ℕ → Value
number n = Int (pos n)

-- the column has a truth: any number but 0 is true
pub record HoldsTruth (row : Row) (at : ℕ) (truth : Bool) : Type 0 where
  pub n : ℤ
  pub holds : Holds row at (Int n)
  pub is : truth ≡ not (int_eq n (pos 0))

-- the database had no memory
abbrev pub no_memory : IndexError
no_memory = Database (SqliteFailure code.OutOfMemory)

-- the database fails
abbrev pub IsOfDatabase : IndexError → Type 0
IsOfDatabase (Database _) = Unit {0}
IsOfDatabase _ = ⊥

-- a column is not read: the error names it
abbrev pub IsUnread : Row → ℕ → IndexError → Type 0
IsUnread row at (Database e) = IsReadError at (column row at) e
IsUnread row at _ = ⊥
