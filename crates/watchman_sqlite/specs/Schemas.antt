-- The tables of an index, as its texts make them.
use Rattle.std.specs.Prelude.{◌≡◌, ℕ, zero, suc, List, [], ◌++◌, drop, take, Result, Ok, Err}
use Rattle.sqlite.specs.Batch.{first_len}
use Rattle.sqlite.specs.Change.{created}
use Rattle.sqlite.specs.Compile.{table_defined_by}
use Rattle.sqlite.specs.Given.{IsPlain}
use Rattle.sqlite.specs.Listing.{understood}
use Rattle.sqlite.specs.Schema.{Schema}
use Rattle.sqlite.specs.Table.{Table}
use Rattle.watchman_sqlite.specs.declared.schema.TheConstants.{CREATE}
use Rattle.watchman_sqlite.specs.declared.subject.TheConstants.{CREATE_SUBJECT}

-- a database without tables
abbrev pub no_schema : Schema
no_schema = record { tables = []; indexes = []; views = [] }

-- the schema behind a statement, which is another only where that makes a table
abbrev pub schema_behind : {E : Type 0} → Result Table E → Schema → Schema
schema_behind (Ok table) schema = created schema table
schema_behind (Err e) schema = schema

-- the schema behind the first so many statements of a text
abbrev pub schema_after : ℕ → List ℕ → Schema → Schema
schema_after zero text schema = schema
schema_after (suc n) text schema =
    schema_after n (drop (first_len text) text) (schema_behind (table_defined_by (take (first_len text) text)) schema)

-- the schema of an index
abbrev pub index_schema : Schema
index_schema = schema_after 1 CREATE_SUBJECT.now (schema_after 5 CREATE.now no_schema)

-- the schema of a database with the tables of an index, and perhaps others behind them
abbrev pub HasIndexTables : Schema → Type 0
HasIndexTables schema = (others : List Table) × (schema.tables ≡ index_schema.tables ++ others)

-- a question compiles over an index, and neither has RETURNING nor reads the time
abbrev pub IsPlainQuestion : List ℕ → Type 0
IsPlainQuestion text = (schema : Schema) → HasIndexTables schema → IsPlain (understood schema text)
