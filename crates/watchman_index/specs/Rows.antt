-- What a message makes of what is known of a file.
use Rattle.std.specs.Prelude.{ℕ, false, if◌then◌else◌}
use Rattle.watchman_index.specs.declared.row.FileState.{FileState}
use Rattle.watchman_index.specs.declared.row.Row.{Row}
use Rattle.watchman_index.specs.declared.listed.Listed.{Listed}

-- a row that message n lists and changed
abbrev pub changed_by : ℕ → FileState → Row
changed_by n s = record { state = s; told = n; changed = n }

-- the row of a file that message n says to be gone, though it does not list it
abbrev pub gone : ℕ → Row → Row
gone n was = if was.state.exists
    then record was { state = record was.state { exists = false }; changed = n } else was

-- what is said of a listed file
abbrev pub state_of : Listed → FileState
state_of f = record {
  exists = f.exists;
  size = f.size;
  mode = f.mode;
  kind = f.kind;
  mtime_ms = f.mtime_ms;
}
