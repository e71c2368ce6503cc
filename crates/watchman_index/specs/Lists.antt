-- What a message lists, by the names of the files.
use Rattle.std.specs.Prelude.{ℕ, List, map}
use Rattle.std.specs.BTreeMap.{BTreeMap, IsFromIterResult}
use Rattle.std.specs.Ordering.{nat_cmp}
use Rattle.std.specs.Cmp.Lexicographic.{slice_cmp}
use Rattle.watchman_index.specs.declared.listed.Listed.{Listed}
use Rattle.watchman_index.specs.declared.row.FileState.{FileState}
use Rattle.watchman_index.specs.Rows.{state_of}

-- a listed file by its name
abbrev pub entry_of : Listed → List ℕ × FileState
entry_of f = (f.name, state_of f)

-- the files of a list by their names, of which the last place counts
abbrev pub HasListed : List Listed → BTreeMap (List ℕ) FileState → Type 0
HasListed listed files = IsFromIterResult (slice_cmp nat_cmp) (map entry_of listed) files
