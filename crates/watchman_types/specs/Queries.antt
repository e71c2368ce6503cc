-- A query as the object that Watchman reads. A field that is None is left out.
use Rattle.std.specs.Prelude.{ℕ, pos, List, [], ◌∷◌, ◌++◌, codes, Bool, Option, Some, None, Result, Ok}
use Rattle.bser_format.specs.Tree.{Tree, boolean, integer, text}
use Rattle.bser_format.specs.Written.{slice_tree}
use Rattle.bser_format.specs.declared.errors.Error.{Error}
use Rattle.bser_structs.specs.Entries.{entries_tree, given_entry}
use Rattle.watchman_types.specs.Expressions.{expression_meaning}
use Rattle.watchman_types.specs.Terms.{bytes_tree, moment_tree}
use Rattle.watchman_types.specs.declared.requests.query.Path.{Path}
use Rattle.watchman_types.specs.declared.requests.query.Query.{Query}

-- an entry of a key and a value
abbrev pub Entry : Type 0
Entry = List ℕ × Result Tree Error

-- a truth value, a number, and a list of texts
abbrev pub truth_tree : Bool → Result Tree Error
truth_tree v = Ok (boolean v)

abbrev pub number_tree : ℕ → Result Tree Error
number_tree n = Ok (integer (pos n))

-- a path is a byte string, or an object where its depth is given
abbrev pub path_at : Path → Option ℕ → Result Tree Error
path_at p None = bytes_tree p.path
path_at p (Some n) = entries_tree ((codes "path", bytes_tree p.path) ∷ (codes "depth", number_tree n) ∷ [])

abbrev pub path_tree : Path → Result Tree Error
path_tree p = path_at p p.depth

-- the entries that say which files, and which of their fields
abbrev pub selection_entries : Query → List Entry
selection_entries q =
    given_entry (codes "since") moment_tree q.since
    ++ given_entry (codes "expression") expression_meaning q.expression
    ++ given_entry (codes "fields") (λ ss. slice_tree (λ s. Ok (text s.now)) ss.now) q.fields
    ++ []

-- the entries that say from where files are taken
abbrev pub origin_entries : Query → List Entry
origin_entries q =
    given_entry (codes "path") (λ ps. slice_tree path_tree ps.now) q.path
    ++ given_entry (codes "suffix") (λ ss. slice_tree (λ s. Ok (text s.now)) ss.now) q.suffix
    ++ given_entry (codes "glob") (λ ss. slice_tree (λ s. Ok (text s.now)) ss.now) q.glob
    ++ []

-- the entries that say how paths are compared, and which files are listed once or not at all
abbrev pub comparing_entries : Query → List Entry
comparing_entries q =
    given_entry (codes "glob_includedotfiles") truth_tree q.glob_include_dot_files
    ++ given_entry (codes "glob_noescape") truth_tree q.glob_no_escape
    ++ given_entry (codes "relative_root") bytes_tree q.relative_root
    ++ given_entry (codes "case_sensitive") truth_tree q.case_sensitive
    ++ given_entry (codes "dedup_results") truth_tree q.dedup_results
    ++ given_entry (codes "empty_on_fresh_instance") truth_tree q.empty_on_fresh_instance
    ++ []

-- the other entries
abbrev pub answering_entries : Query → List Entry
answering_entries q =
    given_entry (codes "omit_changed_files") truth_tree q.omit_changed_files
    ++ given_entry (codes "always_include_directories") truth_tree q.always_include_directories
    ++ given_entry (codes "sync_timeout") number_tree q.sync_timeout
    ++ given_entry (codes "lock_timeout") number_tree q.lock_timeout
    ++ given_entry (codes "request_id") (λ s. Ok (text s.now)) q.request_id
    ++ []

-- the entries of a query
abbrev pub query_entries : Query → List Entry
query_entries q = selection_entries q ++ origin_entries q ++ comparing_entries q ++ answering_entries q ++ []
