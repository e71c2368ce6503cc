-- What callers find in a value, by its kind.
use Rattle.std.specs.Prelude.{ℕ, ℤ, Bool, List, Option, Some, None, Float, if◌then◌else◌}
use Rattle.std.specs.Float.{binary64}
use Rattle.std.specs.Float.Ieee.{of_int}
use Rattle.bser_format.specs.RealText.{float_of}
use Rattle.bser_format.specs.SameTree.{same_bytes}
use Rattle.bser_format.specs.Tree.{Tree, boolean, integer, real, bytes, text, array, object, Items, Entries, no_entries, entry}

-- the value of the first entry with this key
abbrev pub entry_under : List ℕ → Entries → Option Tree
entry_under key no_entries = None
entry_under key (entry k t es) = if same_bytes key k then Some t else entry_under key es

-- the same in an object; nothing else has entries
abbrev pub get : List ℕ → Tree → Option Tree
get key (object es) = entry_under key es
get key _ = None

-- a text alone is one
abbrev pub as_str : Tree → Option (List ℕ)
as_str (text s) = Some s
as_str _ = None

-- a text has bytes, as a byte string does
abbrev pub as_bytes : Tree → Option (List ℕ)
as_bytes (bytes s) = Some s
as_bytes (text s) = Some s
as_bytes _ = None

abbrev pub as_i64 : Tree → Option ℤ
as_i64 (integer n) = Some n
as_i64 _ = None

-- a real that is no NaN, or the nearest float of an integer
abbrev pub as_f64 : Tree → Option Float
as_f64 (real bits) = float_of bits
as_f64 (integer n) = Some (of_int binary64 n)
as_f64 _ = None

abbrev pub as_bool : Tree → Option Bool
as_bool (boolean truth) = Some truth
as_bool _ = None

abbrev pub as_array : Tree → Option Items
as_array (array ts) = Some ts
as_array _ = None

abbrev pub as_object : Tree → Option Entries
as_object (object es) = Some es
as_object _ = None
