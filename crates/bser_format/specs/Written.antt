-- The tree that a value of each written type is, or the error that says why it has none.
use Rattle.std.specs.Prelude.{ℕ, pos, ◌^◌, List, [], ◌∷◌, length, nat_lt, if◌then◌else◌, Option, Some, None, Result, Ok, Err}
use Rattle.bser_format.specs.Tree.{Tree, null, integer, array, object, Items, no_items, item, Entries, no_entries, entry}
use Rattle.bser_format.specs.declared.errors.Complaint.TheVariants.{CountTooGreat}
use Rattle.bser_format.specs.declared.errors.Error.{Error}
use Rattle.bser_format.specs.declared.errors.Error.TheVariants.{SerU64TooBig, SerCustom}
use Rattle.bser_format.specs.declared.errors.Message.TheVariants.{Fixed}

-- what is made of a value, or the error in its place
abbrev pub map_ok : {A B : Type 0} → (A → B) → Result A Error → Result B Error
map_ok f (Ok x) = Ok (f x)
map_ok f (Err e) = Err e

-- an item and those after it, or why the first without a tree has none
abbrev pub item_before : Result Tree Error → Result Items Error → Result Items Error
item_before (Err e) ts = Err e
item_before (Ok t) (Err e) = Err e
item_before (Ok t) (Ok ts) = Ok (item t ts)

-- an entry and those after it, or why the first without a tree has none
abbrev pub entry_before : List ℕ → Result Tree Error → Result Entries Error → Result Entries Error
entry_before k (Err e) es = Err e
entry_before k (Ok t) (Err e) = Err e
entry_before k (Ok t) (Ok es) = Ok (entry k t es)

-- the trees of all items, or why the first without a tree has none
abbrev pub written_items : {A : Type 0} → (A → Result Tree Error) → List A → Result Items Error
written_items f [] = Ok no_items
written_items f (x ∷ xs) = item_before (f x) (written_items f xs)

-- the keys, and the trees of all values, or why the first without a tree has none
abbrev pub written_entries : {K V : Type 0} → (K → List ℕ) → (V → Result Tree Error) → List (K × V) → Result Entries Error
written_entries key f [] = Ok no_entries
written_entries key f (e ∷ es) = entry_before (key e.0) (f e.1) (written_entries key f es)

-- a tree, where the number is not above the greatest i64, and else this error
abbrev pub up_to_i64 : ℕ → Error → Result Tree Error → Result Tree Error
up_to_i64 n e m = if nat_lt n (2 ^ 63) then m else Err e

-- an integer without a sign has a tree up to the greatest i64, and is too big above it
abbrev pub unsigned_tree : ℕ → Result Tree Error
unsigned_tree n = up_to_i64 n (SerU64TooBig n) (Ok (integer (pos n)))

-- a tree of so many parts, which are too many above the greatest i64
abbrev pub within_i64 : ℕ → Result Tree Error → Result Tree Error
within_i64 n m = up_to_i64 n (SerCustom (Fixed CountTooGreat)) m

-- None is null
abbrev pub option_tree : {A : Type 0} → (A → Result Tree Error) → Option A → Result Tree Error
option_tree f None = Ok null
option_tree f (Some x) = f x

-- an array of all items, or why the first without a tree has none
abbrev pub array_tree : {A : Type 0} → (A → Result Tree Error) → List A → Result Tree Error
array_tree f xs = map_ok array (written_items f xs)

-- a slice whose items have no size may have more of them than an i64 counts
abbrev pub slice_tree : {A : Type 0} → (A → Result Tree Error) → List A → Result Tree Error
slice_tree f xs = within_i64 (length xs) (array_tree f xs)

-- the part itself
abbrev pub part_tree : Result Tree Error → Result Tree Error
part_tree m = m

-- a tuple is the array of its parts
abbrev pub tuple_tree : List (Result Tree Error) → Result Tree Error
tuple_tree parts = array_tree part_tree parts

-- a byte string is its bytes
abbrev pub plain_bytes : List ℕ → List ℕ
plain_bytes s = s

-- an object of all entries, or why the first value without a tree has none
abbrev pub object_tree : {K V : Type 0} → (K → List ℕ) → (V → Result Tree Error) → List (K × V) → Result Tree Error
object_tree key f es = map_ok object (written_entries key f es)

-- a struct is the object of its fields, in their order
abbrev pub struct_tree : List (List ℕ × Result Tree Error) → Result Tree Error
struct_tree fields = object_tree plain_bytes part_tree fields

-- an enum's variant with a payload is an object of one entry, from its name
abbrev pub variant_tree : List ℕ → Result Tree Error → Result Tree Error
variant_tree name payload = struct_tree ((name, payload) ∷ [])
