-- The tree of a `Value`.
use Rattle.std.specs.Prelude.{◌≡◌, ℕ, List, [], ◌∷◌, map, String, string_bytes, Result, Ok}
use Rattle.std.specs.declared.alloc.Global.{Global}
use Rattle.bser_format.specs.Tree.{Tree, null, boolean, integer, real, bytes, text, array, object, Items, Entries, no_entries, entry, items_of}
use Rattle.bser_format.specs.Content.{Content, value}
use Rattle.bser_format.specs.declared.errors.Error.{Error}
use Rattle.bser_format.specs.Written.{array_tree, object_tree}
use Rattle.bser_format.specs.ValueTree.{IsValueTree}
use Rattle.bser_value.specs.declared.value.Value.{Value, fold-Value}
use Rattle.bser_value.specs.declared.value.Value.TheOpen.{Value-F}

-- the entries of a map, in its order
abbrev pub map_entries : List (String Global × Tree) → Entries
map_entries [] = no_entries
map_entries (e ∷ es) = entry (string_bytes e.0) e.1 (map_entries es)

-- one level, with each value inside already seen as its tree
abbrev pub tree_step : Value-F Tree → Tree
tree_step (Value-F.Array v) = array (items_of v.items)
tree_step (Value-F.Object m) = object (map_entries m.entries)
tree_step (Value-F.ByteString s) = bytes s
tree_step (Value-F.Integer v) = integer v
tree_step (Value-F.Real r) = real r
tree_step (Value-F.Bool v) = boolean v
tree_step Value-F.Null = null
tree_step (Value-F.Utf8String s) = text (string_bytes s)

-- the tree of a value
abbrev pub tree_of : Value → Tree
tree_of = fold-Value Tree tree_step

-- the trees of the items of an array
abbrev pub items_view : List Value → Items
items_view vs = items_of (map tree_of vs)

-- the trees of the entries of a map, in its order
abbrev pub entries_view : List (String Global × Value) → Entries
entries_view es = map_entries (map (λ e. (e.0, tree_of e.1)) es)

-- the array of these items, and the object of these entries
abbrev pub items_tree : List Value → Tree
items_tree vs = array (items_view vs)

abbrev pub entries_tree : List (String Global × Value) → Tree
entries_tree es = object (entries_view es)

-- the same as pairs of a key's bytes and a tree
abbrev pub entry_trees : List (String Global × Value) → List (List ℕ × Tree)
entry_trees es = map (λ e. (string_bytes e.0, tree_of e.1)) es

-- how the items of an array are written, and the entries of an object
abbrev pub items_meaning : List Value → Result Tree Error
items_meaning vs = array_tree (λ v. Ok (tree_of v)) vs

abbrev pub entries_meaning : List (String Global × Value) → Result Tree Error
entries_meaning es = object_tree string_bytes (λ v. Ok (tree_of v)) es

-- the content of a value is its tree
abbrev pub HoldsTree : Value → Content → Type 0
HoldsTree v c = c ≡ value (tree_of v)

-- what a `Value` that was read holds: its tree, which has keys in rising order, texts in UTF-8 and numbers in their ranges
pub record HoldsValue (v : Value) (c : Content) : Type 0 where
  pub same : HoldsTree v c
  pub tree : IsValueTree (tree_of v)
