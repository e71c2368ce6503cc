-- The meanings of the types that hold others.
use Rattle.std.specs.Prelude.{ℕ, List, [], ◌∷◌, map, Option, Some, None, option_map, option_and_then}
use Rattle.bser_format.specs.Tree.{Tree, null, array, object, items, entries}
use Rattle.bser_format.specs.Expand.{key_tree}
use Rattle.bser_format.specs.Normal.{last_entries}
use Rattle.bser_format.specs.Content.{Content, nothing, just, list, pair, contents_of, Meaning, each_some}

-- `Option`: null is nothing
abbrev pub reads_option : Meaning → Meaning
reads_option T null = Some nothing
reads_option T t = option_map just (T t)

-- the contents of a list
abbrev pub list_of : List Content → Content
list_of cs = list (contents_of cs)

-- `Vec`
abbrev pub reads_vec : Meaning → Meaning
reads_vec T (array ts) = option_map list_of (each_some T (items ts))
reads_vec T _ = None

-- each tree by its own type, as many as there are types
abbrev pub reads_each : List Meaning → List Tree → Option (List Content)
reads_each [] [] = Some []
reads_each (T ∷ Ts) (t ∷ ts) = option_and_then (λ c. option_map (λ cs. c ∷ cs) (reads_each Ts ts)) (T t)
reads_each _ _ = None

-- a tuple of these types
abbrev pub reads_tuple : List Meaning → Meaning
reads_tuple Ts (array ts) = option_map list_of (reads_each Ts (items ts))
reads_tuple Ts _ = None

-- an entry by the types of keys and of values, with the key's bytes to order by
abbrev pub reads_entry : Meaning → Meaning → List ℕ × Tree → Option (List ℕ × Content)
reads_entry K V e = option_and_then (λ k. option_map (λ v. (e.0, pair k v)) (V e.1)) (K (key_tree e.0))

-- a map: pairs in rising byte order of keys, each key once with its last value
abbrev pub reads_map : Meaning → Meaning → Meaning
reads_map K V (object es) = option_map (λ m. list_of (map (λ e. e.1) (last_entries m))) (each_some (reads_entry K V) (entries es))
reads_map K V _ = None
