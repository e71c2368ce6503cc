-- The entries of an object, as which the fields of a struct are written.
use Rattle.std.specs.Prelude.{◌≡◌, ℕ, ◌<◌, ◌≤◌, ◌^◌, List, [], ◌∷◌, length, Option, Some, None, Result, Ok, ◌⊎◌}
use Rattle.std.specs.List.{AllByRecursion}
use Rattle.bser_format.specs.Tree.{Tree}
use Rattle.bser_format.specs.declared.errors.Error.{Error}
use Rattle.bser_format.specs.Written.{struct_tree, variant_tree, within_i64}
use Rattle.bser_ser.specs.Ends.{field_text, then, CanBeWritten, Ends, Stops, text_of}
use Rattle.bser_ser.specs.Stopped.{Tells}
use Rattle.bser_ser.specs.declared.serializer.Serializer.{Serializer}

-- the text of all entries, or why the first without a tree has none
abbrev pub entries_text : List (List ℕ × Result Tree Error) → Result (List ℕ) Error
entries_text [] = Ok []
entries_text (e ∷ es) = then (field_text e.0 e.1) (entries_text es)

-- no key is longer than an i64 counts, and each value can be written
abbrev pub EntriesCanBeWritten : List (List ℕ × Result Tree Error) → Type 0
EntriesCanBeWritten es = AllByRecursion (λ e. (length e.0 < 2 ^ 63) × CanBeWritten e.1) es

-- the object of these entries, which are too many where there are more than an i64 counts
abbrev pub entries_tree : List (List ℕ × Result Tree Error) → Result Tree Error
entries_tree es = within_i64 (length es) (struct_tree es)

-- the entry of a value, or none where there is no value
abbrev pub given_entry : {A : Type 0} → List ℕ → (A → Result Tree Error) → Option A → List (List ℕ × Result Tree Error)
given_entry name tree None = []
given_entry name tree (Some x) = (name, tree x) ∷ []

-- a count of n, which may be any above the greatest i64 where n is
abbrev pub IsCount : ℕ → ℕ → Type 0
IsCount n count = (count ≡ n) ⊎ ((2 ^ 63 ≤ count) × (2 ^ 63 ≤ n))

-- a variant of this name, with the object of these entries
abbrev pub fields_variant : List ℕ → List (List ℕ × Result Tree Error) → Result Tree Error
fields_variant name es = variant_tree name (entries_tree es)

-- ---- what the calls answer

-- all entries were put
abbrev pub EntriesEnd : {S : Type 0} → Tells S → List (List ℕ × Result Tree Error) → Serializer S → Serializer S → Type 0
EntriesEnd sink es old new = Ends sink (entries_text es) old new

-- an entry gives an error, after some were put
abbrev pub EntriesStop : {S : Type 0} → Tells S → List (List ℕ × Result Tree Error) → Serializer S → Serializer S → Error → Type 0
EntriesStop sink es old new = Stops sink (entries_text es) old new

-- the object of these entries was put
abbrev pub ObjectEnds : {S : Type 0} → Tells S → List (List ℕ × Result Tree Error) → Serializer S → Serializer S → Type 0
ObjectEnds sink es old new = Ends sink (text_of (entries_tree es)) old new

-- the object of these entries gives an error, after a part of it was put
abbrev pub ObjectStops : {S : Type 0} → Tells S → List (List ℕ × Result Tree Error) → Serializer S → Serializer S → Error → Type 0
ObjectStops sink es old new = Stops sink (text_of (entries_tree es)) old new

-- a variant of this name was put, with the value of this tree
abbrev pub VariantEnds : {S : Type 0} → Tells S → List ℕ → Result Tree Error → Serializer S → Serializer S → Type 0
VariantEnds sink name m old new = Ends sink (text_of (variant_tree name m)) old new

-- such a variant gives an error, after a part of it was put
abbrev pub VariantStops : {S : Type 0} → Tells S → List ℕ → Result Tree Error → Serializer S → Serializer S → Error → Type 0
VariantStops sink name m old new = Stops sink (text_of (variant_tree name m)) old new

-- a variant of this name was put, with the object of these entries
abbrev pub FieldsEnd : {S : Type 0} → Tells S → List ℕ → List (List ℕ × Result Tree Error) → Serializer S → Serializer S → Type 0
FieldsEnd sink name es old new = Ends sink (text_of (fields_variant name es)) old new

-- such a variant gives an error, after a part of it was put
abbrev pub FieldsStop : {S : Type 0} → Tells S → List ℕ → List (List ℕ × Result Tree Error) → Serializer S → Serializer S → Error → Type 0
FieldsStop sink name es old new = Stops sink (text_of (fields_variant name es)) old new
