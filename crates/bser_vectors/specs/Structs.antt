-- What the structs of the worked messages are read from, what they hold, and what names their refusals.
use Rattle.std.specs.Prelude.{[], ◌∷◌, List, ℕ, codes, Option, Some, option_map}
use Rattle.bser_format.specs.Content.{Content, Meaning}
use Rattle.bser_format.specs.ReadsHolders.{reads_vec}
use Rattle.bser_format.specs.ReadsScalars.{reads_signed, reads_unsigned, is_signed, is_unsigned}
use Rattle.bser_deserializer.specs.Askings.{asking_integer}
use Rattle.bser_deserializer.specs.Holds.{HoldsNumber, HoldsOption, HoldsSize}
use Rattle.bser_deserializer.specs.HoldsLists.{HoldsList, HoldsTuple}
use Rattle.bser_deserializer.specs.Reading.{Asking}
use Rattle.bser_types.specs.Askings.{asking_option, asking_vec}
use Rattle.bser_types.specs.Slots.{StructField, required, optional, reads_struct}
use Rattle.bser_structs.specs.Askings.{asking_struct}
use Rattle.bser_vectors.specs.declared.structs.FileInfo.{FileInfo}
use Rattle.bser_vectors.specs.declared.structs.Files.{Files}
use Rattle.bser_vectors.specs.declared.structs.TemplateRow.{TemplateRow}

-- the names of a file's fields
abbrev pub file_names : List (List ℕ)
file_names = codes "name" ∷ codes "size" ∷ []

abbrev pub file_fields : Meaning → List StructField
file_fields S = required S ∷ required (reads_unsigned 32) ∷ []

-- an object with a name and a size
abbrev pub reads_file : Meaning → Meaning
reads_file S = reads_struct file_names (file_fields S)

abbrev pub HoldsFile : {A : Type 0} → (A → Content → Type 0) → FileInfo A → Content → Type 0
HoldsFile holds v c = HoldsTuple (holds v.name ∷ HoldsSize v.size ∷ []) c

abbrev pub asking_file : {S : Meaning} → Option (Asking S) → Option (Asking (reads_file S))
asking_file {S = S} a = asking_struct file_names (file_fields S) (a, (Some (asking_integer (is_unsigned 32)), tt))

-- an object with a list of files
abbrev pub reads_files : Meaning → Meaning
reads_files S = reads_struct (codes "files" ∷ []) (required (reads_vec (reads_file S)) ∷ [])

abbrev pub HoldsFiles : {A : Type 0} → (A → Content → Type 0) → Files A → Content → Type 0
HoldsFiles holds v c = HoldsTuple (HoldsList (HoldsFile holds) v.files.items ∷ []) c

abbrev pub asking_files : {S : Meaning} → Option (Asking S) → Option (Asking (reads_files S))
asking_files {S = S} a =
    asking_struct (codes "files" ∷ []) (required (reads_vec (reads_file S)) ∷ [])
    (option_map asking_vec (asking_file a), tt)

-- the names of a row's fields
abbrev pub row_names : List (List ℕ)
row_names = codes "abc" ∷ codes "def" ∷ codes "ghi" ∷ []

abbrev pub row_fields : Meaning → List StructField
row_fields S = required (reads_signed 32) ∷ optional S ∷ optional (reads_signed 64) ∷ []

-- an object with a number, and a text and a number that may be absent
abbrev pub reads_row : Meaning → Meaning
reads_row S = reads_struct row_names (row_fields S)

abbrev pub HoldsRow : {A : Type 0} → (A → Content → Type 0) → TemplateRow A → Content → Type 0
HoldsRow holds v c = HoldsTuple (HoldsNumber v.abc ∷ HoldsOption holds v.def ∷ HoldsOption HoldsNumber v.ghi ∷ []) c

abbrev pub asking_row : {S : Meaning} → Option (Asking S) → Option (Asking (reads_row S))
asking_row {S = S} a =
    asking_struct row_names (row_fields S)
    (Some (asking_integer (is_signed 32)), (option_map asking_option a, (Some (asking_option (asking_integer (is_signed 64))), tt)))
