-- What is read of the bytes of a value at once.
use Rattle.std.specs.Prelude.{◌≡◌, ℕ, List, Option, Some, None}
use Rattle.bser_format.specs.Tree.{Tree, null, array, object, template, items_of, entries_of, rows_of, fields_of}
use Rattle.bser_format.specs.Expand.{expand, expand_fields}
use Rattle.bser_format.specs.Normal.{normal}
use Rattle.bser_format.specs.Named.{Reader, reads, many, text_of, entry_of, field_of, with_text_keys}
use Rattle.bser_format.specs.declared.errors.Kind.TheVariants.{MapKey}
use Rattle.bser_events.specs.Found.{value_rest, table_at, keys_at}
use Rattle.bser_bunser.specs.declared.prefix.Token.{Token}
use Rattle.bser_value.specs.ValueView.{tree_of}
use Rattle.bser_value.specs.declared.value.Value.{Value}

-- r reads what is before the rest, and this is meant by it
pub record ReadsAs {X : Type 0} (r : Reader X) (Meant : X → Type 0) (b rest : List ℕ) : Type 0 where
  pub it : X
  pub read : r b ≡ reads it rest
  pub meant : Meant it

-- the tree reads as the value
abbrev pub Means : Value → Tree → Type 0
Means v t = normal (expand t) ≡ Some (tree_of v)

-- the value is before the rest
abbrev pub ReadsValue : ℕ → List ℕ → Value → List ℕ → Type 0
ReadsValue levels b v rest = ReadsAs (with_text_keys levels) (Means v) b rest

-- the same behind its token
abbrev pub ReadsRest : ℕ → Token → List ℕ → Value → List ℕ → Type 0
ReadsRest levels token b v rest = ReadsAs (value_rest levels token) (Means v) b rest

-- the items of an array
abbrev pub ReadsArray : ℕ → ℕ → List ℕ → Value → List ℕ → Type 0
ReadsArray levels n b v rest = ReadsAs (many (with_text_keys levels) n) (λ ts. Means v (array (items_of ts))) b rest

-- the entries of an object
abbrev pub ReadsObject : ℕ → ℕ → List ℕ → Value → List ℕ → Type 0
ReadsObject levels n b v rest = ReadsAs (many (entry_of (text_of MapKey) (with_text_keys levels)) n) (λ es. Means v (object (entries_of es))) b rest

-- a template, behind its token
abbrev pub ReadsTable : ℕ → List ℕ → Value → List ℕ → Type 0
ReadsTable levels b v rest = ReadsAs (table_at levels) (Means v) b rest

-- the rows of a template with these keys
abbrev pub ReadsRows : ℕ → List (List ℕ) → ℕ → ℕ → List ℕ → Value → List ℕ → Type 0
ReadsRows levels ks w n b v rest = ReadsAs (many (many (field_of (with_text_keys levels)) w) n) (λ rs. Means v (template ks (rows_of rs))) b rest

-- the fields of one row
abbrev pub ReadsRow : ℕ → List (List ℕ) → ℕ → List ℕ → Value → List ℕ → Type 0
ReadsRow levels ks w b v rest = ReadsAs (many (field_of (with_text_keys levels)) w) (λ fs. normal (object (expand_fields ks (fields_of fs))) ≡ Some (tree_of v)) b rest

-- the same, whatever keys the names begin with
abbrev pub ReadsRowsOf : ℕ → List ℕ → ℕ → ℕ → List ℕ → Value → List ℕ → Type 0
ReadsRowsOf levels names w n b v rest =
    (ks : List (List ℕ)) (after : List ℕ) → keys_at w names ≡ reads ks after → ReadsRows levels ks w n b v rest

abbrev pub ReadsRowOf : ℕ → List ℕ → ℕ → List ℕ → Value → List ℕ → Type 0
ReadsRowOf levels names w b v rest =
    (ks : List (List ℕ)) (after : List ℕ) → keys_at w names ≡ reads ks after → ReadsRow levels ks w b v rest

-- a field, which is null where it is skipped
abbrev pub MeansField : Value → Option Tree → Type 0
MeansField v None = tree_of v ≡ null
MeansField v (Some t) = Means v t

abbrev pub ReadsField : ℕ → List ℕ → Value → List ℕ → Type 0
ReadsField levels b v rest = ReadsAs (field_of (with_text_keys levels)) (MeansField v) b rest
