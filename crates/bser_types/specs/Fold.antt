-- Objects that are read entry by entry, as structs are.
use Rattle.std.specs.Prelude.{ℕ, true, List, [], ◌∷◌, Option, Some, None, option_and_then, if◌then◌else◌}
use Rattle.std.specs.Str.{is_utf8}
use Rattle.bser_format.specs.Tree.{Tree, object, entries}
use Rattle.bser_format.specs.Content.{Content, Meaning}
pub use Rattle.bser_format.specs.Structs.{read_once}
use Rattle.bser_deserializer.specs.Reading.{Needs}
use Rattle.bser_deserializer.specs.Fields.{field_of}
use Rattle.bser_deserializer.specs.declared.field.Field.{Field}

-- what the entries make of a, each by a step that may be an error
abbrev pub folds : {A : Type 0} → (A → List ℕ → Tree → Option A) → A → List (List ℕ × Tree) → Option A
folds step a [] = Some a
folds step a (e ∷ es) = option_and_then (λ b. folds step b es) (step a e.0 e.1)

-- what the entries that are left come to, after what was read came to a
abbrev pub comes_to : {A : Type 0} → (A → List ℕ → Tree → Option A) → (A → Option Content) → A → List (List ℕ × Tree) → Option Content
comes_to step finish a es = option_and_then finish (folds step a es)

-- an object that is read entry by entry
abbrev pub object_of : {A : Type 0} → (A → List ℕ → Tree → Option A) → A → (A → Option Content) → Meaning
object_of step start finish (object es) = comes_to step finish start (entries es)
object_of step start finish _ = None

-- a step by the place of the entry's name; a name that is not UTF-8 is an error
abbrev pub step_by_name : {A : Type 0} → List (List ℕ) → (A → Field → Tree → Option A) → A → List ℕ → Tree → Option A
step_by_name names step a name t = if is_utf8 name then step a (field_of names name) t else None

-- a struct of fields with these names
abbrev pub struct_of : {A : Type 0} → List (List ℕ) → (A → Field → Tree → Option A) → A → (A → Option Content) → Meaning
struct_of names step = object_of (step_by_name names step)

-- what two types need together, and the names of fields, which are copied
abbrev pub either : Needs → Needs → Needs
either a b = record { lent = if a.lent then true else b.lent; memory = if a.memory then true else b.memory; keys = if a.keys then true else b.keys; copied = true }
