-- The names of a struct's fields.
use Rattle.std.specs.Prelude.{◌≡◌, ℕ, suc, List, [], ◌∷◌, if◌then◌else◌}
use Rattle.std.specs.Str.{bytes_eq}
use Rattle.bser_format.specs.Content.{Content, byte_list}
use Rattle.bser_deserializer.specs.declared.field.Field.{Field}
use Rattle.bser_deserializer.specs.declared.field.Field.TheVariants.{Known, Unknown}

-- the first place of the name at or after this one
abbrev pub field_from : ℕ → List (List ℕ) → List ℕ → Field
field_from place [] name = Unknown
field_from place (known ∷ names) name = if bytes_eq known name then Known place else field_from (suc place) names name

-- the first place of the name
abbrev pub field_of : List (List ℕ) → List ℕ → Field
field_of = field_from 0

-- the field of the name that was read
abbrev pub HoldsField : List (List ℕ) → Field → Content → Type 0
HoldsField names f c = (name : List ℕ) × (c ≡ byte_list name) × (f ≡ field_of names name)
