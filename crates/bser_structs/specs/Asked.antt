-- The fields of a struct, as they are asked for.
use Rattle.std.specs.Prelude.{ℕ, List, [], ◌∷◌, Option, Some, None}
use Rattle.std.specs.Option.{is_some}
use Rattle.bser_format.specs.Asks.{Asks}
use Rattle.bser_format.specs.Asks as asks
use Rattle.bser_deserializer.specs.declared.field.Field.{Field}
use Rattle.bser_deserializer.specs.declared.field.Field.TheVariants.{Known, Unknown}
use Rattle.bser_types.specs.Slots.{StructField}

-- a field whose type asks for this
abbrev pub asked_field : Asks → StructField → asks.Field
asked_field A s = record { optional = is_some s.absent; type = A; found = is_some s.found }

-- each field, as its type asks for it
abbrev pub asked_fields : List Asks → List StructField → List asks.Field
asked_fields [] ss = []
asked_fields (A ∷ As) [] = []
asked_fields (A ∷ As) (s ∷ ss) = asked_field A s ∷ asked_fields As ss

-- the place of a field that is known
abbrev pub place_known : Field → Option ℕ
place_known (Known place) = Some place
place_known Unknown = None
