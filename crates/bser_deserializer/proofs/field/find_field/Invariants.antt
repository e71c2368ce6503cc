-- The names from here on decide.
use Rattle.std.proofs.Common.{◌≡◌, map, drop}
use Rattle.bser_deserializer.specs.Fields.{field_of, field_from}
use Rattle.bser_deserializer.proofs.field.find_field.Given as goal

abbrev pub invariant-loop-place : goal.invariant-loop-place
invariant-loop-place l = field_from l.place (drop l.place (map (λ r. r.now) l.names)) l.name ≡ field_of (map (λ r. r.now) l.names) l.name
