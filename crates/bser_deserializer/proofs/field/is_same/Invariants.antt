-- The bytes before decide with those from here on.
use Rattle.std.proofs.Common.{◌≡◌, drop}
use Rattle.std.specs.Prelude.{◌&&◌}
use Rattle.std.specs.Str.{bytes_eq}
use Rattle.bser_deserializer.proofs.field.is_same.Given as goal

abbrev pub invariant-loop-place : goal.invariant-loop-place
invariant-loop-place l = (l.same && bytes_eq (drop l.place l.known) (drop l.place l.name)) ≡ bytes_eq l.known l.name
