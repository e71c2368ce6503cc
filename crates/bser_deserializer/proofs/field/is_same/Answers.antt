use Rattle.bser_deserializer.proofs.FieldNames.{other_lengths}
use Rattle.bser_deserializer.proofs.field.is_same.Goals as goal

pub returns-then-known-name : goal.returns-then-known-name
returns-then-known-name c = other_lengths c.args.known.now c.args.name.now c.if-known-name.true
