-- The place of the key that is due.
use Rattle.std.proofs.Common.{refl}
use Rattle.bser_deserializer.proofs.cursor.DeserializerCursor.due.Goals as goal

pub returns : goal.returns
returns g c = rw (← c.self.view_is) (record { place = c.self.inside.place; due = refl })
