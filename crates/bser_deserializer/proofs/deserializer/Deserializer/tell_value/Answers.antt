-- A value is told.
use Rattle.bser_events.specs.Places.{Placed}
use Rattle.bser_deserializer.proofs.Told.{value_told}
use Rattle.bser_deserializer.proofs.deserializer.Deserializer.tell_value.Goals as goal

pub returns-clause-found : goal.returns-clause-found
returns-clause-found g c =
    rw (← c.self.view_is)
    (value_told (Placed g.B.Builder.takes) c.self.inside.levels c.self.inside.bunser.window c.read_value.new.bunser.window (c.self.inside.bunser.window, c.args.builder.now) (c.read_value.new.bunser.window, c.read_value.new.builder) c.in_ok-read_value.ensures.found)
