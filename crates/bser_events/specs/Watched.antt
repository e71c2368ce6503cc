-- A builder that is watched.
use Rattle.std.specs.Prelude.{Option}
use Rattle.bser_events.specs.declared.builder.Builder as builder
use Rattle.bser_events.specs.declared.event.Place.{Place}
use Rattle.bser_events.specs.declared.watched.WatchedBuilder.{WatchedBuilder}

-- the builder
abbrev pub builder_of : {B : Type 0} {g : builder.Ghosts B} → WatchedBuilder B g → B
builder_of w = w.builder

-- the place of the event at which it wanted no more
abbrev pub asked_at : {B : Type 0} {g : builder.Ghosts B} → WatchedBuilder B g → Option Place
asked_at w = w.asked
