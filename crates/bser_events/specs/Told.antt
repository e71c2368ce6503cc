-- What an event reports.
use Rattle.bser_events.specs.Events as events
use Rattle.bser_events.specs.declared.event.Event.{Event}
use Rattle.bser_events.specs.declared.event.Event.TheVariants.{Null, Bool, Int, Real, Bytes, Text, Array, Object, Key, Template, Rows, Skip, Close}

-- an event, by what its bytes are
abbrev pub told : Event → events.Event
told Null = events.null
told (Bool v) = events.boolean v
told (Int v) = events.integer v
told (Real r) = events.real r
told (Bytes s) = events.bytes s.now
told (Text s) = events.text s.now
told (Array n) = events.open_array n
told (Object n) = events.open_object n
told (Key s) = events.key s.now
told (Template n) = events.open_template n
told (Rows n) = events.open_rows n
told Skip = events.skip
told Close = events.close
