-- A document that is reported to a builder.
use Rattle.std.specs.Prelude.{Bool, true, false}
use Rattle.bser_events.specs.Events as told
use Rattle.bser_events.specs.Events.{Event, events, TakesAll}
use Rattle.bser_events.specs.Places.{place_at}
use Rattle.bser_events.specs.declared.event.Place.{Place}
use Rattle.bser_format.specs.Tree.{Tree}
use Rattle.bser_document.specs.declared.document.Document.{Document}
use Rattle.bser_document.specs.DocumentView.{ViewsDocument}

-- of the tags of strings a text's alone is kept: it is that of the value
abbrev pub is_text_value : Event → Bool
is_text_value (told.text s) = true
is_text_value _ = false

-- a builder took an event at no place: from 0 to 0
abbrev pub TakesNowhere : {B : Type 0} → (B → Event → Place → B → Type 0) → B → Event → B → Type 0
TakesNowhere takes before e after = takes before e (place_at 0 0 (is_text_value e)) after

-- what was reported when it was read is reported again, each event at no place
abbrev pub Told : {B : Type 0} → (B → Event → Place → B → Type 0) → Document → B → B → Type 0
Told takes d before after = (t : Tree) → ViewsDocument d (events t) → TakesAll (TakesNowhere takes) before (events t) after
