-- Which message it is, by its header.
use Rattle.std.specs.Prelude.{Bool, false, Option, Some, None, if◌then◌else◌}
use Rattle.std.specs.Option.{is_some}
use Rattle.watchman_types.specs.declared.header.Header.{Header}
use Rattle.watchman_types.specs.declared.kind.MessageKind.{MessageKind}
use Rattle.watchman_types.specs.declared.kind.MessageKind.TheVariants.{Answer, Error, Event}
use Rattle.watchman_types.specs.declared.kind.EventKind.{EventKind}
use Rattle.watchman_types.specs.declared.kind.EventKind.TheVariants.{Log, StateEntered, StateLeft, Canceled, Files, Other}

-- a part that is there, and true
abbrev pub is_true : Option Bool → Bool
is_true (Some b) = b
is_true None = false

-- which event it is: the first of these that it has
abbrev pub event_kind_of : Header → EventKind
event_kind_of h =
    if is_some h.log then Log
    else if is_some h.state_enter then StateEntered
    else if is_some h.state_leave then StateLeft
    else if is_true h.canceled then Canceled
    else if is_some h.files then Files
    else Other

-- an event where `unilateral` is true, else an error where there is one, else the answer
abbrev pub kind_of : Header → MessageKind
kind_of h =
    if is_true h.unilateral then Event (event_kind_of h)
    else if is_some h.error then Error
    else Answer
