-- What a message is as an event of one kind.
use Rattle.std.specs.Prelude.{◌≡◌, ◌⊎◌, ℕ, List}
use Rattle.bser_types.specs.declared.deserialize.Shape as shape
use Rattle.watchman_client.specs.Failures.{Unread}
use Rattle.watchman_client.specs.Requests.{ReadsOwned, UnreadOwned}
use Rattle.watchman_client.specs.declared.errors.ClientError.{ClientError}
use Rattle.watchman_types.specs.Kinds.{event_kind_of}
use Rattle.watchman_types.specs.Messages.{EventTypes, IsEvent, kind_of_event}
use Rattle.watchman_types.specs.declared.header.Header.{Header}
use Rattle.watchman_types.specs.declared.kind.EventKind.{EventKind}
use Rattle.watchman_types.specs.declared.kind.EventKind.TheVariants.{Log, StateEntered, StateLeft, Canceled, Files, Other}
use Rattle.watchman_types.specs.declared.message.Event.{Event}

-- the message is not read as an event of this kind
abbrev pub UnreadKind : {T F : Type 0} → EventTypes T F → EventKind → List ℕ → ClientError → Type 0
UnreadKind types Log message e = UnreadOwned types.log message e
UnreadKind types StateEntered message e = UnreadOwned types.entered message e
UnreadKind types StateLeft message e = UnreadOwned types.left message e
UnreadKind types Canceled message e = UnreadOwned types.canceled message e
UnreadKind types Files message e = UnreadOwned types.files message e
UnreadKind types Other message e = ⊥

module _ {T F : Type 0} (header : shape.Ghosts Header) (types : EventTypes T F) where
  -- the message reads as this event, of the kind that its header gives
  abbrev pub ReadsEvent : List ℕ → Event T F → Type 0
  ReadsEvent message event = (h : Header) × ReadsOwned header message h
      × (kind_of_event event ≡ event_kind_of h) × IsEvent types message event

  -- the message is not read as a header, or not as an event of the kind that its header gives
  abbrev pub UnreadEvent : List ℕ → ClientError → Type 0
  UnreadEvent message e = Unread header message e
      ⊎ ((h : Header) × ReadsOwned header message h × UnreadKind types (event_kind_of h) message e)
