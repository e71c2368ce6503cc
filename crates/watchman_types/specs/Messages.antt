-- What a message of the server is read as, by its kind.
use Rattle.std.specs.Prelude.{◌≡◌, ℕ, List, Ok, Err}
use Rattle.serde_bser.specs.Messages.{BeginsWith, SliceRefused}
use Rattle.serde_bser.specs.Values.{Error}
use Rattle.bser_deserializer.specs.declared.deserializer.TheConstants.{LEVELS}
use Rattle.bser_types.specs.declared.deserialize.Shape as shape
use Rattle.watchman_types.specs.Kinds.{kind_of}
use Rattle.watchman_types.specs.declared.error_reply.ErrorReply.{ErrorReply}
use Rattle.watchman_types.specs.declared.header.Header.{Header}
use Rattle.watchman_types.specs.declared.kind.MessageKind.{MessageKind}
use Rattle.watchman_types.specs.declared.kind.MessageKind.TheVariants as kinds
use Rattle.watchman_types.specs.declared.kind.EventKind.{EventKind}
use Rattle.watchman_types.specs.declared.kind.EventKind.TheVariants as events
use Rattle.watchman_types.specs.declared.log.Log as log
use Rattle.watchman_types.specs.declared.state.StateEntered as entered
use Rattle.watchman_types.specs.declared.state.StateLeft as left
use Rattle.watchman_types.specs.declared.subscription.Canceled as canceled
use Rattle.watchman_types.specs.declared.subscription.FilesChanged as files
use Rattle.watchman_types.specs.declared.message.Event as event
use Rattle.watchman_types.specs.declared.message.Event.TheVariants.{Log, StateEntered, StateLeft, Canceled, Files, Other}
use Rattle.watchman_types.specs.declared.message.Message as message
use Rattle.watchman_types.specs.declared.message.Message.TheVariants.{Answer, Event}

-- ---- one type

-- the bytes begin with a message that the type reads as v
abbrev pub IsReadAs : {A : Type 0} → shape.Ghosts A → List ℕ → A → Type 0
IsReadAs type bytes v = BeginsWith LEVELS type.reads type.holds bytes v

-- they begin with none that the type reads, and this is the error
abbrev pub IsUnread : {A : Type 0} → shape.Ghosts A → List ℕ → Error → Type 0
IsUnread type bytes e = SliceRefused LEVELS type bytes e

-- ---- kinds

-- the bytes begin with a message of this kind
abbrev pub IsOfKind : shape.Ghosts Header → List ℕ → MessageKind → Type 0
IsOfKind header bytes kind = (h : Header) × IsReadAs header bytes h × (kind_of h ≡ kind)

-- the kind of an event
abbrev pub kind_of_event : {S F : Type 0} → event.Event S F → EventKind
kind_of_event (Log _) = events.Log
kind_of_event (StateEntered _) = events.StateEntered
kind_of_event (StateLeft _) = events.StateLeft
kind_of_event (Canceled _) = events.Canceled
kind_of_event (Files _) = events.Files
kind_of_event Other = events.Other

-- the kind of a message
abbrev pub kind_of_message : {S F T : Type 0} → message.Message S F T → MessageKind
kind_of_message (Answer (Ok _)) = kinds.Answer
kind_of_message (Answer (Err _)) = kinds.Error
kind_of_message (Event e) = kinds.Event (kind_of_event e)

-- ---- events

-- what each event is read as
pub record EventTypes (S F : Type 0) : Type 1 where
  pub log : shape.Ghosts (log.Log S)
  pub entered : shape.Ghosts (entered.StateEntered S)
  pub left : shape.Ghosts (left.StateLeft S)
  pub canceled : shape.Ghosts (canceled.Canceled S)
  pub files : shape.Ghosts (files.FilesChanged S F)

-- the bytes begin with a message that is read as this event
abbrev pub IsEvent : {S F : Type 0} → EventTypes S F → List ℕ → event.Event S F → Type 0
IsEvent types bytes (Log v) = IsReadAs types.log bytes v
IsEvent types bytes (StateEntered v) = IsReadAs types.entered bytes v
IsEvent types bytes (StateLeft v) = IsReadAs types.left bytes v
IsEvent types bytes (Canceled v) = IsReadAs types.canceled bytes v
IsEvent types bytes (Files v) = IsReadAs types.files bytes v
IsEvent types bytes Other = Unit {0}

-- ---- messages

-- the bytes begin with a message that is read as this one
abbrev pub IsMessage : {S F T : Type 0} → EventTypes S F → shape.Ghosts T
    → shape.Ghosts (ErrorReply S) → List ℕ → message.Message S F T → Type 0
IsMessage types answer error bytes (Answer (Ok v)) = IsReadAs answer bytes v
IsMessage types answer error bytes (Answer (Err v)) = IsReadAs error bytes v
IsMessage types answer error bytes (Event v) = IsEvent types bytes v
