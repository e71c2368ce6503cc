-- Why a message of the server is not read, by its kind.
use Rattle.std.specs.Prelude.{◌⊎◌, ℕ, List}
use Rattle.serde_bser.specs.Values.{Error}
use Rattle.bser_types.specs.declared.deserialize.Shape as shape
use Rattle.watchman_types.specs.Kinds.{kind_of}
use Rattle.watchman_types.specs.Messages.{EventTypes, IsReadAs, IsUnread}
use Rattle.watchman_types.specs.declared.error_reply.ErrorReply.{ErrorReply}
use Rattle.watchman_types.specs.declared.header.Header.{Header}
use Rattle.watchman_types.specs.declared.kind.MessageKind.{MessageKind}
use Rattle.watchman_types.specs.declared.kind.MessageKind.TheVariants as kinds
use Rattle.watchman_types.specs.declared.kind.EventKind.{EventKind}
use Rattle.watchman_types.specs.declared.kind.EventKind.TheVariants.{Log, StateEntered, StateLeft, Canceled, Files, Other}

-- the bytes begin with no event of this kind, and this is the error
abbrev pub RefusesEvent : {S F : Type 0} → EventTypes S F → EventKind → List ℕ → Error → Type 0
RefusesEvent types Log bytes e = IsUnread types.log bytes e
RefusesEvent types StateEntered bytes e = IsUnread types.entered bytes e
RefusesEvent types StateLeft bytes e = IsUnread types.left bytes e
RefusesEvent types Canceled bytes e = IsUnread types.canceled bytes e
RefusesEvent types Files bytes e = IsUnread types.files bytes e
RefusesEvent types Other bytes e = ⊥

-- the bytes begin with no message of this kind, and this is the error
abbrev pub RefusesKind : {S F T : Type 0} → EventTypes S F → shape.Ghosts T
    → shape.Ghosts (ErrorReply S) → MessageKind → List ℕ → Error → Type 0
RefusesKind types answer error kinds.Answer bytes e = IsUnread answer bytes e
RefusesKind types answer error kinds.Error bytes e = IsUnread error bytes e
RefusesKind types answer error (kinds.Event kind) bytes e = RefusesEvent types kind bytes e

-- the bytes begin with no header, or with one of a kind of which they have no message
abbrev pub RefusesMessage : {S F T : Type 0} → shape.Ghosts Header → EventTypes S F → shape.Ghosts T
    → shape.Ghosts (ErrorReply S) → List ℕ → Error → Type 0
RefusesMessage header types answer error bytes e =
    IsUnread header bytes e
    ⊎ ((h : Header) × IsReadAs header bytes h × RefusesKind types answer error (kind_of h) bytes e)
