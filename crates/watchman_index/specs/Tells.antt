-- What an index can use of a message of the server, by its kind.
use Rattle.std.specs.Prelude.{◌≡◌, ◌≢◌, ◌⊎◌, ℕ, Bool, true, false, List, Option, Some, None}
use Rattle.std.specs.Option.{is_some}
use Rattle.bser_types.specs.declared.deserialize.Shape as shape
use Rattle.serde_bser.specs.Descriptions.{cause_of}
use Rattle.serde_bser.specs.Values.{Error}
use Rattle.watchman_types.specs.Kinds.{kind_of}
use Rattle.watchman_types.specs.Messages.{IsReadAs, IsUnread}
use Rattle.watchman_types.specs.declared.error_reply.ErrorReply.{ErrorReply}
use Rattle.watchman_types.specs.declared.header.Header.{Header}
use Rattle.watchman_types.specs.declared.kind.MessageKind.{MessageKind}
use Rattle.watchman_types.specs.declared.kind.MessageKind.TheVariants as kinds
use Rattle.watchman_types.specs.declared.kind.EventKind.TheVariants as events
use Rattle.watchman_types.specs.declared.query.QueryResult.{QueryResult}
use Rattle.watchman_types.specs.declared.subscription.Canceled.{«Canceled» as Ended}
use Rattle.watchman_types.specs.declared.subscription.FilesChanged.{FilesChanged}
use Rattle.watchman_types.specs.declared.subscription.Subscribed.{Subscribed}
use Rattle.watchman_types.specs.declared.watch.Clock as watch
use Rattle.watchman_index.specs.declared.listed.Listed.{Listed}
use Rattle.watchman_index.specs.declared.told.Told.{Told}
use Rattle.watchman_index.specs.declared.told.Told.TheVariants.{Files, Clock, ServerError, Canceled, Nothing}
use Rattle.watchman_index.specs.declared.told.Told.TheVariants as told
use Rattle.watchman_index.specs.declared.told.ContentError.{ContentError}
use Rattle.watchman_index.specs.declared.told.ContentError.TheVariants as unread
use Rattle.watchman_index.specs.Told.{IsOfQuery, IsOfSubscription}

-- what each message is read as
pub record Types : Type 1 where
  pub header : shape.Ghosts Header
  pub query : shape.Ghosts (QueryResult (List ℕ) Listed)
  pub changed : shape.Ghosts (FilesChanged (List ℕ) Listed)
  pub error : shape.Ghosts (ErrorReply (List ℕ))
  pub canceled : shape.Ghosts (Ended (List ℕ))
  pub subscribed : shape.Ghosts (Subscribed (List ℕ))
  pub clock : shape.Ghosts (watch.Clock (List ℕ))

-- the bytes begin with no message that the type reads
abbrev pub IsNone : {A : Type 0} → shape.Ghosts A → List ℕ → Type 0
IsNone {A} type bytes = (v : A) → IsReadAs type bytes v → ⊥

-- they begin with none that the type reads, for this reason; or there is no memory for its files
abbrev pub IsUnreadOrFull : {A : Type 0} → shape.Ghosts A → List ℕ → ContentError → Type 0
IsUnreadOrFull type bytes (unread.Message d) = IsUnread type bytes (cause_of d)
IsUnreadOrFull type bytes unread.OutOfMemory = Unit {0}

module _ (types : Types) (bytes : List ℕ) where
  -- they begin with an answer to `subscribe` that has this clock, or none
  abbrev pub IsSubscribed : Option (List ℕ) → Type 0
  IsSubscribed clock = (answer : Subscribed (List ℕ)) × IsReadAs types.subscribed bytes answer × (answer.clock ≡ clock)

  -- they begin with no answer to `subscribe` that has a clock
  abbrev pub IsNoSubscribed : Type 0
  IsNoSubscribed = IsSubscribed None ⊎ IsNone types.subscribed bytes

  -- an answer to a query gives its files
  abbrev pub TellsQuery : Told → Type 0
  TellsQuery (Files c) = (answer : QueryResult (List ℕ) Listed) × IsReadAs types.query bytes answer × IsOfQuery answer c
  TellsQuery _ = ⊥

  -- a message of a subscription gives its files
  abbrev pub TellsChanged : Told → Type 0
  TellsChanged (Files c) = (changed : FilesChanged (List ℕ) Listed) × IsReadAs types.changed bytes changed × IsOfSubscription changed c
  TellsChanged _ = ⊥

  -- an error of the server gives its text
  abbrev pub TellsError : Told → Type 0
  TellsError (ServerError e) = (reply : ErrorReply (List ℕ)) × IsReadAs types.error bytes reply × (reply.error ≡ e)
  TellsError _ = ⊥

  -- the end of a subscription gives its name
  abbrev pub TellsCanceled : Told → Type 0
  TellsCanceled (Canceled name) = (end : Ended (List ℕ)) × IsReadAs types.canceled bytes end × (end.subscription ≡ name)
  TellsCanceled _ = ⊥

  -- a message without files gives the clock that it has
  abbrev pub TellsClock : Told → Type 0
  TellsClock (told.Subscribed c) = IsSubscribed (Some c)
  TellsClock (Clock c) = IsNoSubscribed × ((v : watch.Clock (List ℕ)) × IsReadAs types.clock bytes v × (v.clock ≡ c))
  TellsClock Nothing = IsNoSubscribed × IsNone types.clock bytes
  TellsClock _ = ⊥

  -- a message of this kind, with files or without, gives this
  abbrev pub TellsAs : MessageKind → Bool → Told → Type 0
  TellsAs kinds.Answer true t = TellsQuery t
  TellsAs kinds.Answer false t = TellsClock t
  TellsAs kinds.Error _ t = TellsError t
  TellsAs (kinds.Event events.Files) _ t = TellsChanged t
  TellsAs (kinds.Event events.Canceled) _ t = TellsCanceled t
  TellsAs (kinds.Event _) _ t = TellsClock t

  -- the message gives this
  abbrev pub Tells : Told → Type 0
  Tells t = (h : Header) × IsReadAs types.header bytes h × TellsAs (kind_of h) (is_some h.files) t

  -- a message of this kind, with files or without, is not read as its type
  abbrev pub IsUnreadAs : MessageKind → Bool → Error → Type 0
  IsUnreadAs kinds.Answer true e = IsUnread types.query bytes e
  IsUnreadAs kinds.Answer false e = ⊥
  IsUnreadAs kinds.Error _ e = IsUnread types.error bytes e
  IsUnreadAs (kinds.Event events.Files) _ e = IsUnread types.changed bytes e
  IsUnreadAs (kinds.Event events.Canceled) _ e = IsUnread types.canceled bytes e
  IsUnreadAs (kinds.Event _) _ e = ⊥

  -- why it is not known what the message gives: it is not read as a header, or not as the type of
  -- its kind; or there is no memory for what one that is no error gives
  abbrev pub Untold : ContentError → Type 0
  Untold (unread.Message d) =
      IsUnread types.header bytes (cause_of d)
      ⊎ ((h : Header) × IsReadAs types.header bytes h × IsUnreadAs (kind_of h) (is_some h.files) (cause_of d))
  Untold unread.OutOfMemory = (h : Header) × IsReadAs types.header bytes h × (kind_of h ≢ kinds.Error)
