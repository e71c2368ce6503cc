-- What a request and an event are in all, of what each call of a client does.
use Rattle.std.specs.Prelude.{◌≡◌, ◌⊎◌, ◌||◌, ◌-◌, ◌≤◌, if◌then◌else◌, ℕ, Bool, false, [], List, Option, Some, None, Result, Ok, Err}
use Rattle.std.specs.Io.KnownBytes.{IsAtEnd}
use Rattle.bser_deserializer.specs.declared.deserializer.TheConstants.{LEVELS}
use Rattle.bser_format.specs.Tree.{Tree}
use Rattle.bser_format.specs.declared.errors.Error.{Error}
use Rattle.bser_frames.specs.Messages.{FrameRefused}
use Rattle.bser_messages.specs.Descriptions.{cause_of}
use Rattle.bser_messages.specs.Messages.{BeginsWith}
use Rattle.bser_ser.specs.Message.{Wrote}
use Rattle.bser_ser.specs.Stopped.{Tells}
use Rattle.bser_types.specs.declared.deserialize.Shape as shape
use Rattle.watchman_client.specs.Failures.{ends, fails, Hinders, IsToldError, Unsent}
use Rattle.watchman_client.specs.Kinds.{TellsNoError}
use Rattle.watchman_client.specs.Steps.{Asks, GivesAnswer, GivesNothing, GivesUnsolicited}
use Rattle.watchman_client.specs.Views.{Connection, StaysWithin, view_of}
use Rattle.watchman_client.specs.declared.errors.ClientError.{ClientError}
use Rattle.watchman_client.specs.declared.errors.ClientError.TheVariants.{Answer}

-- ---- what was given, read as a value that borrows nothing

-- the message reads as the value, and reports no error
pub record ReadsOwned {A : Type 0} (type : shape.Ghosts A) (message : List ℕ) (v : A) : Type 0 where
  pub found : BeginsWith LEVELS type.reads type.holds message v
  pub none : TellsNoError message

-- the message reports an error, or is refused as one of the type, or memory ran out
abbrev pub UnreadOwned : {A : Type 0} → shape.Ghosts A → List ℕ → ClientError → Type 0
UnreadOwned type message (Answer e) = FrameRefused LEVELS type message (cause_of e.description)
UnreadOwned type message e = IsToldError e message

-- ---- items

-- whether no message comes behind the item
abbrev pub ends_with : {A : Type 0} → Result A ClientError → Bool
ends_with (Ok v) = false
ends_with (Err e) = ends e

-- of so many items at most, how many may come behind this one: none where it ends all
abbrev pub left_behind : {A : Type 0} → Result A ClientError → ℕ → ℕ
left_behind item most = if ends_with item then 0 else most - 1

module _ {S W : Type 0} (remaining : S → Option (List ℕ)) where
  -- ---- a request

  module _ (sink : Tells W) (m : Result Tree Error) where
    -- the request's message was sent, and its answer is outstanding
    pub record Sends (old new : Connection S W) : Type 0 where
      pub asked : Asks (view_of remaining old) (view_of remaining new)
      pub sent : Wrote sink m old.writer new.writer

    -- the request's message was sent, and then its answer was given
    pub record Exchanges (old new : Connection S W) : Type 0 where
      pub asked : Connection S W
      pub sends : Sends old asked
      pub given : GivesAnswer (view_of remaining asked) (view_of remaining new)
      pub writer : new.writer ≡ asked.writer

    -- the request's message was sent, and its answer was not given
    pub record Unanswered (old new : Connection S W) (e : ClientError) : Type 0 where
      pub asked : Connection S W
      pub sends : Sends old asked
      pub nothing : GivesNothing (view_of remaining asked) (view_of remaining new)
      pub reason : Hinders remaining e new
      pub failed : new.failed ≡ fails e
      pub writer : new.writer ≡ asked.writer

    -- why a request has no value: it was not sent, or not answered, or its answer is not read
    abbrev pub Unmet : {A : Type 0} → shape.Ghosts A → Connection S W → Connection S W → ClientError → Type 0
    Unmet type old new e =
        Unsent remaining sink m old new e
        ⊎ Unanswered old new e
        ⊎ (Exchanges old new × UnreadOwned type new.message e)

  -- ---- an event

  -- the writer and the bounds are as they were, and what is kept is within these
  pub record Stays (old new : Connection S W) : Type 0 where
    pub writer : new.writer ≡ old.writer
    pub within : StaysWithin old new

  -- no message was given
  pub record Hindered (old new : Connection S W) (e : ClientError) : Type 0 where
    pub nothing : GivesNothing (view_of remaining old) (view_of remaining new)
    pub reason : Hinders remaining e new
    pub failed : new.failed ≡ (old.failed || fails e)

  -- by what a message is read as, and why it is not read
  module _ {A : Type 0} (reads : List ℕ → A → Type 0) (unreads : List ℕ → ClientError → Type 0) where
    -- the next unsolicited message was given, and reads as the value; or none is left
    abbrev pub GivesEvent : Connection S W → Connection S W → Option A → Type 0
    GivesEvent old new (Some v) =
        GivesUnsolicited (view_of remaining old) (view_of remaining new) × reads new.message v
    GivesEvent old new None =
        GivesNothing (view_of remaining old) (view_of remaining new) × IsAtEnd (view_of remaining new).left × (new.kept ≡ [])

    -- why there is no event: no message was given, or the one that was given is not read
    abbrev pub NoEvent : Connection S W → Connection S W → ClientError → Type 0
    NoEvent old new e =
        Hindered old new e
        ⊎ (GivesUnsolicited (view_of remaining old) (view_of remaining new) × unreads new.message e)

    -- ---- events one after the other

    -- what comes of the next call is an event, or why there is none
    abbrev pub IsItem : Connection S W → Connection S W → Result A ClientError → Type 0
    IsItem old new (Ok v) = GivesEvent old new (Some v) × Stays old new
    IsItem old new (Err e) = NoEvent old new e × Stays old new

    -- the next item, of at most so many, and how many may come behind it. No item comes where as many
    -- came, or where no message is left
    abbrev pub GivesItem : ℕ → ℕ → Connection S W → Connection S W → Option (Result A ClientError) → Type 0
    GivesItem most left old new (Some item) =
        IsItem old new item × (1 ≤ most) × (left ≡ left_behind item most)
    GivesItem most left old new None =
        (left ≡ most) × (((most ≡ 0) × (new ≡ old)) ⊎ (GivesEvent old new None × Stays old new))
