-- Which step of all calls each call of a client is.
use Rattle.std.specs.Prelude.{◌⊎◌, Bool, true, false, ℕ, List, Option, Result, Ok, Err}
use Rattle.bser_format.specs.Canonical.{canonical_message}
use Rattle.bser_format.specs.Tree.{Tree}
use Rattle.bser_format.specs.declared.errors.Error.{Error}
use Rattle.bser_source.specs.declared.device.Sink as sink
use Rattle.watchman_client.specs.Steps.{IsStep, State, Step, broke, idle, sent, told}
use Rattle.watchman_client.specs.Views.{Connection, view_of}

-- a client's view, and its writer
abbrev pub state_of : {S W : Type 0} → (S → Option (List ℕ)) → Connection S W → State W
state_of remaining c = record { view = view_of remaining c; writer = c.writer }

module _ {S W : Type 0} (remaining : S → Option (List ℕ)) (writer : sink.Ghosts W) (old new : Connection S W) where
  -- the call was this step
  abbrev pub Makes : Step → Type 0
  Makes s = IsStep writer.took (state_of remaining old) s (state_of remaining new)

  -- the message of the request was sent
  abbrev pub MakesSent : Result Tree Error → Type 0
  MakesSent (Ok t) = Makes (sent (canonical_message t))
  MakesSent (Err e) = ⊥

  -- nothing was sent, or the message of the request broke off
  abbrev pub MakesUnsent : Result Tree Error → Type 0
  MakesUnsent (Ok t) = Makes idle ⊎ Makes (broke (canonical_message t))
  MakesUnsent (Err e) = Makes idle

  -- an unsolicited message was given, or none
  abbrev pub MakesTold : Bool → Type 0
  MakesTold true = Makes (told new.message)
  MakesTold false = Makes idle
