-- What callers see of what reads the messages of a reader.
use Rattle.std.specs.Prelude.{◌≡◌, ℕ, Bool, true, false, Option}
use Rattle.bser_format.specs.declared.errors.Error.{Error}
use Rattle.bser_format.specs.declared.errors.Error.TheVariants.{DeReaderError}
use Rattle.bser_format.specs.declared.errors.ReadCause.TheVariants.{Failed}
use Rattle.bser_source.specs.Reader.{io_reader}
use Rattle.bser_source.specs.declared.device.Source as source
use Rattle.bser_types.specs.declared.deserialize.Shape as shape
use Rattle.bser_messages.specs.declared.limits.Limits.{Limits}
use Rattle.bser_messages.specs.Streams.{NextRead, NextRefused, counts_message}
use Rattle.bser_messages.specs.declared.reader_messages.ReaderMessages.{ReaderMessages}

-- the limits of each message
abbrev pub reader_limits : {S : Type 0} → ReaderMessages S → Limits
reader_limits s = s.limits

-- the reader itself
abbrev pub reader_of : {S : Type 0} → ReaderMessages S → S
reader_of s = io_reader s.read

-- how many messages were taken
abbrev pub reader_taken : {S : Type 0} → ReaderMessages S → ℕ
reader_taken s = s.taken

-- whether a call failed
abbrev pub reader_failed : {S : Type 0} → ReaderMessages S → Bool
reader_failed s = s.failed

-- an earlier error is the reason, and the reader was not called
pub record RefusesAgain {S : Type 0} (e : Error) (old new : ReaderMessages S) : Type 0 where
  pub name : e ≡ DeReaderError Failed
  pub reader : reader_of new ≡ reader_of old

-- ---- what the next message answers

-- the next message was given, or nothing was left
abbrev pub Gives : {A S : Type 0} → shape.Ghosts A → source.Ghosts S → ReaderMessages S → ReaderMessages S → Option A → Type 0
Gives type told old new answer = NextRead (reader_limits old) type told (reader_of old) (reader_of new) answer

-- a message that was given is counted
abbrev pub Counts : {A S : Type 0} → ReaderMessages S → ReaderMessages S → Option A → Type 0
Counts old new answer = reader_taken new ≡ counts_message answer (reader_taken old)

-- where no call was refused, the message is refused as one of the type
abbrev pub RefusesFirst : {A S : Type 0} → shape.Ghosts A → source.Ghosts S → ReaderMessages S → ReaderMessages S → Error → Type 0
RefusesFirst type told old new e =
    reader_failed old ≡ false → NextRefused (reader_limits old) type told (reader_of old) (reader_of new) e

-- where a call was refused, that is the reason
abbrev pub RefusesLater : {S : Type 0} → ReaderMessages S → ReaderMessages S → Error → Type 0
RefusesLater old new e = reader_failed old ≡ true → RefusesAgain e old new
