-- The messages that types with derives are written as.
use Rattle.std.specs.Prelude.{◌≡◌, ℕ, List}
use Rattle.bser_format.specs.declared.errors.Error.{Error}
use Rattle.bser_format.specs.declared.errors.Error.TheVariants.{Io}
use Rattle.bser_ser.specs.Stopped.{Tells, Takes, TookFront, Accounts}
use Rattle.bser_draft.specs.Written.{IsLeastMessage}
use Rattle.bser_serde.specs.declared.writer.Written.{Written}
use Rattle.bser_serde.specs.declared.writer.Written.TheVariants.{Message, Counts}

-- ---- writers

-- the writer took such a message and nothing else, and counted no failure
abbrev pub WroteLeast : {S : Type 0} → Tells S → S → S → Type 0
WroteLeast sink old new = (text : List ℕ) × IsLeastMessage text × Takes sink old new text

-- the writer took a beginning of such a message, and the error is its own
abbrev pub BrokeLeast : {S : Type 0} → Tells S → S → S → Error → Type 0
BrokeLeast sink old new e =
    (text : List ℕ) × IsLeastMessage text × TookFront sink old new text × Accounts sink old new text e

-- the value has no message, or there is no memory, and the writer took nothing; or the writer failed
abbrev pub Unwritten : {S : Type 0} → Tells S → S → S → Error → Type 0
Unwritten sink old new (Io fault) = BrokeLeast sink old new (Io fault)
Unwritten sink old new _ = new ≡ old

-- ---- what one going through a value makes

-- what was made is a message, if it is one
abbrev pub IsLeastOrCounted : Written → Type 0
IsLeastOrCounted (Message message) = IsLeastMessage message.items
IsLeastOrCounted (Counts counts) = Unit {0}
