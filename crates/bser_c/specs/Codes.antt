-- A number for each error.
use Rattle.std.specs.Prelude.{◌≡◌, ℕ, List, length, false}
use Rattle.bser_format.specs.declared.errors.Complaint.{Complaint}
use Rattle.bser_format.specs.declared.errors.Complaint.TheVariants as complaints
use Rattle.bser_format.specs.declared.errors.Error.{Error}
use Rattle.bser_format.specs.declared.errors.Error.TheVariants as errors
use Rattle.bser_format.specs.declared.errors.Kind.{Kind}
use Rattle.bser_format.specs.declared.errors.Kind.TheVariants as kinds
use Rattle.bser_format.specs.declared.errors.Message.{Message}
use Rattle.bser_format.specs.declared.errors.Message.TheVariants as messages
use Rattle.bser_format.specs.declared.errors.ReadCause.{ReadCause}
use Rattle.bser_format.specs.declared.errors.ReadCause.TheVariants as causes
use Rattle.bser_messages.specs.Descriptions.{cause_of, place_of}
use Rattle.bser_messages.specs.Limited.{usual_limits}
use Rattle.bser_messages.specs.Told.{IsReasonWithin, SliceUntold}
use Rattle.bser_messages.specs.declared.told.Reason.{Reason}
use Rattle.bser_messages.specs.declared.told.Reason.TheVariants.{Stopped, Failed}

-- of what is found where another byte is wanted
abbrev pub code_of_kind : Kind → ℕ
code_of_kind kinds.NextItem = 16
code_of_kind kinds.Integer = 17
code_of_kind kinds.MapKey = 18
code_of_kind kinds.TemplateKeys = 19
code_of_kind kinds.TemplateKey = 20
code_of_kind kinds.Array = 21
code_of_kind kinds.Object = 22
code_of_kind kinds.Template = 23
code_of_kind (kinds.Enum _) = 24
code_of_kind (kinds.ObjectLikeEnum _) = 25

-- of a complaint
abbrev pub code_of_complaint : Complaint → ℕ
code_of_complaint complaints.NegativeLength = 32
code_of_complaint complaints.NegativeCount = 33
code_of_complaint complaints.ItemsLeft = 34
code_of_complaint complaints.TooFewItems = 35
code_of_complaint complaints.WrongType = 36
code_of_complaint complaints.IntegerOutOfRange = 37
code_of_complaint complaints.RowsWithoutKeys = 38
code_of_complaint complaints.BorrowedFromCopying = 39
code_of_complaint complaints.UnknownVariant = 40
code_of_complaint complaints.EnumObjectEntries = 41
code_of_complaint complaints.ValueOpen = 42
code_of_complaint complaints.CountTooGreat = 43

-- of a message
abbrev pub code_of_message : Message → ℕ
code_of_message (messages.Fixed c) = code_of_complaint c
code_of_message (messages.Made _) = 44

-- of a source that failed
abbrev pub code_of_cause : ReadCause → ℕ
code_of_cause causes.Eof = 48
code_of_cause causes.Utf8 = 49
code_of_cause (causes.Reader _) = 50
code_of_cause causes.Memory = 3
code_of_cause causes.Failed = 51

-- of an error
abbrev pub code_of : Error → ℕ
code_of (errors.DeInvalidStartByte kind _) = code_of_kind kind
code_of (errors.DeCustom message) = code_of_message message
code_of (errors.DeRecursionLimitExceeded _) = 52
code_of (errors.DeEof _ _) = 53
code_of (errors.DeInvalidMagic _) = 54
code_of (errors.DeTooLong _ _) = 55
code_of (errors.DeReaderError cause) = code_of_cause cause
code_of (errors.SerCustom message) = code_of_message message
code_of (errors.SerNeedSize _) = 56
code_of (errors.SerU64TooBig _) = 57
code_of (errors.Io _) = 58
code_of errors.OutOfMemory = 3

-- the byte that an error is about, and 0 where it is about none
abbrev pub byte_of : Error → ℕ
byte_of (errors.DeInvalidStartByte _ byte) = byte
byte_of _ = 0

-- ---- a message without a tape

-- of the reason; 5 where the library contradicts itself
abbrev pub code_of_reason : Reason → ℕ
code_of_reason (Stopped _) = 5
code_of_reason (Failed d) = code_of (cause_of d)

-- the byte that the reason is about, and 0 where it is about none
abbrev pub byte_of_reason : Reason → ℕ
byte_of_reason (Stopped _) = 0
byte_of_reason (Failed d) = byte_of (cause_of d)

-- how many bytes lie before the place of the reason
abbrev pub place_of_reason : Reason → ℕ
place_of_reason (Stopped place) = place
place_of_reason (Failed d) = place_of d

-- a number, a byte and a place that say why a message at the start of the bytes has no tape
pub record TellsWhy (bytes : List ℕ) (code byte place : ℕ) : Type 0 where
  pub reason : Reason
  pub refused : SliceUntold usual_limits false bytes reason
  pub code_is : code ≡ code_of_reason reason
  pub byte_is : byte ≡ byte_of_reason reason
  pub place_is : place ≡ place_of_reason reason
  pub within : IsReasonWithin (length bytes) reason
