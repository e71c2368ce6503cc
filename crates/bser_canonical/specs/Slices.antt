-- One message in a slice, and the tree of its value written in a form.
use Rattle.std.specs.Prelude.{◌≡◌, ◌<◌, ◌^◌, ℕ, List, length, Some, Ok}
use Rattle.bser_format.specs.Tree.{Tree}
use Rattle.bser_format.specs.Canonical.{canonical_body, canonical_message}
use Rattle.bser_format.specs.ReadsAny.{reads_value}
use Rattle.bser_format.specs.declared.errors.Error.{Error}
use Rattle.bser_format.specs.declared.errors.Error.TheVariants.{OutOfMemory, Io}
use Rattle.bser_deserializer.specs.Askings.{asking_value}
use Rattle.bser_deserializer.specs.Reading.{owned}
use Rattle.bser_ser.specs.Message.{IsUnmeasured}
use Rattle.bser_messages.specs.Descriptions.{LiesWithin, cause_of}
use Rattle.bser_messages.specs.Messages.{BeginsWith, RefusesSlice}
use Rattle.bser_canonical.specs.Canon.{IsReadAs}
use Rattle.bser_canonical.specs.declared.slice.RewriteError.{RewriteError}
use Rattle.bser_canonical.specs.declared.slice.RewriteError.TheVariants.{Refused, Failed, TooLong}

-- the bytes begin with a message that reads as the value of this tree
abbrev pub ReadsTree : List ℕ → Tree → Type 0
ReadsTree bytes t = BeginsWith 128 reads_value IsReadAs bytes t

-- the bytes begin with a message that reads as the value of a tree, and the others are the message of that tree in the form
pub record RewroteSlice (form : Tree → Tree) (bytes message : List ℕ) : Type 0 where
  pub tree : Tree
  pub read : ReadsTree bytes tree
  pub written : message ≡ canonical_message (form tree)
  pub short : length (canonical_body (form tree)) < 2 ^ 63

-- the bytes begin with a message that reads as the value of a tree, and the message of that tree in the form has so many bytes
abbrev pub RewritesToSize : (Tree → Tree) → List ℕ → ℕ → Type 0
RewritesToSize form bytes size = (t : Tree) × ReadsTree bytes t × (size ≡ length (canonical_message (form t)))

-- the bytes begin with a message that reads as the value of a tree, and that tree in the form has no message for this reason, or memory ran out
abbrev pub HasNoRewriting : (Tree → Tree) → List ℕ → Error → Type 0
HasNoRewriting form bytes e = (t : Tree) × ReadsTree bytes t × IsUnmeasured (Ok (form t)) e

-- the message was refused, or no message can be made of its value, or one of this size is wanted
abbrev pub RefusesSliceRewriting : (Tree → Tree) → List ℕ → RewriteError → Type 0
RefusesSliceRewriting form bytes (Refused d) = RefusesSlice 128 reads_value (Some asking_value) owned (cause_of d) bytes
RefusesSliceRewriting form bytes (Failed e) = HasNoRewriting form bytes e
RefusesSliceRewriting form bytes (TooLong size) = RewritesToSize form bytes size

-- an error of writing to memory: an I/O error is want of memory there
abbrev pub in_memory : Error → Error
in_memory (Io e) = OutOfMemory
in_memory e = e

-- the place is one of len bytes or right behind them, and the new message has more bytes than most
abbrev pub LiesInSlice : ℕ → ℕ → RewriteError → Type 0
LiesInSlice len most (Refused d) = LiesWithin len d
LiesInSlice len most (Failed e) = Unit {0}
LiesInSlice len most (TooLong size) = most < size
