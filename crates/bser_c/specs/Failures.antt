-- Why a call wrote nothing, by its number, its byte and its place.
use Rattle.std.specs.Prelude.{◌≡◌, ◌⊎◌, ◌≤◌, ℕ, ℤ, List, length, Some}
use Rattle.bser_format.specs.Grammar.{SpellsInteger}
use Rattle.bser_format.specs.declared.errors.Error.{Error}
use Rattle.bser_format.specs.declared.errors.Error.TheVariants.{DeInvalidMagic, DeInvalidStartByte}
use Rattle.bser_format.specs.ReadsAny.{reads_ignored}
use Rattle.bser_format.specs.Tree.{Tree}
use Rattle.bser_deserializer.specs.Askings.{asking_ignored}
use Rattle.bser_deserializer.specs.Reading.{owned}
use Rattle.bser_messages.specs.Descriptions.{cause_of, place_of}
use Rattle.bser_messages.specs.Lengths.{RefusesLength}
use Rattle.bser_messages.specs.Messages.{RefusesSlice}
use Rattle.bser_messages.specs.declared.description.Description.{Description}
use Rattle.bser_canonical.specs.Slices.{LiesInSlice, RefusesSliceRewriting}
use Rattle.bser_canonical.specs.declared.slice.RewriteError.{RewriteError}
use Rattle.bser_canonical.specs.declared.slice.RewriteError.TheVariants.{Refused, Failed, TooLong}
use Rattle.bser_c.specs.Codes.{byte_of, code_of}
use Rattle.bser_c.specs.Direct.{Stands}
use Rattle.bser_c.specs.Untaped.{AreTape, StopAt}

-- they are those of an error
abbrev pub AreOf : Error → ℕ → ℕ → Type 0
AreOf e code byte = (code ≡ code_of e) × (byte ≡ byte_of e)

-- the place of a header's error: behind the two bytes that begin each message, before a byte that is no
-- integer's tag, and else behind the length of the body
abbrev pub IsPlaceInHead : Error → List ℕ → ℕ → Type 0
IsPlaceInHead (DeInvalidMagic magic) bytes place = place ≡ 2
IsPlaceInHead (DeInvalidStartByte kind tag) bytes place = place ≡ 6
IsPlaceInHead _ bytes place = (len : ℤ) × Stands (SpellsInteger len) bytes 6 place

-- the bytes begin with no header, or with that of too long a message, and the place is the header's
pub record TellsWhyNoLength (bytes : List ℕ) (code byte place : ℕ) : Type 0 where
  pub error : Error
  pub refused : RefusesLength bytes error
  pub are : AreOf error code byte
  pub place_is : IsPlaceInHead error bytes place
  pub within : place ≤ length bytes

-- they say why a message was not rewritten, and 2 that there is no room
abbrev pub Tells : RewriteError → ℕ → ℕ → ℕ → Type 0
Tells (Refused d) code byte place = AreOf (cause_of d) code byte × (place ≡ place_of d)
Tells (Failed e) code byte place = AreOf e code byte × (place ≡ 0)
Tells (TooLong size) code byte place = code ≡ 2

-- the message was refused at this place, or it was read, and no message can be made of its value
pub record TellsWhyUnwritten (form : Tree → Tree) (bytes : List ℕ) (room code byte place : ℕ) : Type 0 where
  pub reason : RewriteError
  pub refused : RefusesSliceRewriting form bytes reason
  pub are : Tells reason code byte place
  pub within : LiesInSlice (length bytes) room reason

-- the message is refused as one that is passed over
pub record IsRefused (bytes : List ℕ) : Type 0 where
  pub description : Description
  pub refused : RefusesSlice 128 reads_ignored (Some asking_ignored) owned (cause_of description) bytes

-- the words are no tape and are wrong there, or memory ran out
abbrev pub TellsWhyUntaped : List ℕ → List ℕ → ℕ → ℕ → Type 0
TellsWhyUntaped strings words code place =
    ((code ≡ 4) × (AreTape strings words → ⊥) × StopAt strings words place) ⊎ (code ≡ 3)
