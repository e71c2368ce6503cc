-- What callers see of what reads the messages of a slice.
use Rattle.std.specs.Prelude.{ℕ, List, drop, Option, Some}
use Rattle.bser_format.specs.declared.errors.Error.{Error}
use Rattle.bser_types.specs.declared.deserialize.Shape as shape
use Rattle.bser_messages.specs.Limited.{FrontFails}
use Rattle.bser_messages.specs.declared.limits.Limits.{Limits}
use Rattle.bser_messages.specs.Streams.{IsNext}

-- the limits of each message, all the bytes, and how many bytes the messages have that were taken
pub record SliceStream : Type 0 where
  pub limits : Limits
  pub whole : List ℕ
  pub taken : ℕ

-- the bytes after the messages that were taken
abbrev pub rest_of : SliceStream → List ℕ
rest_of s = drop s.taken s.whole

-- ---- what the next message answers, by a type's meaning

module _ {A : Type 0} (type : shape.Ghosts A) where
  -- the next message was given, or nothing was left
  abbrev pub GivesPart : SliceStream → SliceStream → Option A → Type 0
  GivesPart old new answer =
      IsNext old.limits.levels old.limits.bytes type.reads type.holds (Some (rest_of old)) (Some (rest_of new)) answer

  -- the message is refused as one of the type
  abbrev pub RefusesPart : SliceStream → Error → Type 0
  RefusesPart old e = FrontFails old.limits type (rest_of old) e
