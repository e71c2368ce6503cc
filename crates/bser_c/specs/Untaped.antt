-- What callers see where a tape has no message.
use Rattle.std.specs.Prelude.{◌≡◌, ◌⊎◌, ◌≤◌, ◌<◌, ◌+◌, ◌-◌, ◌^◌, min, ℕ, List, ◌∷◌, length, take, drop, Some, None}
use Rattle.bser_format.specs.Canonical.{canonical_message}
use Rattle.bser_format.specs.declared.errors.Error.{Error}
use Rattle.bser_format.specs.declared.errors.Error.TheVariants.{OutOfMemory}
use Rattle.bser_messages.specs.declared.told.Header.{Header}
use Rattle.bser_c.specs.Parts.{part, parts, size_with_header, with_header}
use Rattle.bser_c.specs.Tape.{AreOfEvents, HasTape}
use Rattle.bser_c.specs.declared.untape.TapeError.{TapeError}
use Rattle.bser_c.specs.declared.untape.TapeError.TheVariants.{Invalid, TooLong, Memory}

-- the place is one of so many words or right behind them, and what is wanted is more than the room
abbrev pub LiesIn : ℕ → ℕ → TapeError → Type 0
LiesIn words room (Invalid at) = at ≤ words
LiesIn words room (TooLong size) = room < size
LiesIn words room Memory = Unit {0}

-- the words are the tape of a message of fewer bytes than the greatest count of a word, so that each
-- count in them is exact
pub record AreTape (strings words : List ℕ) : Type 0 where
  pub capabilities : ℕ
  pub text : List ℕ
  pub short : length text < 2 ^ 56 - 1
  pub has : HasTape 128 strings capabilities text words

-- so many bytes are wanted: the size follows from the words alone, and where they are a tape, it is
-- that of the canonical message of its tree
pub record WantsBytes (strings words : List ℕ) (size : ℕ) : Type 0 where
  pub body : List ℕ
  pub told : parts strings words ≡ Some body
  pub size_is : size ≡ size_with_header body
  pub message : (tape : AreTape strings words) → size ≡ length (canonical_message tape.has.tree)

-- the words before the place mean something, and the two behind it nothing
pub record MeanNothingAt (strings words : List ℕ) (at : ℕ) : Type 0 where
  pub first : ℕ
  pub second : ℕ
  pub rest : List ℕ
  pub before : List ℕ
  pub means : parts strings (take at words) ≡ Some before
  pub next : drop at words ≡ first ∷ second ∷ rest
  pub nothing : part strings first second ≡ None

-- all the words mean something, and those before the place are the words of events
pub record AreEventsUpTo (strings words : List ℕ) (at : ℕ) : Type 0 where
  pub body : List ℕ
  pub told : parts strings words ≡ Some body
  pub before : AreOfEvents strings (take at words)

-- where words that are no tape are wrong
abbrev pub StopAt : List ℕ → List ℕ → ℕ → Type 0
StopAt strings words at = MeanNothingAt strings words at ⊎ AreEventsUpTo strings words at

-- the words are no tape, or so many bytes are wanted, or memory ran out
abbrev pub RefusesTape : List ℕ → List ℕ → TapeError → Type 0
RefusesTape strings words (Invalid at) = (AreTape strings words → ⊥) × StopAt strings words at
RefusesTape strings words (TooLong size) = WantsBytes strings words size
RefusesTape strings words Memory = Unit {0}

-- ---- the words alone

-- the bytes are the message that the words mean
pub record AreToldBy (strings words text : List ℕ) : Type 0 where
  pub body : List ℕ
  pub told : parts strings words ≡ Some body
  pub whole : text ≡ with_header body

-- the words mean nothing, or a message of so many bytes
abbrev pub RefusesWords : List ℕ → List ℕ → TapeError → Type 0
RefusesWords strings words (Invalid at) = (parts strings words ≡ None) × MeanNothingAt strings words at
RefusesWords strings words (TooLong size) = (body : List ℕ) × (parts strings words ≡ Some body) × (size ≡ size_with_header body)
RefusesWords strings words Memory = ⊥

-- ---- a comparison

-- the words before the place are the words of events
abbrev pub AgreeUpTo : List ℕ → List ℕ → TapeError → Type 0
AgreeUpTo strings words (Invalid at) = AreOfEvents strings (take at words)
AgreeUpTo strings words _ = Unit {0}

-- of an error of reading, before which so many words agreed
abbrev pub untaped_by : Error → ℕ → TapeError
untaped_by OutOfMemory at = Memory
untaped_by _ at = Invalid at

-- a message of so many bytes was reported whole, without capabilities, and all of so many words
-- agreed
pub record IsSame (h : Header) (size at words : ℕ) : Type 0 where
  pub whole : min (h.start + h.len) (2 ^ 64 - 1) ≡ size
  pub capabilities : h.capabilities ≡ 0
  pub all : at ≡ words
