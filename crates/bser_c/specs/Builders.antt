-- What the builders of this crate take.
use Rattle.std.specs.Prelude.{◌≡◌, ◌⊎◌, ◌≤◌, ◌+◌, ◌-◌, ◌^◌, min, nat_lt, ℕ, List, [], ◌∷◌, ◌++◌, length, take, drop, if◌then◌else◌}
use Rattle.std.specs.Int.{w64, cast_unsigned}
use Rattle.bser_events.specs.Events as events
use Rattle.bser_events.specs.Events.{Event}
use Rattle.bser_events.specs.declared.event.Place.{Place}
use Rattle.bser_c.specs.Tape.{AreWordsOf, head_of}
use Rattle.bser_c.specs.declared.writing.Tape.{Tape}
use Rattle.bser_c.specs.declared.comparing.TapeComparison.{TapeComparison}

-- ---- a tape that is written

-- the words that have room
abbrev pub words_in : Tape → List ℕ
words_in t = take t.len t.words.now

-- the second word of an event at this place: the bits of a number, where a string begins that ends
-- there, and else where the event begins
abbrev pub second_at : Place → Event → ℕ
second_at p (events.integer v) = cast_unsigned w64 v
second_at p (events.real r) = r
second_at p (events.bytes s) = p.end - length s
second_at p (events.text s) = p.end - length s
second_at p (events.key s) = p.end - length s
second_at p _ = p.start

-- it grew by the two words of an event at this place, where they have room
pub record Grew (old : Tape) (p : Place) (e : Event) (new : Tape) : Type 0 where
  pub through : new.words.ghost_name ≡ old.words.ghost_name
  pub room : length new.words.now ≡ length old.words.now
  pub longer : old.len ≤ new.len
  pub counted : new.len ≡ min (old.len + 2) (2 ^ 64 - 1)
  pub grew : new.len ≤ length new.words.now → words_in new ≡ words_in old ++ head_of p.is_text e ∷ second_at p e ∷ []

-- ---- a tape that is compared

-- the words that were compared
abbrev pub words_before : TapeComparison → List ℕ
words_before c = take c.at c.words.now

-- how many words agreed before any others
abbrev pub place_of : TapeComparison → ℕ
place_of c = if nat_lt c.at (2 ^ 64 - 1) then c.at else c.parted

-- the words of an event stand next
pub record StandNext (c : TapeComparison) (e : Event) : Type 0 where
  pub these : List ℕ
  pub rest : List ℕ
  pub next : drop c.at c.words.now ≡ these ++ rest
  pub are : AreWordsOf c.strings.now e these

-- they stand next, and it goes on behind them
pub record Agreed (old : TapeComparison) (e : Event) (new : TapeComparison) : Type 0 where
  pub words : new.words ≡ old.words
  pub strings : new.strings ≡ old.strings
  pub added : List ℕ
  pub are : AreWordsOf old.strings.now e added
  pub longer : new.at ≡ old.at + 2
  pub within : new.at ≤ length old.words.now
  pub grew : words_before new ≡ words_before old ++ added

-- others stand next, and from there on none agree
pub record Parted (old : TapeComparison) (e : Event) (new : TapeComparison) : Type 0 where
  pub words : new.words ≡ old.words
  pub strings : new.strings ≡ old.strings
  pub at : new.at ≡ 2 ^ 64 - 1
  pub place : place_of new ≡ place_of old
  pub other : StandNext old e → ⊥

-- an event was compared with the words that stand next
abbrev pub Compares : TapeComparison → Event → TapeComparison → Type 0
Compares old e new = Agreed old e new ⊎ Parted old e new
