-- The place of an error: how many bytes are taken then.
use Rattle.std.specs.Prelude.{◌≡◌, ◌≤◌, ℕ, ◌+◌, negsuc, List, ◌∷◌, ◌++◌, length, take, drop, ⊤}
use Rattle.bser_format.specs.Grammar.{SpellsInteger}
use Rattle.bser_format.specs.declared.errors.Error.{Error}
use Rattle.bser_format.specs.declared.errors.Error.TheVariants.{DeInvalidStartByte, DeCustom}
use Rattle.bser_source.specs.Window.{Window, consumed, closed}
use Rattle.bser_bunser.specs.Names.{MayBeLeft}
use Rattle.bser_bunser.specs.Prefixes.{NegativeInt}
use Rattle.bser_bunser.specs.declared.prefix.Unexpected.{Unexpected}
use Rattle.bser_bunser.specs.declared.prefix.Unexpected.TheVariants.{Tag, Length, NegativeLength, NegativeCount}

-- an integer below 0 is at the end
pub record EndsBelowZero (before : List ℕ) : Type 0 where
  pub front : List ℕ
  pub number : List ℕ
  pub less : ℕ
  pub whole : before ≡ front ++ number
  pub spelled : SpellsInteger (negsuc less) number

-- a byte b is at the start
abbrev pub StartsWith : ℕ → List ℕ → Type 0
StartsWith b behind = behind ≡ b ∷ drop 1 behind

-- the bytes taken and those left are so
pub record StopsBetween (P : List ℕ → List ℕ → Type 0) (old new : Window) : Type 0 where
  pub before : List ℕ
  pub behind : List ℕ
  pub left : MayBeLeft old (before ++ behind)
  pub count : new.count ≡ old.count + length before
  pub told : P before behind

-- the place of a byte that may not be there is before it, and of an integer below 0 behind it. Of
-- other errors nothing is said
abbrev pub StopsInPlace : Error → Window → Window → Type 0
StopsInPlace (DeInvalidStartByte kind b) old new =
    StopsBetween (λ before behind. StartsWith b behind) old new
StopsInPlace (DeCustom m) old new = StopsBetween (λ before behind. EndsBelowZero before) old new
StopsInPlace _ old new = ⊤

-- ---- what is buffered

-- behind a tag, or in its place, is a byte that may not be there; or behind it an integer below 0
abbrev pub Stands : Unexpected → List ℕ → Type 0
Stands (Tag b) held = StartsWith b held
Stands (Length b) held = StartsWith b (drop 1 held)
Stands NegativeLength held = NegativeInt (drop 1 held)
Stands NegativeCount held = NegativeInt (drop 1 held)

-- what is wrong, between the bytes before it and those behind
abbrev pub IsFault : Unexpected → List ℕ → List ℕ → Type 0
IsFault (Tag b) before behind = StartsWith b behind
IsFault (Length b) before behind = StartsWith b behind
IsFault NegativeLength before behind = EndsBelowZero before
IsFault NegativeCount before behind = EndsBelowZero before

-- so many of the buffered bytes were taken, and what is wrong is there; all that comes fails
pub record ClosesAt (why : Unexpected) (old new : Window) : Type 0 where
  pub at : ℕ
  pub within : at ≤ length old.buffered
  pub state : new ≡ closed (consumed at old)
  pub fault : IsFault why (take at old.buffered) (drop at old.buffered)
