-- What the words of a tape put at the front of a slice.
use Rattle.std.specs.Prelude.{◌≡◌, ◌<◌, ◌+◌, ℕ, List, ◌++◌, length, Option, Some, None, Result, Ok, Err}
use Rattle.bser_c.specs.Fronts.{Put, Puts}
use Rattle.bser_c.specs.Parts.{header_of, parts}
use Rattle.bser_c.specs.declared.front.Front.{Front}

-- the bytes of a part were put, or there are none, or they have no room
abbrev pub PutsPart : {A : Type 0} → Option (List ℕ) → Front → Front → Option A → Type 0
PutsPart (Some bytes) old new answer = Puts old new bytes answer
PutsPart None old new (Some done) = ⊥
PutsPart None old new None = Unit {0}

-- the header of a body of this length and the bytes of the words were put; or the words mean
-- nothing, or what they mean has no room
abbrev pub PutsAll : {A E : Type 0} → ℕ → List ℕ → List ℕ → Front → Front → Result A E → Type 0
PutsAll body words strings old new (Ok done) = (bytes : List ℕ) × (parts strings words ≡ Some bytes) × Put old new (header_of body ++ bytes)
PutsAll body words strings old new (Err at) =
    (bytes : List ℕ) → parts strings words ≡ Some bytes → length old.out.now < old.len + length (header_of body ++ bytes)
