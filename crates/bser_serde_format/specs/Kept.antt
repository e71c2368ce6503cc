-- A walk that stays on the value that it began with, and may go back.
use Rattle.std.specs.Prelude.{◌≡◌, ◌≤◌, ℕ, List, [], ◌∷◌, length, take, Option, Some, None, ⊤}
use Rattle.bser_format.specs.Named.{with_text_keys}
use Rattle.bser_events.specs.Takes.{Takes}
use Rattle.bser_serde_format.specs.declared.open.Open.{Open}
use Rattle.bser_serde_format.specs.declared.walk.Walk.{Walk}
use Rattle.bser_serde_format.specs.declared.marks.Saved.{Saved}
use Rattle.bser_serde_format.specs.Left.{LeavesIn, Remains}

-- what stands at a place to come back to completes a value of at most n levels, which these bytes begin with, where the containers around are these
abbrev pub IsPlace : List ℕ → ℕ → List Open → Saved → Type 0
IsPlace bytes n os s = (rest : List ℕ) → LeavesIn s.inner (take s.outer os) s.rest.now rest → Takes (with_text_keys n) bytes rest

-- each place keeps at least as many containers open as the one before it, and the last one so many
abbrev pub Places : List ℕ → ℕ → List Open → ℕ → List Saved → ℕ → Type 0
Places bytes n os low [] floor = floor ≡ low
Places bytes n os low (s ∷ ss) floor = (s.floor ≡ low) × (low ≤ s.outer) × IsPlace bytes n os s × Places bytes n os s.outer ss floor

-- what the walk reads on completes a value of at most n levels, which these bytes begin with
pub record IsOn (bytes : List ℕ) (n : ℕ) (w : Walk) (saved : List Saved) : Type 0 where
  pub value : (rest : List ℕ) → Remains w rest → Takes (with_text_keys n) bytes rest
  pub within : w.floor ≤ length w.outer.items
  pub places : Places bytes n w.outer.items 0 saved w.floor

-- the same, where the bytes are known
abbrev pub StaysOn : Option (List ℕ) → ℕ → Walk → List Saved → Type 0
StaysOn None n w saved = ⊤
StaysOn (Some bytes) n w saved = IsOn bytes n w saved

-- the bytes are these and the levels as many, where they are known
abbrev pub IsBodyOf : Option (List ℕ) → ℕ → List ℕ → ℕ → Type 0
IsBodyOf None n bytes levels = ⊤
IsBodyOf (Some b) n bytes levels = (b ≡ bytes) × (n ≡ levels)

-- a value stands before a rest of k bytes, where the bytes are known
abbrev pub ValueBefore : Option (List ℕ) → ℕ → ℕ → Type 0
ValueBefore None n k = ⊤
ValueBefore (Some bytes) n k = (rest : List ℕ) × Takes (with_text_keys n) bytes rest × (length rest ≡ k)
