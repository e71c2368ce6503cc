-- The error of a text, and its place.
use Rattle.std.specs.Prelude.{◌≡◌, ℕ, ◌+◌, ◌-◌, List, drop, Option, Some, None, ⊤}
use Rattle.bser_from_json.specs.Lines.{place_in}
use Rattle.bser_from_json.specs.Made.{Outcome, makes, refuses, lacks, breaks}
use Rattle.bser_from_json.specs.Places.{first_fault, place_behind, token_place}
use Rattle.bser_from_json.specs.declared.fault.JsonFault.{JsonFault}
use Rattle.bser_from_json.specs.declared.fault.JsonError.{JsonError}
use Rattle.bser_from_json.specs.declared.fault.JsonError.TheVariants as errors
use Rattle.bser_from_json.specs.declared.fault.Place.{Place}

-- the fault that an outcome is in its text, and how many bytes stand before it. Where a token lacks, or another
-- stands there than may, the bytes there say why
abbrev pub fault_in : List ℕ → Outcome → Option (JsonFault × ℕ)
fault_in text (makes u) = None
fault_in text (refuses f n) = Some (f, token_place text (n - 1))
fault_in text (lacks n) = Some (first_fault (drop (token_place text n) text), token_place text n)
fault_in text (breaks n) = Some (first_fault (drop (place_behind text n) text), place_behind text n)

-- the error is this fault at this place
abbrev pub IsAt : JsonFault → Place → JsonError → Type 0
IsAt f p (errors.Text g q) = (g ≡ f) × (q ≡ p)
IsAt f p errors.OutOfMemory = ⊥

-- the error is the outcome's fault, at its line and column where the text begins behind `start` bytes of the
-- whole. There may always be no memory
abbrev pub IsErrorOf : List ℕ → List ℕ → ℕ → Outcome → JsonError → Type 0
IsErrorOf whole text start o (errors.Text f p) = (n : ℕ) × (fault_in text o ≡ Some (f, n)) × (p ≡ place_in whole (start + n))
IsErrorOf whole text start o errors.OutOfMemory = ⊤
