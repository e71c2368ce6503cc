-- How a message stands to the last clock of an index, up to which all changes are in.
use Rattle.std.specs.Prelude.{◌≡◌, ◌⊎◌, ℕ, true, false, List, Option, Some, None, IfSome, IsSomeAnd, ⊤}
use Rattle.watchman_index.specs.Clocks.{is_one_instance, IsToldBy}
use Rattle.watchman_index.specs.declared.changes.Changes.{Changes}
use Rattle.watchman_index.specs.declared.standing.Standing.{Standing}
use Rattle.watchman_index.specs.declared.standing.Standing.TheVariants.{Told, Joins, Gap}

-- all is told up to this clock
abbrev pub IsTold : Option (List ℕ) → List ℕ → Type 0
IsTold last clock = IsSomeAnd last (λ l. IsToldBy l clock)

-- the clock lies behind the last one, of its server and crawl; or there is no last one
abbrev pub IsLater : Option (List ℕ) → List ℕ → Type 0
IsLater None clock = ⊤
IsLater (Some last) clock = (is_one_instance last clock ≡ true) × ¬ IsToldBy last clock

-- the message is of the server and the crawl of the last clock, and does not begin later. One that
-- does not say when it begins is the answer to a query since the last clock, or an earlier one
abbrev pub GoesOn : Option (List ℕ) → Changes → Type 0
GoesOn last c = IsSomeAnd last
    (λ l. (is_one_instance l c.clock ≡ true) × IfSome c.since (IsToldBy l))

-- what ends at or before the last clock was told. Of all else a fresh instance joins, and what goes
-- on; and between the last clock and any other is a gap
abbrev pub IsStanding : Option (List ℕ) → Changes → Standing → Type 0
IsStanding last c Told = IsTold last c.clock
IsStanding last c Joins =
    ¬ IsTold last c.clock × ((c.is_fresh_instance ≡ true) ⊎ GoesOn last c)
IsStanding last c Gap =
    ¬ IsTold last c.clock × (c.is_fresh_instance ≡ false) × ¬ GoesOn last c
