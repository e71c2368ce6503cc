-- What became of a message that tells files.
use Rattle.watchman_index.specs.declared.standing.Standing.{Standing}
use Rattle.watchman_index.specs.declared.standing.Standing.TheVariants as standings
use Rattle.watchman_sqlite.specs.declared.taking.Taken.{Taken}
use Rattle.watchman_sqlite.specs.declared.taking.Taken.TheVariants.{Joined, Told, Gap}

-- how the message stood to what was told before it
abbrev pub standing_of : Taken → Standing
standing_of Joined = standings.Joins
standing_of Told = standings.Told
standing_of (Gap changes) = standings.Gap
