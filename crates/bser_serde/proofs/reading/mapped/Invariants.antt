-- The body is the one that is read.
use Rattle.std.specs.Prelude.{Some}
use Rattle.bser_serde.proofs.reading.mapped.Given as goal

abbrev pub ghosts-filled : goal.ghosts-filled
ghosts-filled g a = record { bytes = Some a.body.bytes.now; levels = a.levels }
