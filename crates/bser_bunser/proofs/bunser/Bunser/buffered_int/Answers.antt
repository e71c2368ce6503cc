-- An integer whose bytes are buffered was taken.
use Rattle.std.proofs.Common.{rules}
use Rattle.std.specs.Int.{w64}
use mir.Val.{SFits}
use Rattle.std.proofs.lemmas.Int.{to_z-of_z}
use Rattle.bser_format.specs.Named.{int}
use Rattle.bser_bunser.proofs.Looks.{look}
use Rattle.bser_bunser.proofs.Ints.{took_int}
use Rattle.bser_bunser.proofs.bunser.Bunser.buffered_int.Goals as goal

pub returns-in-Found-clause-some : goal.returns-in-Found-clause-some
returns-in-Found-clause-some g c =
    let fits : SFits w64 c.in-Found.value = search rules in
    let front = rw c.buffered-bytes.ensures at c.in-Found.ensures in
    rw (← c.self.view_is, c.consume.ensures)
    (took_int c.in-Found.len c.in-Found.value _ _ _ (to_z-of_z w64 c.in-Found.value fits) (look int (g.R.DeRead.window c.self.inside.read)) (g.met.R.DeRead.refuses c.self.inside.read) front.0 front.1)
