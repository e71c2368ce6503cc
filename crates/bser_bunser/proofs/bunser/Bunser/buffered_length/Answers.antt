-- A length of one byte, which is buffered, was taken.
use Rattle.std.proofs.Common.{pos, refl}
use Rattle.bser_format.specs.Named.{int}
use Rattle.bser_bunser.proofs.Looks.{look}
use Rattle.bser_bunser.proofs.Ints.{took_int}
use Rattle.bser_bunser.proofs.bunser.Bunser.buffered_length.Goals as goal

pub returns-clause-some : goal.returns-clause-some
returns-clause-some g c =
    let front = rw c.buffered.ensures at c.in_ok-len.ensures.length in
    rw (← c.self.view_is, c.consume.ensures)
    (took_int 2 (pos c.in_ok-len.len) _ _ _ refl (look int (g.R.DeRead.window c.self.inside.read)) (g.met.R.DeRead.refuses c.self.inside.read) front.0 front.1)
