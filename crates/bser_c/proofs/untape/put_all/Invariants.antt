use Rattle.std.proofs.Common.{◌*◌}
use Rattle.bser_c.specs.Parts.{header_of}
use Rattle.bser_c.proofs.Puts.{BeginsPut}
use Rattle.bser_c.proofs.untape.put_all.Given as goal

abbrev pub invariant-loop-i : goal.invariant-loop-i
invariant-loop-i l = BeginsPut l.strings l.words (2 * l.i) (header_of l.body) l.fn.front l.front
