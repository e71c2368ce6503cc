use Rattle.std.proofs.Common.{◌≤◌, length, arith, ap, subst}
use Rattle.bser_source.specs.Window.{AreOctets}
use Rattle.bser_bunser.proofs.Counted.{pass_buffered}
use Rattle.bser_bunser.proofs.bunser.Bunser.pass.Goals as goal

pub returns-then-len-count_octets-clause-ok : goal.returns-then-len-count_octets-clause-ok
returns-then-len-count_octets-clause-ok g c =
    let a = g.R.DeRead.window c.self.inside.read in
    let fits : c.args.len ≤ length a.buffered = omega (arith, c.if-len-count_octets.true, c.count_octets.ensures.len, ap length c.buffered.ensures) in
    let octets : AreOctets a.buffered = subst AreOctets c.buffered.ensures c.count_octets.ensures.octets in
    rw (← c.self.view_is, c.consume.ensures) (pass_buffered c.args.len a octets c.if-len-gt0.true fits (g.met.R.DeRead.refuses c.self.inside.read))
