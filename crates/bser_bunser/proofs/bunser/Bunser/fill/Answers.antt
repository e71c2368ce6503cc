-- As many bytes are buffered already.
use Rattle.std.proofs.Common.{refl, ◌≤◌, length, arith, ap, subst}
use Rattle.bser_source.specs.Window.{AreOctets}
use Rattle.bser_source.proofs.Windows.{filled_here, works}
use Rattle.bser_bunser.proofs.bunser.Bunser.fill.Goals as goal

pub returns-then-n-count_octets-clause-ok : goal.returns-then-n-count_octets-clause-ok
returns-then-n-count_octets-clause-ok g c =
    let a = g.R.DeRead.window c.self.inside.read in
    let fits : c.args.n ≤ length a.buffered = omega (arith, c.count_octets.ensures.len, ap length c.buffered.ensures) in
    let octets : AreOctets a.buffered = subst AreOctets c.buffered.ensures c.count_octets.ensures.octets in
    rw (← c.self.view_is) (filled_here c.args.n a a refl octets fits (works a.failed a.buffered c.args.n (g.met.R.DeRead.refuses c.self.inside.read) c.requires.some fits))
