-- As many bytes are buffered already.
use Rattle.std.proofs.Common.{refl, ◌≤◌, length, ap, arith, subst}
use Rattle.bser_source.specs.Window.{AreOctets}
use Rattle.bser_source.specs.Reader.{io_at, nothing_held}
use Rattle.bser_source.proofs.Windows.{filled_here, works}
use Rattle.bser_source.proofs.io_read.IoReadDeRead.fill.Goals as goal

pub returns-then-n-count_octets-clause-ok : goal.returns-then-n-count_octets-clause-ok
returns-then-n-count_octets-clause-ok g c =
    let r = c.args.self.now in
    let a = io_at g.S.Source.remaining g.S.Source.failures g.S.Source.through r in
    let fits : c.args.n ≤ length a.buffered = omega (arith, c.if-n-count_octets.true, c.count_octets.ensures.len, ap length c.buffered.ensures) in
    let octets : AreOctets a.buffered = subst AreOctets c.buffered.ensures c.count_octets.ensures.octets in
    filled_here c.args.n a a refl octets fits (works a.failed a.buffered c.args.n (λ f. nothing_held r.block r.start r.end (r.refused f)) c.requires.some fits)
