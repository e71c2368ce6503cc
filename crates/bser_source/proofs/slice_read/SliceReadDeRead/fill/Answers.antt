-- What is left of the slice is buffered.
use Rattle.std.proofs.Common.{refl, ◌≤◌, length, ap, arith, subst}
use Rattle.bser_source.specs.Window.{AreOctets}
use Rattle.bser_source.specs.Slice.{slice_at, none_left}
use Rattle.bser_source.proofs.Windows.{filled_here, works}
use Rattle.bser_source.proofs.slice_read.SliceReadDeRead.fill.Goals as goal

pub returns-then-n-count_octets-clause-ok : goal.returns-then-n-count_octets-clause-ok
returns-then-n-count_octets-clause-ok c =
    let r = c.args.self.now in
    let a = slice_at r in
    let fits : c.args.n ≤ length a.buffered = omega (arith, c.if-n-count_octets.true, c.count_octets.ensures.len, ap length c.buffered.ensures) in
    let octets : AreOctets a.buffered = subst AreOctets c.buffered.ensures c.count_octets.ensures.octets in
    filled_here c.args.n a a refl octets fits (works a.failed a.buffered c.args.n (λ f. none_left r.slice.now r.index (r.refused f)) c.requires.some fits)
