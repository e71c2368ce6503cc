use Rattle.std.proofs.Common.{rules, arith, ◌≤◌, ◌+◌, length}
use Rattle.bser_source.proofs.Buffers.{pulled}
use Rattle.bser_source.proofs.io_read.IoRead.pull.Goals as goal

pub returns-in-Ok-clause-grown : goal.returns-in-Ok-clause-grown
returns-in-Ok-clause-grown g c =
    let r = c.args.self.now in
    let e = c.in-Ok.ensures in
    let room : r.end + c.in-Ok.got ≤ length c.pull_at.new.buf = search rules in
    pulled _ _ _ _ _ _ r.block c.pull_at.new.buf r.start r.end r.arrived r.limit c.args.n c.in-Ok.got r.failed
    c.requires.front room e.front r.counted e.ok (omega (arith, c.ahead-want.ensures.within, e.fits)) e.failures e.through
