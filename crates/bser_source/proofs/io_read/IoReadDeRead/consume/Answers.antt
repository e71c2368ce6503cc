use Rattle.bser_source.proofs.Buffers.{inside, moved}
use Rattle.bser_source.proofs.io_read.IoReadDeRead.consume.Goals as goal

pub returns : goal.returns
returns g c =
    let r = c.args.self.now in
    moved _ _ _ r.block r.start r.end r.arrived _ c.args.n _ (inside r.block r.start r.end c.args.n r.ordered c.requires) r.counted
