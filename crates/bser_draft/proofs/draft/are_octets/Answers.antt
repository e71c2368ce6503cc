-- Each is one.
use Rattle.std.proofs.Math.Facts.{Fits-lt-pow}
use Rattle.bser_source.proofs.Windows.{octets_each}
use Rattle.bser_draft.proofs.draft.are_octets.Goals as goal

pub returns : goal.returns
returns c = octets_each c.args.bytes.now (λ i. Fits-lt-pow (c.type_inv.bytes i))
