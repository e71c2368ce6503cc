-- A value fills the body.
use Rattle.std.proofs.Common.{rules}
use Rattle.bser_serde.proofs.Begins.{octets}
use Rattle.bser_serde.proofs.Checked.{filled_slice}
use Rattle.bser_serde.proofs.reading.from_slice_limited.Goals as goal

pub returns-in-Some-value_of-clause-found : goal.returns-in-Some-value_of-clause-found
returns-in-Some-value_of-clause-found g c =
    filled_slice c.args.limits c.args.bytes.now c.in-Some.body (octets c.args.bytes.now c.type_inv.bytes) (search rules) c.in-Some.ensures c.in-Some-value_of.ensures
