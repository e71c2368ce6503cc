-- A value fills the body, and nothing follows it.
use Rattle.std.proofs.Common.{rules}
use Rattle.bser_serde.proofs.Begins.{octets}
use Rattle.bser_serde.proofs.Checked.{filled_frame}
use Rattle.bser_serde.proofs.reading.from_frame.Goals as goal

pub returns-in-Some-value_of-clause-found : goal.returns-in-Some-value_of-clause-found
returns-in-Some-value_of-clause-found g c =
    filled_frame c.new-limits.result c.args.frame.now c.in-Some.body (octets c.args.frame.now c.type_inv.frame) (search rules) c.in-Some.ensures c.in-Some-value_of.ensures
    c.new-limits.ensures.levels c.new-limits.ensures.bytes (search rules)
