-- The magic, the capabilities and the length of the body are the header.
use Rattle.std.proofs.Common.{rules}
use Rattle.bser_c.proofs.Whole.{head_stands}
use Rattle.bser_c.proofs.direct.header_of.Goals as goal

pub returns-clause-head : goal.returns-clause-head
returns-clause-head c = head_stands c.args.bytes.now c.in_ok-len.len.count c.in_ok-len.len.end c.read_u32.result (search rules) (search rules) (search rules) (search rules) (search rules) c.in_ok-len.ensures
