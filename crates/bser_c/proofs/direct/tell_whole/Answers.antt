-- A header and a value of the length that it announces are a message.
use Rattle.std.proofs.Common.{rules, arith}
use Rattle.bser_c.proofs.Whole.{message_told}
use Rattle.bser_c.proofs.direct.tell_whole.Goals as goal

pub returns : goal.returns
returns g c =
    message_told g.B.Builder.takes c.args.bytes.now (search rules) 8 c.in_ok-end.end c.in_ok-header.header _ _ (search rules) c.in_ok-header.ensures.octets c.in_ok-header.ensures.head (omega arith) c.in_ok-end.ensures (search rules)
