-- A header is there.
use Rattle.std.proofs.Common.{rules, arith}
use Rattle.bser_serde.proofs.Begins.{has_header}
use Rattle.bser_serde.proofs.message.head_of.Goals as goal

pub returns : goal.returns
returns c =
    has_header c.args.most c.args.bytes.now _ (omega (arith, c.if-bytes-lt6.false)) c.if-bytes.false c.if-bytes-2.false c.in_ok-len.ensures (omega (arith, c.if-len-most.false))
    (search rules)
