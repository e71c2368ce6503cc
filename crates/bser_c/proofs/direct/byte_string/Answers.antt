-- The bytes behind the head are the byte string.
use Rattle.std.proofs.Common.{rules, arith, ◌+◌, refl}
use Rattle.bser_c.proofs.Whole.{answers, bytes_told}
use Rattle.bser_c.proofs.direct.byte_string.Goals as goal

pub returns : goal.returns
returns g c =
    answers c.tell.result (c.args.at + c.args.len) _ c.tell.ensures.taken c.tell.ensures.end
    (λ taken levels. bytes_told g.B.Builder.takes c.args.bytes.now (search rules) levels c.args.len c.args.start c.args.at (c.args.at + c.args.len) _ _ _ c.requires (omega (arith, c.if-bytes-at.false)) refl refl taken)
