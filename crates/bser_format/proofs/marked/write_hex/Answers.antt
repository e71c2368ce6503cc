use Rattle.std.proofs.Common.{refl, sym}
use Rattle.std.proofs.Output.{has_written_append, has_written_of_eq}
use Rattle.bser_format.proofs.Escapes.{encode-more}
use Rattle.bser_format.specs.MarkedText.{hex_byte}
use Rattle.bser_format.proofs.marked.write_hex.Goals as goal

pub loop-byte-preserved : goal.loop-byte-preserved
loop-byte-preserved g c =
    λ plain.
    let now = c.loop-byte.invariant plain in
    has_written_of_eq _ _ _ _ _
    (sym (encode-more hex_byte c.args.bytes.now c.loop-byte.byte-index c.loop-byte-test.true))
    (has_written_append _ _ _ _ _ _ now (c.in_ok-write_byte.ensures now.plain refl))
