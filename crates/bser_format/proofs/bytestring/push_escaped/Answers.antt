use Rattle.std.proofs.Common.{ap, ◌∙◌, ◌++◌, flat_map, string_bytes, encode_utf8_all, take_all}
use Rattle.bser_format.specs.Escaped.{escaped_byte}
use Rattle.bser_format.proofs.Escapes.{escaped_byte-pushed}
use Rattle.bser_format.proofs.bytestring.push_escaped.Goals as goal

pub loop-byte-preserved : goal.loop-byte-preserved
loop-byte-preserved c =
    rw (c.in_ok-push-2.ensures.bytes, c.in_ok-push.ensures.bytes, c.in_ok-push_str.ensures.bytes, c.low_digit.ensures, c.low_digit-in-loop-byte.ensures)
    (escaped_byte-pushed (string_bytes c.loop-byte.text) (string_bytes c.args.text.now) c.args.bytes.now c.loop-byte.byte-index c.loop-byte-test.true c.loop-byte.invariant)

pub returns : goal.returns
returns c =
    c.loop-byte.invariant
    ∙ ap (λ t. string_bytes c.args.text.now ++ encode_utf8_all (flat_map escaped_byte t)) (take_all c.loop-byte.byte-index c.args.bytes.now c.loop-byte-test.false)
