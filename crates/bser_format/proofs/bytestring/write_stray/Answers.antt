use Rattle.std.proofs.Common.{◌++◌, ◌∷◌, [], ◌∙◌, refl, ap₂, take, flat_map, encode_utf8, encode_utf8_all}
use Rattle.std.proofs.Output.{has_written_append, has_written_of_eq}
use Rattle.bser_format.specs.ByteStrings.{quoted_byte}
use Rattle.bser_format.proofs.Escapes.{quoted_byte-written}
use Rattle.bser_format.proofs.bytestring.write_stray.Goals as goal

pub loop-byte-preserved : goal.loop-byte-preserved
loop-byte-preserved g c = λ plain.
    let bytes = c.args.bytes.now in
    let done = encode_utf8_all (flat_map quoted_byte (take c.loop-byte.byte-index bytes)) in
    let now = c.loop-byte.invariant plain in
    let slashes = c.in_ok-write_str.ensures.writes now.plain refl in
    let high = c.in_ok-write_char.ensures.writes slashes.plain refl in
    let low = c.in_ok-write_char-2.ensures.writes high.plain refl in
    let wrote = has_written_append _ _ _ _ _ _ (has_written_append _ _ _ _ _ _ (has_written_append _ _ _ _ _ _ now slashes) high) low in
    has_written_of_eq _ _ _ _ _
    (ap₂ (λ h l. ((done ++ 92 ∷ 92 ∷ 120 ∷ []) ++ encode_utf8 h) ++ encode_utf8 l) c.low_digit.ensures c.low_digit-in-loop-byte.ensures
    ∙ quoted_byte-written bytes c.loop-byte.byte-index c.loop-byte-test.true)
    wrote
