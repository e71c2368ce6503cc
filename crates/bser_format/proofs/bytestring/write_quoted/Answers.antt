use Rattle.std.proofs.Common.{◌≡◌, [], ◌∷◌, ◌++◌, flat_map, chars, encode_utf8, encode_utf8_all, IsUtf8, refl, sym, ap, subst, ◌∙◌, append_assoc, append-nil}
use Rattle.std.proofs.Output.{has_written_append, has_written_of_eq}
use Rattle.std.specs.Fmt.{HasWritten}
use Rattle.std.specs.Str.Chunks.{utf8_chunks_rest}
use Rattle.std.proofs.lemmas.List.{nil_from_length}
use Rattle.bser_format.specs.ByteStrings.{escape_by, quoted_byte}
use Rattle.bser_format.specs.Escaped.{escaped_chars}
use Rattle.bser_format.proofs.Escapes.{escaped_chars-nil, quoted-parts, encode-quote, encode-quoted}
use Rattle.bser_format.proofs.Strays.{escaped_chars-chunk}
use Rattle.bser_format.proofs.bytestring.write_quoted.Goals as goal

pub loop-chunk-init : goal.loop-chunk-init
loop-chunk-init g c =
    λ plain. (
      [],
      has_written_of_eq _ _ _ _ _ encode-quote (c.in_ok-write_char.ensures.writes plain refl),
      ap (λ t. encode_utf8_all (flat_map (escape_by c.args.nul) (escaped_chars t)))
          (ap utf8_chunks_rest c.into_iter-chunk-iterator.ensures.into_iter_gives ∙ c.utf8_chunks-chunk-items.ensures.rest),
    )

pub loop-chunk-preserved : goal.loop-chunk-preserved
loop-chunk-preserved g c =
    λ plain.
    let now = c.loop-chunk.invariant plain in
    let steps = c.in-Some.ensures.steps in
    let nul = c.args.nul in
    let bs = utf8_chunks_rest c.loop-chunk.chunk-iterator in
    let rest = utf8_chunks_rest c.next.new.self in
    let text = c.in-Some.chunk.valid.now in
    let invalid = c.in-Some.chunk.invalid.now in
    let u : IsUtf8 text = subst IsUtf8 c.valid.ensures c.valid.utf8 in
    let shown = encode_utf8_all (flat_map (escape_by nul) (chars text)) in
    let strays = encode_utf8_all (flat_map quoted_byte invalid) in
    let later = encode_utf8_all (flat_map (escape_by nul) (escaped_chars rest)) in
    let text_wrote : HasWritten g.W.Write.write_str_gives c.loop-chunk.f shown c.write_text.new.f =
    has_written_of_eq _ _ _ _ _ (ap (λ t. encode_utf8_all (flat_map (escape_by nul) (chars t))) c.valid.ensures) (c.in_ok-write_text.ensures now.1.plain refl) in
    let strays_wrote : HasWritten g.W.Write.write_str_gives c.write_text.new.f strays c.write_stray.new.f =
    has_written_of_eq _ _ _ _ _ (ap (λ t. encode_utf8_all (flat_map quoted_byte t)) c.invalid.ensures) (c.in_ok-write_stray.ensures text_wrote.plain refl) in
    let parts = quoted-parts nul bs text invalid rest (escaped_chars-chunk bs text invalid rest steps.0 u steps.3.0 steps.3.1) in (
      (now.0 ++ shown) ++ strays,
      has_written_append _ _ _ _ _ _ (has_written_append _ _ _ _ _ _ now.1 text_wrote) strays_wrote,
      append_assoc (now.0 ++ shown) strays later ∙ append_assoc now.0 shown (strays ++ later) ∙ ap (λ t. now.0 ++ t) (sym parts) ∙ now.2,
    )

pub returns : goal.returns
returns g c =
    λ plain ok.
    let now = c.loop-chunk.invariant plain in
    let escape = escape_by c.args.nul in
    let none : encode_utf8_all (flat_map escape (escaped_chars (utf8_chunks_rest c.loop-chunk.chunk-iterator))) ≡ [] =
    ap (λ t. encode_utf8_all (flat_map escape t)) (ap escaped_chars (nil_from_length _ c.in-None.ensures.steps.0) ∙ escaped_chars-nil) in
    let all : now.0 ≡ encode_utf8_all (flat_map escape (escaped_chars c.args.bytes.now)) =
    sym (append-nil now.0) ∙ ap (λ t. now.0 ++ t) (sym none) ∙ now.2 in
    has_written_of_eq _ _ _ _ _
    (ap (λ t. (0x22 ∷ t) ++ encode_utf8 0x22) all ∙ sym (encode-quoted escape c.args.bytes.now))
    (has_written_append _ _ _ _ _ _ now.1 (c.write_char-2.ensures.writes now.1.plain ok))
