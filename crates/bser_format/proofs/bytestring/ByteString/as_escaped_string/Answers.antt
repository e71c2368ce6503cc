use Rattle.std.proofs.Common.{◌≡◌, ◌++◌, [], flat_map, string_bytes, encode_utf8_all, IsUtf8, sym, ap, ap₂, subst, ◌∙◌, append_assoc, append-nil}
use Rattle.std.specs.Str.Chunks.{utf8_chunks_rest}
use Rattle.std.proofs.lemmas.List.{nil_from_length}
use Rattle.bser_format.specs.Escaped.{escaped_byte, escaped, IsEscaped}
use Rattle.bser_format.proofs.Escapes.{escaped-parts, escaped_chars-nil}
use Rattle.bser_format.proofs.Cuts.{IsEscaped-escaped}
use Rattle.bser_format.proofs.Strays.{escaped_chars-chunk}
use Rattle.bser_format.proofs.bytestring.ByteString.as_escaped_string.Goals as goal

pub loop-chunk-preserved : goal.loop-chunk-preserved
loop-chunk-preserved c =
    let steps = c.in-Some.ensures.steps in
    let bs = utf8_chunks_rest c.loop-chunk.chunk-iterator in
    let rest = utf8_chunks_rest c.next.new.self in
    let text = c.in-Some.chunk.valid.now in
    let invalid = c.in-Some.chunk.invalid.now in
    let made = string_bytes c.loop-chunk.text in
    let strays = encode_utf8_all (flat_map escaped_byte invalid) in
    let u : IsUtf8 text = subst IsUtf8 c.valid.ensures c.valid.utf8 in
    let is : escaped bs ≡ text ++ (strays ++ escaped rest) =
    escaped-parts bs text invalid rest u (escaped_chars-chunk bs text invalid rest steps.0 u steps.3.0 steps.3.1) in
    let new : string_bytes c.push_escaped.new.text ≡ (made ++ text) ++ strays =
    c.in_ok-push_escaped.ensures
    ∙ ap₂ (λ s t. s ++ encode_utf8_all (flat_map escaped_byte t)) (c.in_ok-push_str.ensures.bytes ∙ ap (λ t. made ++ t) c.valid.ensures) c.invalid.ensures in
    ap (λ t. t ++ escaped rest) new
    ∙ append_assoc (made ++ text) strays (escaped rest)
    ∙ append_assoc made text (strays ++ escaped rest)
    ∙ ap (λ t. made ++ t) (sym is)
    ∙ c.loop-chunk.invariant

pub returns : goal.returns
returns c =
    let made = string_bytes c.loop-chunk.text in
    let none : escaped (utf8_chunks_rest c.loop-chunk.chunk-iterator) ≡ [] =
    ap escaped (nil_from_length _ c.in-None.ensures.steps.0) ∙ ap encode_utf8_all escaped_chars-nil in
    let text : made ≡ escaped c.args.self.now = sym (append-nil made) ∙ ap (λ t. made ++ t) (sym none) ∙ c.loop-chunk.invariant in
    record { text = text; cut = subst (IsEscaped c.args.self.now) (sym text) (IsEscaped-escaped c.args.self.now) }
