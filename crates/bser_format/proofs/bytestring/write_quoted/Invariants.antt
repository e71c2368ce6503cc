use Rattle.std.proofs.Common.{◌≡◌, ℕ, List, ◌∷◌, ◌++◌, flat_map, encode_utf8_all}
use Rattle.std.specs.Fmt.{HasWritten, IsPlainFormatter}
use Rattle.std.specs.Str.Chunks.{utf8_chunks_rest}
use Rattle.bser_format.specs.ByteStrings.{escape_by}
use Rattle.bser_format.specs.Escaped.{escaped_chars}
use Rattle.bser_format.proofs.bytestring.write_quoted.Given as goal

abbrev pub invariant-loop-chunk : goal.invariant-loop-chunk
invariant-loop-chunk g l =
    IsPlainFormatter l.fn.f
    → (done : List ℕ) × HasWritten g.W.Write.write_str_gives l.fn.f (0x22 ∷ done) l.f
    × (done ++ encode_utf8_all (flat_map (escape_by l.fn.nul) (escaped_chars (utf8_chunks_rest l.chunk-iterator)))
    ≡ encode_utf8_all (flat_map (escape_by l.fn.nul) (escaped_chars l.fn.bytes)))
