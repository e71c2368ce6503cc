use Rattle.std.proofs.Common.{◌≡◌, ◌++◌, string_bytes}
use Rattle.std.specs.Str.Chunks.{utf8_chunks_rest}
use Rattle.bser_format.specs.Escaped.{escaped}
use Rattle.bser_format.proofs.bytestring.ByteString.as_escaped_string.Given as goal

abbrev pub invariant-loop-chunk : goal.invariant-loop-chunk
invariant-loop-chunk l = string_bytes l.text ++ escaped (utf8_chunks_rest l.chunk-iterator) ≡ escaped l.fn.self
