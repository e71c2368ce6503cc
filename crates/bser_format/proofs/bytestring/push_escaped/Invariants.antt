use Rattle.std.proofs.Common.{◌≡◌, ◌++◌, take, flat_map, string_bytes, encode_utf8_all}
use Rattle.bser_format.specs.Escaped.{escaped_byte}
use Rattle.bser_format.proofs.bytestring.push_escaped.Given as goal

abbrev pub invariant-loop-byte : goal.invariant-loop-byte
invariant-loop-byte l = string_bytes l.text ≡ string_bytes l.fn.text ++ encode_utf8_all (flat_map escaped_byte (take l.byte-index l.bytes))
