use Rattle.std.proofs.Common.{take, flat_map, encode_utf8_all}
use Rattle.std.specs.Fmt.{HasWritten, IsPlainFormatter}
use Rattle.bser_format.specs.MarkedText.{hex_byte}
use Rattle.bser_format.proofs.marked.write_hex.Given as goal

abbrev pub invariant-loop-byte : goal.invariant-loop-byte
invariant-loop-byte g l =
    IsPlainFormatter l.fn.f
    → HasWritten g.W.Write.write_str_gives l.fn.f (encode_utf8_all (flat_map hex_byte (take l.byte-index l.bytes))) l.f
