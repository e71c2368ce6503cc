use Rattle.std.proofs.Common.{flat_map, encode_utf8_all}
use Rattle.std.specs.Fmt.{HasWritten, IsPlainFormatter}
use Rattle.bser_format.specs.QuotedText.{json_escape}
use Rattle.bser_format.proofs.quoted.write_characters.Given as goal

abbrev pub invariant-loop-c : goal.invariant-loop-c
invariant-loop-c g l =
    IsPlainFormatter l.fn.f
    → HasWritten g.W.Write.write_str_gives l.fn.f (encode_utf8_all (flat_map json_escape l.yielded)) l.f
