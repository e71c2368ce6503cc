-- The bytes before this one stand for themselves.
use Rattle.json.specs.Written.{PlainBetween}
use Rattle.bser_json.proofs.text.is_plain_each.Given as goal

abbrev pub invariant-loop-byte : goal.invariant-loop-byte
invariant-loop-byte l = PlainBetween l.bytes 0 l.byte-index
