-- The characters so far are counted.
use Rattle.std.proofs.Common.{◌≡◌, count_by, take}
use Rattle.bser_from_json.specs.Lines.{begins_character}
use Rattle.bser_from_json.proofs.fault.characters.Given as goal

abbrev pub invariant-loop-byte : goal.invariant-loop-byte
invariant-loop-byte l = l.count ≡ count_by begins_character (take l.byte-index l.bytes)
