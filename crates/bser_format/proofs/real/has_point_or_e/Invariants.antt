-- None of the bytes so far is one.
use Rattle.std.proofs.Common.{◌≡◌, false, take}
use Rattle.bser_format.specs.RealText.{has_point_or_e}
use Rattle.bser_format.proofs.real.has_point_or_e.Given as goal

abbrev pub invariant-loop-byte : goal.invariant-loop-byte
invariant-loop-byte l = has_point_or_e (take l.byte-index l.text) ≡ false
