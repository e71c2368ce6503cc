-- The digits up to here were put.
use Rattle.std.proofs.Common.{length}
use Rattle.hex.specs.Hex.{encode_lower}
use Rattle.bser_json.proofs.Parts.{PutsUpTo}
use Rattle.bser_json.proofs.printing.Printing.long_hexadecimal.Given as goal

abbrev pub invariant-loop-rest : goal.invariant-loop-rest
invariant-loop-rest g l = PutsUpTo g.W.Write.contents encode_lower l.fn.bytes l.rest l.fn.self l.self

abbrev pub decreases-loop-rest : goal.decreases-loop-rest
decreases-loop-rest g l = length l.rest
