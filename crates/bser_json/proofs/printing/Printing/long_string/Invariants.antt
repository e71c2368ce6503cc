-- The string up to here was put.
use Rattle.std.proofs.Common.{length}
use denote.Text.{Utf8}
use denote.Shadow.{shadow}
use Rattle.bser_json.proofs.Parts.{PutsUpTo}
use Rattle.bser_json.proofs.printing.Printing.long_string.Given as goal

abbrev pub invariant-loop-rest : goal.invariant-loop-rest
invariant-loop-rest g l = record { text : shadow (Utf8 l.rest); put : PutsUpTo g.W.Write.contents (λ s. s) l.fn.text l.rest l.fn.self l.self }

abbrev pub decreases-loop-rest : goal.decreases-loop-rest
decreases-loop-rest g l = length l.rest
