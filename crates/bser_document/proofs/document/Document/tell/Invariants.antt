-- The nodes up to here were told.
use Rattle.bser_document.specs.Tells.{TakesNowhere}
use Rattle.bser_document.proofs.Tells.{FrontTold}
use Rattle.bser_document.proofs.document.Document.tell.Given as goal

abbrev pub invariant-loop-node : goal.invariant-loop-node
invariant-loop-node g l = FrontTold (TakesNowhere g.B.Builder.takes) l.self l.node-index l.fn.builder l.builder
