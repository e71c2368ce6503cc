-- One node after the other is told.
use Rattle.bser_document.specs.Tells.{TakesNowhere}
use Rattle.bser_document.proofs.Tells.{none_told, one_told, told_nowhere}
use Rattle.bser_document.proofs.document.Document.tell.Goals as goal

pub loop-node-init : goal.loop-node-init
loop-node-init g c = none_told (TakesNowhere g.B.Builder.takes) c.args.self.now c.args.builder.now

pub loop-node-preserved : goal.loop-node-preserved
loop-node-preserved g c =
    one_told (TakesNowhere g.B.Builder.takes) c.args.self.now c.deref-node-items.result.now c.loop-node.node-index _ c.args.builder.now c.loop-node.builder c.take.new.self c.deref-node-items.ensures.value c.loop-node-test.true
    (λ within. told_nowhere g.B.Builder.takes _ _ c.place.result c.loop-node.builder c.take.new.self (c.place.ensures c.args.self.now.strings.items) (c.event.ensures within) c.in_ok-take.ensures.ok) c.loop-node.invariant
