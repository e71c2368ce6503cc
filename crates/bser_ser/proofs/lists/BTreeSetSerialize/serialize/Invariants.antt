use Rattle.bser_ser.proofs.Texts.{ItemsPut}
use Rattle.bser_ser.proofs.lists.BTreeSetSerialize.serialize.Given as goal

abbrev pub invariant-loop-item : goal.invariant-loop-item
invariant-loop-item g l = ItemsPut g.W.Sink g.T.Serialize.meaning l.self.keys l.item-iterator l.fn.out l.out
