use Rattle.std.proofs.Common.{drop}
use Rattle.bser_ser.proofs.Texts.{ItemsPut}
use Rattle.bser_ser.proofs.holders.RefSliceSerialize.serialize.Given as goal

abbrev pub invariant-loop-item : goal.invariant-loop-item
invariant-loop-item g l = ItemsPut g.W.Sink g.T.Serialize.meaning l.item-items (drop l.item-index l.item-items) l.fn.out l.out
