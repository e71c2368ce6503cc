use Rattle.std.proofs.Common.{length, refl}
use Rattle.std.proofs.lemmas.List.{drop_all}
use Rattle.std.proofs.lemmas.Result.{err_from_is_err_and}
use Rattle.bser_format.specs.Written.{array_tree}
use Rattle.bser_source.proofs.Lists.{item_here}
use Rattle.bser_ser.proofs.Writable.{within_writable}
use Rattle.bser_ser.proofs.Texts.{items_start, items_more, items_put, items_writable, items_stop, Ends-slice, Stops-slice}
use Rattle.bser_ser.proofs.holders.RefSliceSerialize.serialize.Goals as goal

pub loop-item-init : goal.loop-item-init
loop-item-init g c = items_start refl c.in_ok-put_seq.ensures.put.0

pub loop-item-preserved : goal.loop-item-preserved
loop-item-preserved g c =
    items_more g.met.W.Sink.took_both c.loop-item.invariant (item_here _ c.loop-item.item-index c.item-item.result c.loop-item-test.true c.item-item.is) c.in_ok-serialize.ensures.ok c.in_ok-serialize.ensures.writable

pub returns-in_err-serialize-clause-err : goal.returns-in_err-serialize-clause-err
returns-in_err-serialize-clause-err g c =
    let p = err_from_is_err_and c.from_residual-in_err-serialize.result c.from_residual-in_err-serialize.ensures.1 in
    rw (p.1, p.2) (Stops-slice g.W.Sink g.T.Serialize.meaning c.args.self.now.now c.args.out.now c.serialize.new.out c.in_err-serialize.field-0.0 c.in_ok-put_seq.ensures.counted
    (items_stop _ _ g.met.W.Sink.took_both c.loop-item.invariant (item_here _ c.loop-item.item-index c.item-item.result c.loop-item-test.true c.item-item.is) c.in_err-serialize.ensures.err))

pub returns-clause-ok : goal.returns-clause-ok
returns-clause-ok g c =
    Ends-slice g.W.Sink g.T.Serialize.meaning c.args.self.now.now c.args.out.now c.loop-item.out c.in_ok-put_seq.ensures.counted
    (items_put c.loop-item.invariant (drop_all c.loop-item.item-index _ c.loop-item-test.false))

pub returns-clause-writable : goal.returns-clause-writable
returns-clause-writable g c =
    within_writable (length c.args.self.now.now) (array_tree g.T.Serialize.meaning c.args.self.now.now) (items_writable c.loop-item.invariant (drop_all c.loop-item.item-index _ c.loop-item-test.false))
