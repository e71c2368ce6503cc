use Rattle.std.proofs.Common.{◌≡◌, rules, arith, length}
use Rattle.std.proofs.lemmas.Result.{err_from_is_err_and}
use Rattle.bser_ser.proofs.Texts.{items_start, items_more, items_put, items_writable, items_stop, no_items}
use Rattle.bser_ser.proofs.lists.VecDequeSerialize.serialize.Goals as goal

pub loop-item-init : goal.loop-item-init
loop-item-init g c =
    let n : c.len.result ≡ length c.args.self.now.items = omega arith in
    items_start (search rules) (rw n at c.in_ok-put_seq.ensures.put.0)

pub loop-item-preserved : goal.loop-item-preserved
loop-item-preserved g c =
    items_more g.met.W.Sink.took_both c.loop-item.invariant c.in-Some.ensures.steps c.in_ok-serialize.ensures.ok c.in_ok-serialize.ensures.writable

pub returns-in_err-serialize-clause-err : goal.returns-in_err-serialize-clause-err
returns-in_err-serialize-clause-err g c =
    let p = err_from_is_err_and c.from_residual-in_err-serialize.result c.from_residual-in_err-serialize.ensures.1 in
    rw (p.1, p.2) (items_stop _ _ g.met.W.Sink.took_both c.loop-item.invariant c.in-Some.ensures.steps c.in_err-serialize.ensures.err)

pub returns-clause-ok : goal.returns-clause-ok
returns-clause-ok g c = items_put c.loop-item.invariant (no_items _ c.in-None.ensures.steps.0)

pub returns-clause-writable : goal.returns-clause-writable
returns-clause-writable g c = items_writable c.loop-item.invariant (no_items _ c.in-None.ensures.steps.0) (omega (arith, c.in_ok-put_seq.ensures.counted))
