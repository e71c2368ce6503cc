use Rattle.std.proofs.Common.{arith, subst, ◌∙◌}
use Rattle.std.proofs.lemmas.Result.{err_from_is_err_and}
use Rattle.bser_format.specs.Pieces.{array_head}
use Rattle.bser_ser.specs.Sent.{Sent}
use Rattle.bser_ser.proofs.Texts.{items_start, items_more, items_put, items_writable, items_stop}
use Rattle.bser_ser.proofs.lists.BTreeSetSerialize.serialize.Goals as goal

pub loop-item-init : goal.loop-item-init
loop-item-init g c =
    items_start (c.into_iter-item-iterator.ensures.into_iter_gives ∙ c.iter-item-items.ensures.rest) (subst (λ n. Sent g.W.Sink c.args.out.now c.put_seq.new.self (array_head n)) c.len.ensures.len c.in_ok-put_seq.ensures.put.0)

pub loop-item-preserved : goal.loop-item-preserved
loop-item-preserved g c =
    items_more g.met.W.Sink.took_both c.loop-item.invariant c.in-Some.ensures.steps c.in_ok-serialize.ensures.ok c.in_ok-serialize.ensures.writable

pub returns-in_err-serialize-clause-err : goal.returns-in_err-serialize-clause-err
returns-in_err-serialize-clause-err g c =
    let p = err_from_is_err_and c.from_residual-in_err-serialize.result c.from_residual-in_err-serialize.ensures.1 in
    rw (p.1, p.2) (items_stop _ _ g.met.W.Sink.took_both c.loop-item.invariant c.in-Some.ensures.steps c.in_err-serialize.ensures.err)

pub returns-clause-ok : goal.returns-clause-ok
returns-clause-ok g c = items_put c.loop-item.invariant c.in-None.ensures.steps.0

pub returns-clause-writable : goal.returns-clause-writable
returns-clause-writable g c = items_writable c.loop-item.invariant c.in-None.ensures.steps.0 (omega (arith, c.in_ok-put_seq.ensures.counted))
