use Rattle.std.proofs.Common.{◌∙◌, sym, refl, arith}
use Rattle.std.proofs.lemmas.Result.{err_from_is_err_and}
use Rattle.bser_types.proofs.Lists.{list_refused, items_start, items_next, item_lacks, items_end}
use Rattle.bser_types.proofs.collects.read_items.Goals as goal

pub returns-in_err-seq-clause-refused : goal.returns-in_err-seq-clause-refused
returns-in_err-seq-clause-refused g c =
    rw (err_from_is_err_and c.from_residual.result c.from_residual.ensures.1).1 (list_refused g.T.Shape.reads g.T.Shape.asks g.T.Shape.needs (rw c.in_err-seq.was at c.read_seq.follows.holds-at-none))

pub loop-alloc-init : goal.loop-alloc-init
loop-alloc-init g c = record { same_reference = refl; items = items_start c.requires c.in_ok-seq.ensures.found }

pub returns-in_err-item-clause-refused : goal.returns-in_err-item-clause-refused
returns-in_err-item-clause-refused g c =
    let i = c.loop-alloc.invariant in
    rw ((err_from_is_err_and c.from_residual-in_err-item.result c.from_residual-in_err-item.ensures.1).1, c.in_err-item.from-in-Break-branch-2-1-own.given.1 (sym (c.required_element.ensures.same_reference ∙ i.same_reference ∙ c.in_ok-seq.ensures.same_reference)))
    (item_lacks i.items (omega (arith, c.remaining.ensures, c.loop-alloc-test.true)) c.in_err-item.ensures.refused)

pub loop-alloc-preserved : goal.loop-alloc-preserved
loop-alloc-preserved g c =
    let i = c.loop-alloc.invariant in
    record {
      same_reference = c.required_element.ensures.same_reference ∙ i.same_reference;
      items = items_next i.items c.in_ok-item.ensures.found (c.collect.ensures c.if-not-collect.false);
    }

pub returns-clause-found : goal.returns-clause-found
returns-clause-found g c =
    let i = c.loop-alloc.invariant in
    rw (c.from-2-1.given.1 (sym (i.same_reference ∙ c.in_ok-seq.ensures.same_reference))) (items_end i.items c.in_ok-end.ensures.ok)
