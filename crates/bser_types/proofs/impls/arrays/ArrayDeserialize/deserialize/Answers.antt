use Rattle.std.proofs.Common.{◌∙◌, sym, refl, arith}
use Rattle.std.proofs.lemmas.Result.{err_from_is_err_and}
use Rattle.bser_types.proofs.EqualParts.{equal_refused, equal_start, equal_next, equal_lacks, equal_many, equal_end}
use Rattle.bser_types.proofs.impls.arrays.ArrayDeserialize.deserialize.Goals as goal

pub returns-in_err-seq-clause-refused : goal.returns-in_err-seq-clause-refused
returns-in_err-seq-clause-refused g c =
    rw (err_from_is_err_and c.from_residual.result c.from_residual.ensures.1).1 (equal_refused g.row.N g.T.Shape.reads g.T.Shape.asks g.T.Shape.needs (rw c.in_err-seq.was at c.read_seq.follows.holds-at-none))

pub loop-alloc-init : goal.loop-alloc-init
loop-alloc-init g c = record { same_reference = refl; items = rw c.new-items.ensures.items (equal_start c.in_ok-seq.ensures.found) }

pub returns-in_err-item-clause-refused : goal.returns-in_err-item-clause-refused
returns-in_err-item-clause-refused g c =
    let i = c.loop-alloc.invariant in
    rw ((err_from_is_err_and c.from_residual-in_err-item.result c.from_residual-in_err-item.ensures.1).1, c.in_err-item.from-in-Break-branch-2-1-own.given.1 (sym (c.required_element.ensures.same_reference ∙ i.same_reference ∙ c.in_ok-seq.ensures.same_reference)))
    (equal_lacks i.items (omega (arith, c.len.ensures, c.loop-alloc-test.true)) c.in_err-item.ensures.refused)

pub loop-alloc-preserved : goal.loop-alloc-preserved
loop-alloc-preserved g c =
    let i = c.loop-alloc.invariant in
    record {
      same_reference = c.required_element.ensures.same_reference ∙ i.same_reference;
      items = rw c.in-Ok.ensures.items (equal_next i.items (omega (arith, c.len.ensures, c.loop-alloc-test.true)) c.in_ok-item.ensures.found);
    }

pub returns-in_err-end-clause-refused : goal.returns-in_err-end-clause-refused
returns-in_err-end-clause-refused g c =
    let i = c.loop-alloc.invariant in
    rw ((err_from_is_err_and c.from_residual-in_err-end.result c.from_residual-in_err-end.ensures.1).1, c.from-2-1.given.1 (sym (i.same_reference ∙ c.in_ok-seq.ensures.same_reference)))
    (equal_many i.items (λ some. omega (arith, c.len.ensures, c.loop-alloc-test.false, some)) c.in_err-end.ensures.err)

pub returns-clause-found : goal.returns-clause-found
returns-clause-found g c =
    let i = c.loop-alloc.invariant in
    rw (c.from-2-1.given.1 (sym (i.same_reference ∙ c.in_ok-seq.ensures.same_reference)), c.in-Ok-try_from.ensures.0)
    (equal_end i.items (λ some. omega (arith, c.len.ensures, c.loop-alloc-test.false, some)) c.in_ok-end.ensures.ok)
