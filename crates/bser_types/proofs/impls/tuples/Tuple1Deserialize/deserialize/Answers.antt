use Rattle.std.proofs.Common.{◌∙◌, sym, [], ◌∷◌}
use Rattle.std.proofs.lemmas.Result.{err_from_is_err_and}
use Rattle.bser_types.proofs.Tuples.{TupleOf, parts_start, parts_next, parts_end, tuple_refused, parts_refused, parts_many}
use Rattle.bser_types.proofs.impls.tuples.Tuple1Deserialize.deserialize.Goals as goal
use Rattle.bser_types.proofs.impls.tuples.Tuple1Deserialize.deserialize.Given as given

-- the parts of this tuple
abbrev parts : given.Over → TupleOf
parts g = record { types = g.A.Shape.reads ∷ []; asks = (g.A.Shape.asks, tt); plain = (g.A.Shape.plain, tt); needs = g.A.Shape.needs ∷ [] }

pub returns-in_err-seq-clause-refused : goal.returns-in_err-seq-clause-refused
returns-in_err-seq-clause-refused g c =
    rw (err_from_is_err_and c.from_residual.result c.from_residual.ensures.1).1 (tuple_refused (parts g) (rw c.in_err-seq.was at c.read_seq.follows.holds-at-none))

pub returns-in_err-only-clause-refused : goal.returns-in_err-only-clause-refused
returns-in_err-only-clause-refused g c =
    rw ((err_from_is_err_and c.from_residual-in_err-only.result c.from_residual-in_err-only.ensures.1).1, c.in_err-only.from-in-Break-branch-2-1-own.given.1 (sym (c.required_element.ensures.same_reference ∙ c.in_ok-seq.ensures.same_reference)))
    (parts_refused (parts_start (parts g) c.in_ok-seq.ensures.found) c.in_err-only.ensures.refused)

pub returns-in_err-end-clause-refused : goal.returns-in_err-end-clause-refused
returns-in_err-end-clause-refused g c =
    rw ((err_from_is_err_and c.from_residual-in_err-end.result c.from_residual-in_err-end.ensures.1).1, c.from-2-1.given.1 (sym (c.in_ok-only.ensures.same_reference ∙ c.in_ok-seq.ensures.same_reference)))
    (parts_many (parts_next (parts_start (parts g) c.in_ok-seq.ensures.found) c.in_ok-only.ensures.found) c.in_err-end.ensures.err)

pub returns-clause-found : goal.returns-clause-found
returns-clause-found g c =
    rw (c.from-2-1.given.1 (sym (c.in_ok-only.ensures.same_reference ∙ c.in_ok-seq.ensures.same_reference)))
    (parts_end (λ v. g.A.Shape.holds v.0 ∷ []) (record { 0 = c.in_ok-only.only }) (parts_next (parts_start (parts g) c.in_ok-seq.ensures.found) c.in_ok-only.ensures.found) c.in_ok-end.ensures.ok)
