use Rattle.std.proofs.Common.{◌∙◌, sym, [], ◌∷◌}
use Rattle.std.proofs.lemmas.Result.{err_from_is_err_and}
use Rattle.bser_types.proofs.Tuples.{TupleOf, parts_start, parts_next, parts_end, tuple_refused, parts_refused, parts_many}
use Rattle.bser_types.proofs.impls.tuples.Tuple4Deserialize.deserialize.Goals as goal
use Rattle.bser_types.proofs.impls.tuples.Tuple4Deserialize.deserialize.Given as given

-- the parts of this tuple
abbrev parts : given.Over → TupleOf
parts g = record { types = g.A.Shape.reads ∷ g.B.Shape.reads ∷ g.C.Shape.reads ∷ g.D.Shape.reads ∷ []; asks = (g.A.Shape.asks, (g.B.Shape.asks, (g.C.Shape.asks, (g.D.Shape.asks, tt)))); plain = (g.A.Shape.plain, (g.B.Shape.plain, (g.C.Shape.plain, (g.D.Shape.plain, tt)))); needs = g.A.Shape.needs ∷ g.B.Shape.needs ∷ g.C.Shape.needs ∷ g.D.Shape.needs ∷ [] }

pub returns-in_err-seq-clause-refused : goal.returns-in_err-seq-clause-refused
returns-in_err-seq-clause-refused g c =
    rw (err_from_is_err_and c.from_residual.result c.from_residual.ensures.1).1 (tuple_refused (parts g) (rw c.in_err-seq.was at c.read_seq.follows.holds-at-none))

pub returns-in_err-first-clause-refused : goal.returns-in_err-first-clause-refused
returns-in_err-first-clause-refused g c =
    rw ((err_from_is_err_and c.from_residual-in_err-first.result c.from_residual-in_err-first.ensures.1).1, c.in_err-first.from-in-Break-branch-2-1-own.given.1 (sym (c.required_element.ensures.same_reference ∙ c.in_ok-seq.ensures.same_reference)))
    (parts_refused (parts_start (parts g) c.in_ok-seq.ensures.found) c.in_err-first.ensures.refused)

pub returns-in_err-second-clause-refused : goal.returns-in_err-second-clause-refused
returns-in_err-second-clause-refused g c =
    rw ((err_from_is_err_and c.from_residual-in_err-second.result c.from_residual-in_err-second.ensures.1).1, c.in_err-second.from-in-Break-branch-3-1-own.given.1 (sym (c.required_element-2.ensures.same_reference ∙ c.in_ok-first.ensures.same_reference ∙ c.in_ok-seq.ensures.same_reference)))
    (parts_refused (parts_next (parts_start (parts g) c.in_ok-seq.ensures.found) c.in_ok-first.ensures.found) c.in_err-second.ensures.refused)

pub returns-in_err-third-clause-refused : goal.returns-in_err-third-clause-refused
returns-in_err-third-clause-refused g c =
    rw ((err_from_is_err_and c.from_residual-in_err-third.result c.from_residual-in_err-third.ensures.1).1, c.in_err-third.from-in-Break-branch-4-1-own.given.1 (sym (c.required_element-3.ensures.same_reference ∙ c.in_ok-second.ensures.same_reference ∙ c.in_ok-first.ensures.same_reference ∙ c.in_ok-seq.ensures.same_reference)))
    (parts_refused (parts_next (parts_next (parts_start (parts g) c.in_ok-seq.ensures.found) c.in_ok-first.ensures.found) c.in_ok-second.ensures.found) c.in_err-third.ensures.refused)

pub returns-in_err-fourth-clause-refused : goal.returns-in_err-fourth-clause-refused
returns-in_err-fourth-clause-refused g c =
    rw ((err_from_is_err_and c.from_residual-in_err-fourth.result c.from_residual-in_err-fourth.ensures.1).1, c.in_err-fourth.from-in-Break-branch-5-1-own.given.1 (sym (c.required_element-4.ensures.same_reference ∙ c.in_ok-third.ensures.same_reference ∙ c.in_ok-second.ensures.same_reference ∙ c.in_ok-first.ensures.same_reference ∙ c.in_ok-seq.ensures.same_reference)))
    (parts_refused (parts_next (parts_next (parts_next (parts_start (parts g) c.in_ok-seq.ensures.found) c.in_ok-first.ensures.found) c.in_ok-second.ensures.found) c.in_ok-third.ensures.found) c.in_err-fourth.ensures.refused)

pub returns-in_err-end-clause-refused : goal.returns-in_err-end-clause-refused
returns-in_err-end-clause-refused g c =
    rw ((err_from_is_err_and c.from_residual-in_err-end.result c.from_residual-in_err-end.ensures.1).1, c.from-2-1.given.1 (sym (c.in_ok-fourth.ensures.same_reference ∙ c.in_ok-third.ensures.same_reference ∙ c.in_ok-second.ensures.same_reference ∙ c.in_ok-first.ensures.same_reference ∙ c.in_ok-seq.ensures.same_reference)))
    (parts_many (parts_next (parts_next (parts_next (parts_next (parts_start (parts g) c.in_ok-seq.ensures.found) c.in_ok-first.ensures.found) c.in_ok-second.ensures.found) c.in_ok-third.ensures.found) c.in_ok-fourth.ensures.found) c.in_err-end.ensures.err)

pub returns-clause-found : goal.returns-clause-found
returns-clause-found g c =
    rw (c.from-2-1.given.1 (sym (c.in_ok-fourth.ensures.same_reference ∙ c.in_ok-third.ensures.same_reference ∙ c.in_ok-second.ensures.same_reference ∙ c.in_ok-first.ensures.same_reference ∙ c.in_ok-seq.ensures.same_reference)))
    (parts_end (λ v. g.A.Shape.holds v.0 ∷ g.B.Shape.holds v.1 ∷ g.C.Shape.holds v.2 ∷ g.D.Shape.holds v.3 ∷ []) (c.in_ok-first.first, c.in_ok-second.second, c.in_ok-third.third, c.in_ok-fourth.fourth) (parts_next (parts_next (parts_next (parts_next (parts_start (parts g) c.in_ok-seq.ensures.found) c.in_ok-first.ensures.found) c.in_ok-second.ensures.found) c.in_ok-third.ensures.found) c.in_ok-fourth.ensures.found) c.in_ok-end.ensures.ok)
