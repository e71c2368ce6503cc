use Rattle.std.proofs.Common.{inl}
use Rattle.std.proofs.lemmas.Result.{err_from_is_err_and}
use Rattle.bser_format.specs.Named.{front, size}
use Rattle.bser_bunser.proofs.Names.{names_first}
use Rattle.bser_bunser.proofs.Counted.{string_names_or, took_counted}
use Rattle.bser_bunser.proofs.bunser.Bunser.next_copy.Goals as goal

pub returns-in_err-len-clause-names : goal.returns-in_err-len-clause-names
returns-in_err-len-clause-names g c =
    let p = err_from_is_err_and c.from_residual.result c.from_residual.ensures.1 in
    rw p.1 (inl (names_first size front _ _ c.in_err-len.ensures.refused.names))

pub returns-clause-names : goal.returns-clause-names
returns-clause-names g c =
    string_names_or c.copy.result c.in_ok-len.len _ _ _ c.in_ok-len.ensures.ok c.copy.ensures.names

pub returns-clause-ok : goal.returns-clause-ok
returns-clause-ok g c =
    took_counted (λ v. v.items) c.copy.result _ _ _ c.in_ok-len.len c.in_ok-len.ensures.ok c.copy.ensures.length c.copy.ensures.ok
