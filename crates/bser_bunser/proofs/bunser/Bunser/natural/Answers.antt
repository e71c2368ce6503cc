use Rattle.std.proofs.Common.{rules}
use Rattle.std.specs.Int.{w64}
use mir.Val.{SFits}
use Rattle.std.proofs.lemmas.Int.{to_z-of_z}
use Rattle.std.proofs.lemmas.Result.{err_from_is_err_and}
use Rattle.bser_format.specs.Named.{int, natural}
use Rattle.bser_bunser.proofs.Names.{names_first}
use Rattle.bser_bunser.proofs.Counted.{below_names}
use Rattle.bser_bunser.proofs.Faults.{below_place}
use Rattle.bser_bunser.proofs.bunser.Bunser.natural.Goals as goal

pub returns-in_err-number-clause-refused : goal.returns-in_err-number-clause-refused
returns-in_err-number-clause-refused g c =
    let p = err_from_is_err_and c.from_residual.result c.from_residual.ensures.1 in
    let no = c.in_err-number.ensures.refused in
    rw p.1 (record { err = no.err; names = names_first int (natural c.args.complaint) _ _ no.names; memory = no.memory })

pub returns-then-number-lt0-clause-refused : goal.returns-then-number-lt0-clause-refused
returns-then-number-lt0-clause-refused g c =
    let fits : SFits w64 c.in_ok-number.number = search rules in
    record { err = search rules; names = rw (c.refuse.ensures.reason, c.de_custom.ensures) (below_names c.args.complaint c.in_ok-number.number _ _ (rw (to_z-of_z w64 c.in_ok-number.number fits) at c.if-number-lt0.true) c.in_ok-number.ensures.ok); memory = search rules }

pub overflow_cast-result : goal.overflow_cast-result
overflow_cast-result g c = search rules

pub returns-clause-ok : goal.returns-clause-ok
returns-clause-ok g c = search rules

pub returns-clause-fits : goal.returns-clause-fits
returns-clause-fits g c = search rules

pub returns-then-number-lt0-clause-place : goal.returns-then-number-lt0-clause-place
returns-then-number-lt0-clause-place g c =
    let fits : SFits w64 c.in_ok-number.number = search rules in
    rw (c.refuse.ensures.reason, c.de_custom.ensures) (below_place c.args.complaint c.in_ok-number.number _ _ _ (rw (to_z-of_z w64 c.in_ok-number.number fits) at c.if-number-lt0.true) c.in_ok-number.ensures.ok c.refuse.ensures.state)
