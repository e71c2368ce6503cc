use Rattle.std.proofs.Common.{rules, refl, ◌∙◌}
use Rattle.std.proofs.lemmas.Result.{err_from_is_err_and}
use Rattle.bser_format.specs.declared.errors.Kind.TheVariants.{NextItem}
use Rattle.bser_bunser.specs.Tokens.{token}
use Rattle.bser_bunser.proofs.Faults.{short_place, fault_place, fault_fails}
use Rattle.bser_bunser.proofs.Names.{names_rejected}
use Rattle.bser_bunser.proofs.Looks.{look, look_again, look_names}
use Rattle.bser_bunser.proofs.Tokens.{took_token, token_fits}
use Rattle.bser_bunser.proofs.bunser.Bunser.token.Goals as goal

pub loop-value-init : goal.loop-value-init
loop-value-init g c = record { looking = look token c.args.self.now.window; kept = refl }

pub returns-in-Found-clause-ok : goal.returns-in-Found-clause-ok
returns-in-Found-clause-ok g c =
    let here = rw (← c.self.view_is) at c.loop-value.invariant.looking in
    let front = rw c.buffered.ensures at c.in-Found.ensures in
    rw c.consume.ensures
    (took_token c.in-Found.len c.in-Found.value _ _ here (g.met.R.DeRead.refuses c.self.inside.read) front.0 front.1)

pub returns-in-Found-clause-fits : goal.returns-in-Found-clause-fits
returns-in-Found-clause-fits g c =
    let front = rw c.buffered.ensures at c.in-Found.ensures in
    token_fits c.in-Found.value _ front.1

pub loop-value-preserved : goal.loop-value-preserved
loop-value-preserved g c =
    let here = rw (← c.self.view_is) at c.loop-value.invariant.looking in
    let front = rw c.buffered.ensures at c.in-Short.ensures in
    let again = look_again token c.in-Short.need _ _ _ here front (rw (← c.self.view_is) at c.in_ok-fill_slowly-in-Short.ensures.ok) in
    record { looking = again; kept = c.in_ok-fill_slowly-in-Short.ensures.kept ∙ c.loop-value.invariant.kept }

pub returns-in_err-fill_slowly-in-Short-clause-refused : goal.returns-in_err-fill_slowly-in-Short-clause-refused
returns-in_err-fill_slowly-in-Short-clause-refused g c =
    let here = rw (← c.self.view_is) at c.loop-value.invariant.looking in
    let p = err_from_is_err_and c.from_residual.result c.from_residual.ensures.1 in
    let front = rw c.buffered.ensures at c.in-Short.ensures in
    let no = c.in_err-fill_slowly-in-Short.ensures.refused in
    let names = look_names token c.in-Short.need _ _ _ _ here front (rw (← c.self.view_is) at no.err) in
    rw p.1 (record { err = search rules; names = names; memory = no.memory })

pub returns-in_err-fill_slowly-in-Short-clause-place : goal.returns-in_err-fill_slowly-in-Short-clause-place
returns-in_err-fill_slowly-in-Short-clause-place g c =
    let p = err_from_is_err_and c.from_residual.result c.from_residual.ensures.1 in
    rw p.1 (short_place c.in-Short.need _ _ _ _ _ c.in_err-fill_slowly-in-Short.ensures.refused.err)

pub returns-in-Unexpected-clause-refused : goal.returns-in-Unexpected-clause-refused
returns-in-Unexpected-clause-refused g c =
    let here = rw (← c.self.view_is) at c.loop-value.invariant.looking in
    let front = rw c.buffered.ensures at c.in-Unexpected.ensures in
    let names = names_rejected token here.need _ _ _ here.grown front.0 in
    let why = c.in-Unexpected.why in
    let err = fault_fails token NextItem why _ _ _ here (g.met.R.DeRead.refuses c.self.inside.read) front.0.some (rw (← c.self.view_is) at c.refuse_token.ensures.state) in
    rw c.refuse_token.ensures.reason (record { err = err; names = names; memory = rw c.refuse_token.ensures.reason at c.refuse_token.ensures.memory })

pub returns-in-Unexpected-clause-place : goal.returns-in-Unexpected-clause-place
returns-in-Unexpected-clause-place g c =
    let here = rw (← c.self.view_is) at c.loop-value.invariant.looking in
    rw c.refuse_token.ensures.reason (fault_place NextItem c.in-Unexpected.why here.need _ _ _ here.grown (rw (← c.self.view_is) at c.refuse_token.ensures.state))
