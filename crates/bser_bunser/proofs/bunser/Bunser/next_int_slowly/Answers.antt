use Rattle.std.proofs.Common.{rules, refl, ◌∙◌}
use Rattle.std.specs.Int.{w64}
use mir.Val.{SFits}
use Rattle.std.proofs.lemmas.Int.{to_z-of_z}
use Rattle.std.proofs.lemmas.Result.{err_from_is_err_and}
use Rattle.bser_format.specs.Named.{int}
use Rattle.bser_bunser.proofs.Looks.{look, look_again}
use Rattle.bser_bunser.proofs.Ints.{took_int, short_int, short_cuts}
use Rattle.bser_bunser.proofs.bunser.Bunser.next_int_slowly.Goals as goal

pub loop-value-init : goal.loop-value-init
loop-value-init g c = record { looking = look int c.args.self.now.window; kept = refl }

pub returns-in-Found-clause-ok : goal.returns-in-Found-clause-ok
returns-in-Found-clause-ok g c =
    let here = rw (← c.self.view_is) at c.loop-value.invariant.looking in
    let fits : SFits w64 c.in-Found.value = search rules in
    let front = rw c.buffered.ensures at c.in-Found.ensures in
    rw c.consume.ensures
    (took_int c.in-Found.len c.in-Found.value _ _ _ (to_z-of_z w64 c.in-Found.value fits) here (g.met.R.DeRead.refuses c.self.inside.read) front.0 front.1)

pub loop-value-preserved : goal.loop-value-preserved
loop-value-preserved g c =
    let here = rw (← c.self.view_is) at c.loop-value.invariant.looking in
    let front = rw c.buffered.ensures at c.in-Short.ensures in
    let again = look_again int c.in-Short.need _ _ _ here (short_int _ c.in-Short.need front) (rw (← c.self.view_is) at c.in_ok-fill_slowly-in-Short.ensures.ok) in
    record { looking = again; kept = c.in_ok-fill_slowly-in-Short.ensures.kept ∙ c.loop-value.invariant.kept }

pub returns-in_err-fill_slowly-in-Short-clause-names : goal.returns-in_err-fill_slowly-in-Short-clause-names
returns-in_err-fill_slowly-in-Short-clause-names g c =
    let here = rw (← c.self.view_is) at c.loop-value.invariant.looking in
    let p = err_from_is_err_and c.from_residual.result c.from_residual.ensures.1 in
    let front = rw c.buffered.ensures at c.in-Short.ensures in
    rw p.1 (short_cuts here.need c.in-Short.need _ _ _ _ here.grown front (rw (← c.self.view_is) at c.in_err-fill_slowly-in-Short.ensures.refused.err))
