-- A number is gone past.
use Rattle.std.proofs.Common.{subst}
use Rattle.bser_events.proofs.AtStart.{Fronts}
use Rattle.bser_serde_format.proofs.Onward.{any_one}
use Rattle.bser_serde_format.proofs.Pieces.{integer_reads, real_reads}
use Rattle.bser_serde_format.proofs.walk.Walk.real.Goals as goal

pub pass-requires-clause-one : goal.pass-requires-clause-one
pass-requires-clause-one c =
    let a = c.args.self.now in
    let found = c.in-Found in
    any_one a.inner.form a.inner.levels a.rest.now _
    (_, real_reads a.inner.levels found.len c.in-Real.bits a.rest.now (subst (λ t. Fronts t found.len a.rest.now) c.in-Real.is found.ensures))

pub pass-requires-in-Int-clause-one : goal.pass-requires-in-Int-clause-one
pass-requires-in-Int-clause-one c =
    let a = c.args.self.now in
    let found = c.in-Found in
    any_one a.inner.form a.inner.levels a.rest.now _
    (_, integer_reads a.inner.levels found.len c.in-Int.number a.rest.now (subst (λ t. Fronts t found.len a.rest.now) c.in-Int.is found.ensures))
