-- The rows of a template follow.
use Rattle.std.proofs.Common.{refl, rules, arith}
use Rattle.bser_serde_format.proofs.Firsts.{template_one}
use Rattle.bser_serde_format.proofs.Onward.{within_inner, then_steps}
use Rattle.bser_serde_format.proofs.Parts.{rows_leave}
use Rattle.bser_serde_format.proofs.walk.Walk.template.Goals as goal
use Rattle.bser_serde_format.proofs.walk.Walk.template.Goals.{else-width-eq0-via-then-width-eq0+else-rows-ne0, else-width-eq0-via-else-width-eq0}

pub enter-requires-clause-inside : goal.enter-requires-clause-inside
enter-requires-clause-inside c z l =
    let a = c.args.self.now in
    template_one a.inner.form a.inner.levels _ _ a.rest.now _ _ _ z (omega arith) (omega arith) c.requires.tag (search rules) c.in-Some.ensures c.in_ok-rest.ensures c.in-Some-count.ensures
    (λ e. elim c.else-width-eq0.branch [ else-width-eq0-via-then-width-eq0+else-rows-ne0 w ↦ w.if-rows-ne0.false | else-width-eq0-via-else-width-eq0 w ↦ absurd (w.if-width-eq0.false e) ])
    (rows_leave _ _ _ z refl refl refl refl l)

pub returns : goal.returns
returns c = then_steps c.args.self.now _ _ (within_inner c.args.self.now _ refl refl (λ z l. l)) c.enter.ensures
