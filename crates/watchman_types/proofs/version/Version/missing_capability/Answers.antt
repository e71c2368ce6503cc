-- The names before this one are there.
use Rattle.std.proofs.Common.{sym, ◌∙◌, refl}
use Rattle.watchman_types.proofs.Missing.{missing_here, missing_later, none_left}
use Rattle.watchman_types.proofs.version.Version.missing_capability.Goals as goal

pub loop-name-init : goal.loop-name-init
loop-name-init g c = refl

pub returns-then-not-has_capability : goal.returns-then-not-has_capability
returns-then-not-has_capability g c =
    sym (missing_here g.S.MapKey.name c.args.self.now.capabilities c.args.required.now c.loop-name.name-index _ c.loop-name-test.true c.if-not-has_capability.ensures) ∙ c.loop-name.invariant

pub loop-name-preserved : goal.loop-name-preserved
loop-name-preserved g c =
    sym (missing_later g.S.MapKey.name c.args.self.now.capabilities c.args.required.now c.loop-name.name-index _ c.loop-name-test.true c.if-not-has_capability.ensures) ∙ c.loop-name.invariant

pub returns : goal.returns
returns g c =
    sym (none_left g.S.MapKey.name c.args.self.now.capabilities c.args.required.now c.loop-name.name-index c.loop-name-test.false) ∙ c.loop-name.invariant
