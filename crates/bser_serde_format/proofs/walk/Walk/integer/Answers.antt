-- An integer is gone past.
use Rattle.bser_serde_format.proofs.Onward.{any_one}
use Rattle.bser_serde_format.proofs.walk.Walk.integer.Goals as goal

pub pass-requires-clause-one : goal.pass-requires-clause-one
pass-requires-clause-one c =
    any_one c.args.self.now.inner.form c.args.self.now.inner.levels c.args.self.now.rest.now _ (_, c.in-Some.ensures c.args.self.now.inner.levels)
