-- A value is gone past.
use Rattle.bser_serde_format.proofs.Onward.{any_one}
use Rattle.bser_serde_format.proofs.walk.Walk.skip_value.Goals as goal

pub pass-requires-in-Some-clause-one : goal.pass-requires-in-Some-clause-one
pass-requires-in-Some-clause-one c = any_one c.args.self.now.inner.form c.args.self.now.inner.levels c.args.self.now.rest.now _ c.in-Some.ensures
