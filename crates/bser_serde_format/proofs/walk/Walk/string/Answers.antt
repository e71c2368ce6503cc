-- A string is gone past.
use Rattle.bser_serde_format.proofs.Firsts.{string_one}
use Rattle.bser_serde_format.proofs.walk.Walk.string.Goals as goal

pub pass-requires-clause-one : goal.pass-requires-clause-one
pass-requires-clause-one c =
    let a = c.args.self.now in
    string_one a.inner.form a.inner.levels _ a.rest.now _ _ c.in-Some.ensures (c.may_be.ensures c.if-not-may_be.false)
