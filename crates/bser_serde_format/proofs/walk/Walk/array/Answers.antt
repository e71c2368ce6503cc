-- The items of an array follow.
use Rattle.std.proofs.Common.{refl, rules}
use Rattle.bser_serde_format.proofs.Firsts.{array_one}
use Rattle.bser_serde_format.proofs.Parts.{array_leaves}
use Rattle.bser_serde_format.proofs.walk.Walk.array.Goals as goal

pub enter-requires-clause-inside : goal.enter-requires-clause-inside
enter-requires-clause-inside c z l =
    let a = c.args.self.now in
    array_one a.inner.form a.inner.levels _ a.rest.now _ z (search rules) (search rules) (search rules) c.in-Some.ensures (array_leaves _ _ z refl refl l)
