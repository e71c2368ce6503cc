-- The entries of an object follow.
use Rattle.std.proofs.Common.{refl, rules}
use Rattle.bser_serde_format.proofs.Firsts.{object_one}
use Rattle.bser_serde_format.proofs.Parts.{object_leaves}
use Rattle.bser_serde_format.proofs.walk.Walk.entries.Goals as goal

pub enter-requires-clause-inside : goal.enter-requires-clause-inside
enter-requires-clause-inside c z l =
    let a = c.args.self.now in
    object_one a.inner.form a.inner.levels _ a.rest.now _ z (search rules) (search rules) (search rules) c.in-Some.ensures (object_leaves _ _ z refl refl refl l)
