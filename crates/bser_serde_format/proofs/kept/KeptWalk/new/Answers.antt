-- A value begins.
use Rattle.std.proofs.Common.{◌≡◌, [], rules, sym, subst}
use Rattle.bser_serde_format.specs.Kept.{StaysOn}
use Rattle.bser_serde_format.proofs.Staying.{starts_on}
use Rattle.bser_serde_format.proofs.kept.KeptWalk.new.Goals as goal

pub invariant_of-result : goal.invariant_of-result
invariant_of-result g c =
    let none : c.new-saved.result.items ≡ [] = search rules in
    subst (StaysOn g.K.KnownBody.bytes g.K.KnownBody.levels c.new-walk.result) (sym none)
    (starts_on g.K.KnownBody.bytes g.K.KnownBody.levels c.args.levels c.args.bytes.now c.new-walk.result c.requires c.new-walk.ensures)
