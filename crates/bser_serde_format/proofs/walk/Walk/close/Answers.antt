-- Nothing is left of it.
use Rattle.std.proofs.Common.{◌∷◌, [], length, ap, length-append, refl, arith}
use Rattle.bser_serde_format.proofs.Onward.{none_left, closes}
use Rattle.bser_serde_format.proofs.walk.Walk.close.Goals as goal

pub returns : goal.returns
returns c =
    let a = c.args.self.now in
    let around = c.in-Some.ensures.items in
    closes a _ refl refl around
    (omega (arith, ap length around, length-append c.pop.new.self.items (c.in-Some.around ∷ [])))
    (none_left a.inner a.rest.now (c.is_spent.ensures c.if-not-is_spent.false))
