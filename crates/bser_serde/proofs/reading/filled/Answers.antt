-- The body is the one that the walk stays on.
use Rattle.std.proofs.Common.{refl, sym, subst, arith}
use Rattle.bser_serde_format.specs.Kept.{IsBodyOf, ValueBefore}
use Rattle.bser_serde.proofs.reading.filled.Goals as goal

pub new-kept-requires : goal.new-kept-requires
new-kept-requires g c = subst (λ o. IsBodyOf o g.K.KnownBody.levels c.args.body.bytes.now c.args.levels) (sym c.requires.bytes) (refl, c.requires.levels)

pub returns : goal.returns
returns g c =
    let v = subst (λ n. ValueBefore g.K.KnownBody.bytes n c.in_ok-left.left) c.requires.levels c.in_ok-left.ensures in
    let w = subst (λ o. ValueBefore o c.args.levels c.in_ok-left.left) c.requires.bytes v in
    let long = w.2 in
    record { rest = w.0; value = w.1; whole = omega (arith, long, c.in_ok-checked_add.ensures.1) }
